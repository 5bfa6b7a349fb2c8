-- `netlist::is_last_wire_outside` meets its contract: the sum of 32-bit numbers, one of them at most twice, is a 64-bit number.

use Prim.Native.Nat.{suc, ◌+◌, ◌*◌, ◌≤◌}
use mathlib.Core.Path.{sym}
use native.Mathlib.Nat.{mul-le-mul_right}
use native.Mathlib.Numerals.{add-one}
use native.Mathlib.Omega.{arith}
use Rattle.netlist.proofs.Faults.{outside_above}
use Rattle.netlist.proofs.is_last_wire_outside.Goals as goal

pub overflow_mul-result : goal.overflow_mul-result
overflow_mul-result c = let most : c.args.second_port * c.args.n ≤ 1 * c.args.n = mul-le-mul_right c.args.n c.requires in omega arith

pub overflow_add-result-3 : goal.overflow_add-result-3
overflow_add-result-3 c = let most : c.args.second_port * c.args.n ≤ 1 * c.args.n = mul-le-mul_right c.args.n c.requires in omega arith

pub overflow_add-result-4 : goal.overflow_add-result-4
overflow_add-result-4 c = let most : c.args.second_port * c.args.n ≤ 1 * c.args.n = mul-le-mul_right c.args.n c.requires in omega arith

pub returns : goal.returns
returns c =
    rw (add-one c.args.second_port) (sym (outside_above 600 (c.args.inputs + c.args.latches + suc c.args.second_port * c.args.n + c.args.gates)))
