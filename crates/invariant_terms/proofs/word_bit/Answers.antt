-- `invariant_terms::word_bit` meets its contract.

use Rattle.model.proofs.Ports.{second-most}
use Rattle.netlist.specs.NetOf.{net_of}
use native.Mathlib.Nat.{mul-le-mul}
use Rattle.invariant_terms.specs.StateBits.{word_bit}
use native.Mathlib.Omega.{arith}
use Prim.Native.Nat.{◌*◌, ◌≤◌}
use Rattle.invariant_terms.proofs.word_bit.Goals as goal
use Rattle.invariant_terms.proofs.word_bit.Goals.{After-struct_known-2-1}

-- a word's first bit is within bounds
product : (c : After-struct_known-2-1) → c.args.x * c.args.net.n ≤ 4294967295 * 32
unfolding net_of
product c = let x : c.args.x ≤ 4294967295 = omega arith in mul-le-mul x c.requires.0.n-most

pub overflow_mul-result : goal.overflow_mul-result
unfolding net_of
overflow_mul-result c = record { fits = omega (arith, product c) }

pub overflow_add-result-2 : goal.overflow_add-result-2
unfolding net_of
overflow_add-result-2 c = record { fits = omega (arith, product c) }

pub overflow_add-result-3 : goal.overflow_add-result-3
unfolding net_of
overflow_add-result-3 c = record { fits = omega (arith, product c, second-most c.requires.0 c.args.net.n, c.read_count.ensures) }

pub returns : goal.returns
unfolding net_of word_bit
returns c =
    let second = second-most c.requires.0 c.args.net.n in
    (omega (arith, c.read_count.ensures), omega (arith, product c, second, c.read_count.ensures))
