-- `sheet_one_port::one_code` meets its contract: a code before the gates stays, any other is less by two for each read bit that goes.

use Prim.Native.Nat.{◌*◌, ◌≤◌}
use mathlib.Core.Path.{sym, ◌∙◌}
use native.Mathlib.Omega.{arith}
use borrow.Author.Tests.{ltb-true, ltb-false}
use Rattle.model.specs.Netlist.{gate_wire}
use Rattle.model.proofs.Ports.{second-most}
use Rattle.netlist.specs.NetOf.{net_of, alone}
use Rattle.sheet_one_port.proofs.OneCode.{code-before, code-behind}
use Rattle.sheet_one_port.proofs.one_code.Goals as goal
use Rattle.sheet_one_port.proofs.one_code.Goals.{Else-is_below}

pub returns-then-is_below : goal.returns-then-is_below
returns-then-is_below c =
    sym (code-before (alone c.args.net) c.args.code.0
    (rw c.first_gate_wire.ensures at (ltb-true c.args.code.0 (2 * c.first_gate_wire.result.0) (sym c.is_below.ensures ∙ c.if-is_below.true))))

-- the code is of a gate
behind : (c : Else-is_below) → 2 * gate_wire (alone c.args.net) 0 ≤ c.args.code.0
behind c =
    rw c.first_gate_wire.ensures at
    (ltb-false c.args.code.0 (2 * c.first_gate_wire.result.0) (sym c.is_below.ensures ∙ c.if-is_below.false))

pub overflow_mul-result : goal.overflow_mul-result
unfolding net_of
overflow_mul-result c =
    omega (arith, second-most c.requires c.args.net.n, c.requires.n-most)

pub overflow_mul-result-2 : goal.overflow_mul-result-2
unfolding net_of
overflow_mul-result-2 c =
    omega (arith, second-most c.requires c.args.net.n, c.requires.n-most)

pub overflow_sub-result : goal.overflow_sub-result
unfolding net_of
overflow_sub-result c = omega (arith, behind (goal.at.overflow_sub-result c).Else-is_below)

pub returns : goal.returns
unfolding net_of
returns c =
    sym (code-behind (alone c.args.net) c.args.code.0 (behind (goal.at.returns c).Else-is_below) (omega arith))
