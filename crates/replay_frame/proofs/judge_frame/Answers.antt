-- `replay_frame::judge_frame` meets its contract.

use Prim.Native.Nat.{ℕ, ◌+◌}
use mathlib.Core.Path.{◌≡◌, ◌∙◌, ap, ap₂}
use mathlib.Core.Bool.{Bool, not, ◌||◌}
use native.Mathlib.Omega.{arith}
use Rattle.model.specs.Netlist.{input_wire}
use Rattle.model.specs.Variables.{base}
use Rattle.model.proofs.Variables.{base-most}
use Rattle.netlist.specs.NetOf.{net_of, alone}
use Rattle.answer_signs.specs.Signs.{unclear_in}
use Rattle.replay_frame.specs.Replay.{fed_unclear}
use Rattle.circuit_step.proofs.Touched.{any_same}
use Rattle.replay_frame.proofs.judge_frame.Goals as goal

pub overflow_add-base : goal.overflow_add-base
unfolding net_of
overflow_add-base c =
    omega (arith, base-most (alone c.args.net) c.requires.0.sizes c.args.i (omega (arith, c.requires.1)), c.frame_base-base.ensures, c.requires.0.sizes)

pub any_unclear-input_fault-requires : goal.any_unclear-input_fault-requires
unfolding net_of
any_unclear-input_fault-requires c =
    omega (arith, base-most (alone c.args.net) c.requires.0.sizes c.args.i (omega (arith, c.requires.1)), c.frame_base-base.ensures, c.requires.0.sizes)

pub code_value-holds-requires : goal.code_value-holds-requires
unfolding net_of
code_value-holds-requires c =
    omega (arith, c.requires.0.sizes, c.requires.0.codes.P-fits)

pub returns : goal.returns
unfolding net_of fed_unclear
returns c =
    let d = alone c.args.net in
    let unclear : ℕ → Bool = unclear_in c.args.signs.now in
    record {
      fault-is =
          ap₂ ◌||◌
          (c.any_unclear-input_fault.ensures ∙ any_same d.inputs (λ x h. let e : c.frame_base-base.result + 1 + x ≡ base d c.args.i + input_wire d x = omega (arith, c.frame_base-base.ensures) in ap unclear e))
          c.any_read_unclear-read_fault.ensures;
      broken-is = ap not c.code_value-holds.ensures;
    }
