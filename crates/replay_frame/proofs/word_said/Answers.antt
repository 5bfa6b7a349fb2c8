-- `replay_frame::word_said` meets its contract: its bits are the variables of frame i's read bits.

use Prim.Native.Nat.{◌+◌}
use mathlib.Core.Path.{◌≡◌, ◌∙◌, ap}
use native.Mathlib.Omega.{arith}
use Rattle.model.specs.Netlist.{read_wire}
use Rattle.model.specs.Variables.{base}
use Rattle.model.proofs.Bits.{from_bits-same}
use Rattle.model.proofs.Variables.{base-most}
use Rattle.netlist.specs.NetOf.{net_of, alone}
use Rattle.answer_signs.specs.Signs.{true_in}
use Rattle.replay_frame.specs.Replay.{word_said}
use Rattle.replay_frame.proofs.word_said.Goals as goal

pub overflow_add-base : goal.overflow_add-base
unfolding net_of
overflow_add-base c =
    omega (arith, c.first_read_wire-read.ensures, base-most (alone c.args.net) c.requires.0 c.args.i (omega (arith, c.requires.1)), c.frame_base-base.ensures, c.requires.0)

pub word_of-requires : goal.word_of-requires
unfolding net_of
word_of-requires c =
    (omega (arith, c.requires.0), omega (arith, c.first_read_wire-read.ensures, base-most (alone c.args.net) c.requires.0 c.args.i (omega (arith, c.requires.1)), c.frame_base-base.ensures, c.requires.0))

pub returns : goal.returns
unfolding net_of word_said
returns c =
    let d = alone c.args.net in
    c.word_of.ensures
    ∙ from_bits-same c.args.net.n (λ t. true_in c.args.signs.now (c.frame_base-base.result + c.first_read_wire-read.result.0 + t)) (λ t. true_in c.args.signs.now (base d c.args.i + read_wire d t))
    (λ t h. let e : c.frame_base-base.result + c.first_read_wire-read.result.0 + t ≡ base d c.args.i + read_wire d t = omega (arith, c.frame_base-base.ensures, c.first_read_wire-read.ensures) in ap (true_in c.args.signs.now) e)
