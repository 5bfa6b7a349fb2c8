-- `replay_frame::read_unclear` meets its contract.

use Prim.Native.Nat.{ℕ, ◌+◌}
use mathlib.Core.Path.{◌≡◌, sym, ◌∙◌, ap}
use mathlib.Core.Bool.{Bool, not, ◌&&◌, ◌||◌}
use native.Mathlib.Omega.{arith}
use lib.Dec.{eqb}
use Rattle.model.specs.Netlist.{port, read_wire}
use Rattle.model.specs.Variables.{base}
use Rattle.model.proofs.Ports.{first-read-most}
use Rattle.model.proofs.Variables.{base-most}
use Rattle.netlist.specs.NetOf.{net_of, alone}
use Rattle.answer_signs.specs.Signs.{unclear_in}
use Rattle.circuit_step.proofs.Touched.{any_same}
use Rattle.replay_frame.proofs.read_unclear.Goals as goal

pub overflow_mul-read : goal.overflow_mul-read
unfolding net_of
overflow_mul-read c =
    omega (arith, first-read-most (alone c.args.net) c.args.port_number c.requires.2 c.requires.0.sizes, c.requires.0.sizes.n-most)

pub overflow_add-read : goal.overflow_add-read
unfolding net_of
overflow_add-read c =
    omega (arith, first-read-most (alone c.args.net) c.args.port_number c.requires.2 c.requires.0.sizes, c.first_read_wire.ensures, c.requires.0.sizes)

pub overflow_add-base : goal.overflow_add-base
unfolding net_of
overflow_add-base c =
    omega (arith, first-read-most (alone c.args.net) c.args.port_number c.requires.2 c.requires.0.sizes, c.first_read_wire.ensures, base-most (alone c.args.net) c.requires.0.sizes c.args.i (omega (arith, c.requires.1)), c.frame_base-base.ensures, c.requires.0.sizes)

pub any_unclear-requires : goal.any_unclear-requires
unfolding net_of
any_unclear-requires c =
    omega (arith, first-read-most (alone c.args.net) c.args.port_number c.requires.2 c.requires.0.sizes, c.first_read_wire.ensures, base-most (alone c.args.net) c.requires.0.sizes c.args.i (omega (arith, c.requires.1)), c.frame_base-base.ensures, c.requires.0.sizes)

pub returns-then-filled-i : goal.returns-then-filled-i
unfolding net_of
returns-then-filled-i c =
    let d = alone c.args.net in
    let unclear : ℕ → Bool = unclear_in c.args.signs.now in
    rw (sym (ap (λ reads. c.args.filled || (eqb c.args.i 0 && not reads)) c.is_reading-reads.ensures) ∙ c.if-filled-i.true)
    (c.any_unclear.ensures ∙ any_same d.n (λ t h.
    let e : c.frame_base-base.result + (c.first_read_wire.result.0 + (port d c.args.port_number).first_read) + t ≡ base d c.args.i + read_wire d ((port d c.args.port_number).first_read + t) = omega (arith, c.frame_base-base.ensures, c.first_read_wire.ensures) in ap unclear e))

pub returns : goal.returns
unfolding net_of
returns c =
    rw (sym (ap (λ reads. c.args.filled || (eqb c.args.i 0 && not reads)) c.is_reading-reads.ensures) ∙ c.if-filled-i.false)
