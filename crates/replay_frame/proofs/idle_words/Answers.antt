-- `replay_frame::idle_words` meets its contract: port by port its bits are the variables of frame 0's read bits.

use Prim.Native.Nat.{ℕ, ◌+◌, ◌<◌}
use mathlib.Core.Path.{◌≡◌, ◌∙◌, ap}
use mathlib.Core.Bool.{Bool}
use native.Mathlib.Omega.{arith}
use Rattle.model.specs.Bits.{bit}
use Rattle.model.specs.Netlist.{port, read_wire}
use Rattle.model.specs.Variables.{base}
use Rattle.model.specs.Claim.{idle_of}
use Rattle.model.proofs.Bits.{bit-from_bits}
use Rattle.model.proofs.Ports.{by-port, each-bit}
use Rattle.model.proofs.Variables.{base-most}
use Rattle.netlist.specs.NetOf.{net_of, alone}
use Rattle.answer_signs.specs.Signs.{true_in}
use Rattle.replay_frame.proofs.idle_words.Goals as goal

pub frame_base-requires : goal.frame_base-requires
frame_base-requires c = (c.requires, omega arith)

pub overflow_add-read : goal.overflow_add-read
unfolding net_of
overflow_add-read c =
    omega (arith, base-most (alone c.args.net) c.requires 0 (omega arith), c.frame_base.ensures, c.first_read_wire.ensures, c.requires)

pub word_of-first-requires : goal.word_of-first-requires
unfolding net_of
word_of-first-requires c =
    (c.requires.n-most, omega (arith, base-most (alone c.args.net) c.requires 0 (omega arith), c.frame_base.ensures, c.first_read_wire.ensures, c.requires))

pub returns-then-net-eq0 : goal.returns-then-net-eq0
unfolding net_of idle_of
returns-then-net-eq0 c =
    let d = alone c.args.net in
    let value : ℕ → Bool = true_in c.args.signs.now in
    each-bit d (λ x. bit c.word_of-first.result x ≡ value (base d 0 + read_wire d x))
    (by-port c.requires (λ p. (t : ℕ) → t < d.n → bit c.word_of-first.result ((port d p).first_read + t) ≡ value (base d 0 + read_wire d ((port d p).first_read + t)))
    (λ t h.
    let here : (port d 1).first_read + t ≡ t = omega arith in
    let variable : c.frame_base.result + c.first_read_wire.result.0 + t ≡ base d 0 + read_wire d ((port d 1).first_read + t) = omega (arith, c.frame_base.ensures, c.first_read_wire.ensures) in
    rw here (ap (λ x. bit x t) c.word_of-first.ensures ∙ bit-from_bits d.n (λ t. value (c.frame_base.result + c.first_read_wire.result.0 + t)) t h) ∙ ap value variable)
    (λ second. absurd (omega (arith, second, c.if-net-eq0.true))))

pub overflow_add-read-2 : goal.overflow_add-read-2
unfolding net_of
overflow_add-read-2 c =
    omega (arith, base-most (alone c.args.net) c.requires 0 (omega arith), c.frame_base.ensures, c.first_read_wire.ensures, c.requires)

pub word_of-second-requires : goal.word_of-second-requires
unfolding net_of
word_of-second-requires c =
    (c.requires.n-most, omega (arith, base-most (alone c.args.net) c.requires 0 (omega arith), c.frame_base.ensures, c.first_read_wire.ensures, c.requires))

pub two_words-requires : goal.two_words-requires
unfolding net_of
two_words-requires c = c.requires.n-most

pub returns : goal.returns
unfolding net_of idle_of
returns c =
    let d = alone c.args.net in
    let value : ℕ → Bool = true_in c.args.signs.now in
    each-bit d (λ x. bit c.two_words.result x ≡ value (base d 0 + read_wire d x))
    (by-port c.requires (λ p. (t : ℕ) → t < d.n → bit c.two_words.result ((port d p).first_read + t) ≡ value (base d 0 + read_wire d ((port d p).first_read + t)))
    (λ t h.
    let here : (port d 1).first_read + t ≡ t = omega arith in
    let variable : c.frame_base.result + c.first_read_wire.result.0 + t ≡ base d 0 + read_wire d ((port d 1).first_read + t) = omega (arith, c.frame_base.ensures, c.first_read_wire.ensures) in
    rw here ((c.two_words.ensures t h).0 ∙ ap (λ x. bit x t) c.word_of-first.ensures ∙ bit-from_bits d.n (λ t. value (c.frame_base.result + c.first_read_wire.result.0 + t)) t h) ∙ ap value variable)
    (λ second t h.
    let here : (port d 2).first_read + t ≡ d.n + t = omega arith in
    let variable : c.frame_base.result + c.first_read_wire.result.0 + d.n + t ≡ base d 0 + read_wire d ((port d 2).first_read + t) = omega (arith, c.frame_base.ensures, c.first_read_wire.ensures) in
    rw here ((c.two_words.ensures t h).1 ∙ ap (λ x. bit x t) c.word_of-second.ensures ∙ bit-from_bits d.n (λ t. value (c.frame_base.result + c.first_read_wire.result.0 + d.n + t)) t h) ∙ ap value variable))
