-- `refutation_hints::mark_lemma` meets its contract. What is marked and what is left of the lemma are the lemma.

use Prim.Native.Nat.{◌+◌, ◌*◌, ◌/◌, ◌<◌}
use mathlib.Core.Path.{◌≡◌, refl, sym, ◌∙◌}
use mathlib.Core.Bool.{false≢true, or-false}
use native.Mathlib.Omega.{arith}
use borrow.Author.Tests.{lt-ltb, le-ltb}
use lib.IntN.{pos}
use lib.ListN.{length, get_or, drop, length-set, drop_of_length-le}
use Rattle.answer_signs.specs.Signs.{among}
use Rattle.refutation_hints.specs.Propagation.{every, within}
use Rattle.refutation_hints.specs.Marks.{slot_of, false_in}
use Rattle.refutation_hints.proofs.Marks.{slot_read, slot-within, none-false, marked_more, up_to-more}
use Rattle.refutation_hints.proofs.Clauses.{every_here, among-here}
use Rattle.refutation_hints.proofs.mark_lemma.Goals as goal
use Rattle.refutation_hints.proofs.mark_lemma.Goals.{After-slot-s}

-- what is read at the loop's place
read : (c : After-slot-s) →
    c.slot-s.result ≡ slot_of (get_or c.args.lemma.now c.loop-number.number-index (pos 0))
read c =
    c.slot-s.ensures
    ∙ slot_read c.args.lemma.now c.loop-number.number-index (omega arith)

pub loop-number-init : goal.loop-number-init
loop-number-init c = (
  refl,
  λ s. omega (arith, c.requires s),
  refl,
  λ z. rw (none-false c.args.marks.now c.args.turn c.requires z),
)

pub returns-then-limit-s : goal.returns-then-limit-s
returns-then-limit-s c =
    let n = length c.args.marks.now / 2 in
    let z = get_or c.args.lemma.now c.loop-number.number-index (pos 0) in
    let past = slot-within n z ∙ le-ltb (slot_of z) (n * 2) (rw (read (goal.at.returns-then-limit-s c).After-slot-s) at c.if-limit-s.true) in
    let here = every_here (within n) c.args.lemma.now c.loop-number.number-index c.loop-number-test.true in
    record { answer = sym (rw past at here) ∙ c.loop-number.invariant.2; marked = λ e. absurd (false≢true e); scratch = c.loop-number.invariant.1 }

pub loop-number-preserved : goal.loop-number-preserved
loop-number-preserved c =
    let n = length c.args.marks.now / 2 in
    let z = get_or c.args.lemma.now c.loop-number.number-index (pos 0) in
    let is = read (goal.at.loop-number-preserved c).After-slot-s in
    let taken = c.loop-number-test.true in
    let low = rw is at c.if-limit-s.false in
    let room : slot_of z < length c.loop-number.marks = omega (arith, low, c.loop-number.invariant.0) in
    let marked = slot-within n z ∙ lt-ltb (slot_of z) (n * 2) low in (
      simp length-set c.loop-number.invariant.0,
      rw is (up_to-more c.loop-number.marks c.args.turn (slot_of z) room c.loop-number.invariant.1),
      sym (rw marked at (every_here (within n) c.args.lemma.now c.loop-number.number-index taken)) ∙ c.loop-number.invariant.2,
      rw is
          (λ y. marked_more c.loop-number.marks c.args.turn z room y (among y (drop (c.loop-number.number-index + 1) c.args.lemma.now)) (among y c.args.lemma.now)
          (rw (among-here y c.args.lemma.now c.loop-number.number-index taken) at (c.loop-number.invariant.3 y))),
    )

pub returns : goal.returns
unfolding every among
returns c =
    let none = drop_of_length-le c.args.lemma.now c.loop-number-test.false in
    record {
      answer = rw none at c.loop-number.invariant.2;
      marked = λ e z. sym (or-false (false_in c.loop-number.marks c.args.turn z)) ∙ rw none at (c.loop-number.invariant.3 z);
      scratch = c.loop-number.invariant.1;
    }
