-- `refutation_hints::lemma_follows` meets its contract.

use Prim.Native.Nat.{ℕ, ◌/◌}
use mathlib.Core.Path.{sym, ap, ◌∙◌, fun_ext}
use mathlib.Core.Bool.{Bool}
use lib.IntN.{ℤ}
use lib.ListN.{length}
use Rattle.refutation_hints.specs.Propagation.{propagates, follows}
use Rattle.refutation_hints.specs.Marks.{false_in}
use Rattle.refutation_hints.proofs.lemma_follows.Goals as goal

pub returns-then-mark_lemma : goal.returns-then-mark_lemma
unfolding follows
returns-then-mark_lemma c =
    let taken = c.if-mark_lemma.true in
    let all = sym c.mark_lemma.ensures.answer ∙ taken in
    record {
      answer = rw all
          (c.propagate.ensures.answer
          ∙ ap (λ (k : ℕ). propagates (k / 2) c.args.known.now (false_in c.mark_lemma.new.marks c.args.turn) c.args.hints.now) c.mark_lemma.auto.marks
          ∙ ap (λ (f : ℤ → Bool). propagates (length c.args.marks.now / 2) c.args.known.now f c.args.hints.now) (fun_ext (c.mark_lemma.ensures.marked taken)));
      scratch = c.propagate.ensures.scratch;
    }

pub returns : goal.returns
unfolding follows
returns c =
    let some = sym c.mark_lemma.ensures.answer ∙ c.if-mark_lemma.false in
    record { answer = rw some; scratch = c.mark_lemma.ensures.scratch }
