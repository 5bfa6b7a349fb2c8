-- `refutation_lemmas::is_justified` meets its contract.

use Prim.Native.Nat.{◌+◌, ◌-◌}
use mathlib.Core.Path.{◌≡◌}
use native.Mathlib.Omega.{arith}
use lib.ListN.{length, drop, length-take, length-drop}
use borrow.Author.Tests.{le-leb, lt-leb}
use Rattle.refutation_lemmas.proofs.is_justified.Goals as goal

pub slice_bounds-lemma_follows-end : goal.slice_bounds-lemma_follows-end
slice_bounds-lemma_follows-end c = simp length-take (omega arith)

pub returns-then-count-hints : goal.returns-then-count-hints
returns-then-count-hints c =
    let own : c.args.first + c.args.count - c.args.first ≡ c.args.count = omega arith in
    let there = c.if-count-hints.true in record { answer = rw (le-leb c.args.count (length (drop c.args.first c.args.hints.now)) (simp length-drop there)) (rw own at c.lemma_follows.ensures.answer); scratch = c.lemma_follows.ensures.scratch }

pub returns : goal.returns
returns c =
    record { answer = rw (lt-leb c.args.count (length (drop c.args.first c.args.hints.now)) (simp length-drop c.if-count-hints.false)); scratch = λ s. omega (arith, c.requires.3 s) }
