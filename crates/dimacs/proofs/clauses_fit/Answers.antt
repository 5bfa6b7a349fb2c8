-- `dimacs::clauses_fit` meets its contract. The loop's invariant: what remains, and the text of the first numbers, are the room.

use Prim.Native.Nat.{ℕ, ◌+◌}
use mathlib.Core.Path.{◌≡◌, ap, sym, ◌∙◌}
use mathlib.Core.List.{List, [], ◌∷◌}
use native.Mathlib.Nat.{add-zero}
use native.Mathlib.Numerals.{add-one}
use native.Mathlib.Omega.{arith}
use borrow.Author.Tests.{lt-leb}
use lib.IntN.{ℤ, pos}
use lib.ListN.{length, length-append, get_or, take}
use Rattle.std.proofs.Common.{rules}
use Rattle.decimal.specs.Digits.{signed_digits}
use Rattle.decimal.proofs.Signed.{read_back}
use Rattle.dimacs.specs.Text.{behind, number_text, clause_text}
use Rattle.dimacs.proofs.Text.{clause_text-next, clause_text-room}
use Rattle.dimacs.proofs.clauses_fit.Goals as goal
use Rattle.dimacs.proofs.clauses_fit.Goals.{After-number_length-need}

-- what the number at i needs
need :
    (c : After-number_length-need) →
    c.number_length-need.result + 1 ≡ length (number_text (get_or c.args.numbers.now c.loop-z.z-index (pos 0)))
need c =
    let numbers : List ℤ = c.args.numbers.now in
    let z : ℤ = get_or numbers c.loop-z.z-index (pos 0) in
    let counted : c.number_length-need.result ≡ length (signed_digits z) =
    c.number_length-need.ensures.0 ∙ ap (λ (z : ℤ). length (signed_digits z)) (read_back z (search rules)) in
    omega (arith, counted, length-append (signed_digits z) (behind z ∷ []))

pub loop-z-init : goal.loop-z-init
unfolding clause_text
loop-z-init c = add-zero c.args.room

pub returns-then-remaining-need : goal.returns-then-remaining-need
returns-then-remaining-need c =
    let numbers : List ℤ = c.args.numbers.now in
    sym (lt-leb (length (clause_text numbers)) c.args.room (omega (arith, need (goal.at.returns-then-remaining-need c).After-number_length-need, c.loop-z.invariant, clause_text-room numbers c.loop-z.z-index (omega arith))))

pub loop-z-preserved : goal.loop-z-preserved
loop-z-preserved c =
    let numbers : List ℤ = c.args.numbers.now in
    let text : List ℕ = number_text (get_or numbers c.loop-z.z-index (pos 0)) in
    rw (add-one c.loop-z.z-index, clause_text-next numbers c.loop-z.z-index (omega arith), length-append (clause_text (take c.loop-z.z-index numbers)) text) (omega (arith, need (goal.at.loop-z-preserved c).After-number_length-need, c.loop-z.invariant))
