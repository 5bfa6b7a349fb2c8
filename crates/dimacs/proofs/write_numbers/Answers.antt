-- `dimacs::write_numbers` meets its contract. The loop's invariant: the text of the first numbers is written.

use Prim.Native.Nat.{ℕ, ◌+◌, ◌≤◌, ◌<◌}
use mathlib.Core.Path.{◌≡◌, refl}
use mathlib.Core.List.{List, ◌++◌}
use native.Mathlib.Numerals.{add-one}
use native.Mathlib.Omega.{arith}
use lib.IntN.{ℤ, pos}
use lib.ListN.{length, get_or, take}
use mir.Syntax.{w32}
use mir.Val.{SFits}
use Rattle.std.proofs.Common.{rules}
use Rattle.model.specs.Wrote.{Wrote}
use Rattle.decimal.proofs.Signed.{read_back}
use Rattle.dimacs.specs.Text.{number_text, clause_text}
use Rattle.dimacs.proofs.Text.{clause_text-next, clause_text-room}
use Rattle.dimacs.proofs.write_numbers.Goals as goal
use Rattle.dimacs.proofs.write_numbers.Goals.{After-write_number-at}

pub loop-z-init : goal.loop-z-init
unfolding clause_text
loop-z-init c = record { counted = refl; leaves = refl }

-- there is room for the number that is read
room :
    (numbers : List ℤ) (i at : ℕ) (start old : List ℕ) → i < length numbers → Wrote (clause_text (take i numbers)) start old at →
    length (clause_text numbers) ≤ length start → length old ≡ length start → at + length (number_text (get_or numbers i (pos 0))) ≤ length old
room numbers i at start old h w fits same = omega (arith, w.counted, clause_text-room numbers i h)

-- it is written behind the others
next :
    (c : After-write_number-at) →
    Wrote (clause_text (take c.loop-z.z-index c.args.numbers.now) ++ number_text (get_or c.args.numbers.now c.loop-z.z-index (pos 0))) c.args.out.now c.write_number-at.new.out c.write_number-at.result
next c =
    let z : ℤ = get_or c.args.numbers.now c.loop-z.z-index (pos 0) in
    let fits : SFits w32 z = search rules in
    (rw (read_back z fits) at c.write_number-at.ensures) (clause_text (take c.loop-z.z-index c.args.numbers.now)) c.args.out.now c.loop-z.invariant

pub write_number-at-requires : goal.write_number-at-requires
write_number-at-requires c =
    let numbers : List ℤ = c.args.numbers.now in
    let z : ℤ = get_or numbers c.loop-z.z-index (pos 0) in
    let fits : SFits w32 z = search rules in
    (c.requires.0, rw (read_back z fits) (room numbers c.loop-z.z-index c.loop-z.at c.args.out.now c.loop-z.out (omega arith) c.loop-z.invariant c.requires.1 (omega arith)))

pub loop-z-preserved : goal.loop-z-preserved
loop-z-preserved c = rw (add-one, clause_text-next c.args.numbers.now c.loop-z.z-index (omega arith)) (next (goal.at.loop-z-preserved c).After-write_number-at)
