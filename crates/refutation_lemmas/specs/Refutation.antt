-- A refutation: lemmas, each of which follows by its hints from what stands before it, down to the empty one (RULES U3 and U5). Cited by `check`, and by
-- the check of a certificate.
use Rattle.std.specs.Prelude.{ℕ, suc, ◌≡◌, true, cond, ◌&&◌, List, [], ◌∷◌, ◌++◌, eqb, leb, ℤ, pos, length, take, drop}
use Rattle.model.specs.Numbers.{clauses_in, Assignment, all_true}
use Rattle.refutation_hints.specs.Propagation.{follows}
use Rattle.refutation_lemmas.specs.declared.Checked.{Checked}
use Rattle.refutation_lemmas.specs.declared.Checked.TheVariants.{Refuted, Unjustified}

-- lemma i and those behind it, with their hints: for each lemma how many, then the hints. Refuted where an empty lemma follows and all before
-- it do; else the first lemma that does not follow, or that is missing or has not as many hints as it says
unfoldable pub checked_from : ℕ → List ℤ → List (List ℤ) → List ℕ → ℕ → Checked
checked_from n known [] hints i = Unjustified i
checked_from n known (x ∷ xs) [] i = Unjustified i
checked_from n known (x ∷ xs) (count ∷ hints) i =
    cond (leb count (length hints) && follows n known x (take count hints))
    (cond (eqb (length x) 0) Refuted (checked_from n (known ++ x ++ pos 0 ∷ []) xs (drop count hints) (suc i)))
    (Unjustified i)

-- lemmas behind the numbers of a formula; a lemma that no end mark ends is none
unfoldable pub checked : ℕ → List ℤ → List ℤ → List ℕ → Checked
checked n formula lemmas hints = checked_from n formula (clauses_in lemmas) hints 0

-- no assignment makes all clauses of a formula true
abbrev pub Unsatisfiable : List ℤ → Type 0
Unsatisfiable formula = (a : Assignment) → all_true a (clauses_in formula) ≡ true → ⊥
