-- A law of one step as four terms, the forms that laws have, and the clause of one (RULES H4). None of this is believed: every law is proved to hold. Cited
-- by the functions of this crate, by the laws that may be asked for and by what writes their clauses.
use Rattle.std.specs.Prelude.{ℕ, ◌+◌, Bool, cond, ◌&&◌, List, [], ◌∷◌, eqb, ltb, ℤ, pos}
use Rattle.invariant_terms.specs.Terms.{term, opposite, number_of}
use Rattle.invariant_laws.specs.declared.Law.{Law}

unfoldable pub law_of : ℕ → ℕ → ℕ → ℕ → Law
law_of guard second left right = record { guard = guard; second = second; left = left; right = right }

-- one that says nothing
unfoldable pub no_law : Law
no_law = law_of 0 0 0 0

-- wire 0 and its opposite are the constants
unfoldable pub false_term : ℕ → ℕ
false_term b = term b 1 0

unfoldable pub true_term : ℕ → ℕ
true_term b = false_term b + 1

-- two terms that are equal; equal where two terms are true, or one is; and equal where one is false
unfoldable pub same : ℕ → ℕ → ℕ → Law
same b left right = law_of (false_term b) (false_term b) left right

unfoldable pub where_both : ℕ → ℕ → ℕ → ℕ → Law
where_both x y left right = law_of (opposite x) (opposite y) left right

unfoldable pub where_true : ℕ → ℕ → ℕ → Law
where_true x left right = where_both x x left right

unfoldable pub where_false : ℕ → ℕ → ℕ → Law
where_false x left right = law_of x x left right

-- one of four, by number
unfoldable pub pick : ℕ → Law → Law → Law → Law → Law
pick k a b c d = cond (eqb k 0) a (cond (eqb k 1) b (cond (eqb k 2) c d))

-- whether its terms have clause numbers
unfoldable pub law_fits : Law → Bool
law_fits x = ltb x.guard 4294967294 && ltb x.second 4294967294 && ltb x.left 4294967292 && ltb x.right 4294967292

-- the clause of one direction of a law, of five numbers; of one that has no clause numbers nothing is said
unfoldable pub clause_of : ℕ → Law → List ℤ
clause_of direction x =
    cond (law_fits x)
    (number_of x.guard ∷ number_of x.second ∷ number_of (cond (eqb direction 0) (opposite x.left) x.left)
    ∷ number_of (cond (eqb direction 0) x.right (opposite x.right)) ∷ pos 0 ∷ [])
    (number_of 0 ∷ number_of 0 ∷ number_of 1 ∷ number_of 1 ∷ pos 0 ∷ [])
