-- Clauses written as numbers and split at 0 again: those with a true literal are left out, and of the others what is kept; where
-- variable 1 is true, an assignment makes them true exactly where it makes all of the clauses true. No contract cites this file.
use Prim.Native.Nat.{ℕ, zero, suc, zero-le, ◌≤◌}
use mathlib.Core.Path.{◌≡◌, refl, sym, ◌∙◌, ap, ap₂}
use mathlib.Core.Bool.{Bool, true, false, cond, not, ◌&&◌, ◌||◌, true≢false, false≢true, and_assoc}
use mathlib.Core.List.{List, [], ◌∷◌, ◌++◌, append_assoc, append-nil}
use mathlib.Core.Logic.{inl, inr}
use native.Mathlib.Omega.{arith}
use native.Mathlib.Nat.{not-suc-le-zero}
use lib.IntN.{ℤ, pos, negsuc, neg_ℤ}
use lib.ListN.{length}
use Rattle.model.specs.Clauses.{Literal, known, plus, minus, Clause, neg}
use Rattle.model.specs.Numbers.{literal_number, kept_of, kept, is_true, has_true, end_of, written_clause, written, split_after, clauses_in, Assignment, number_true, clause_true, all_true}
use Rattle.model.specs.Claim.{NoConstant}
use Rattle.model.proofs.Booleans.{or-true, and-true}
use Rattle.model.proofs.Gather.{Splits, All, nothing, also, just, ◌⧺◌, all-below-length}
use Rattle.model.proofs.Bounds.{Within, AllLits, or_minus_one, NumberWithin, kept-within, or_minus_one-within, ended}
use Rattle.model.proofs.Truth.{value, some_of, every_of}

-- to negate a literal is to turn the sign of its number, constants included (RULES W5)
pub literal_number-neg : (l : Literal) → literal_number (neg l) ≡ neg_ℤ (literal_number l)
unfolding neg
literal_number-neg (known true) = refl
literal_number-neg (known false) = refl
literal_number-neg (plus v) = refl
literal_number-neg (minus zero) = refl
literal_number-neg (minus (suc v)) = refl

-- the clauses that are written, as numbers
unfoldable pub shown : List Clause → List (List ℤ)
shown [] = []
shown (x ∷ xs) = cond (has_true x) [] (or_minus_one (kept x) ∷ []) ++ shown xs

pub shown-append : (xs ys : List Clause) → shown (xs ++ ys) ≡ shown xs ++ shown ys
unfolding shown
shown-append [] ys = refl
shown-append (x ∷ xs) ys = rw (shown-append xs ys, append_assoc (cond (has_true x) [] (or_minus_one (kept x) ∷ [])))

-- numbers that are no end marks end no clause
split-numbers : (b : ℕ) (ys : List ℤ) → All (NumberWithin 1 b) ys → (begun zs : List ℤ)
    → split_after begun (ys ++ pos 0 ∷ zs) ≡ (begun ++ ys) ∷ split_after [] zs
unfolding split_after
split-numbers b [] nothing begun zs = ap (λ (xs : List ℤ). xs ∷ split_after [] zs) (sym (append-nil begun))
split-numbers b (pos zero ∷ ys) (also h r) begun zs = absurd (not-suc-le-zero h.0)
split-numbers b (pos (suc v) ∷ ys) (also h r) begun zs =
    split-numbers b ys r (begun ++ pos (suc v) ∷ []) zs
    ∙ ap (λ (xs : List ℤ). xs ∷ split_after [] zs) (append_assoc begun (pos (suc v) ∷ []) ys)
split-numbers b (negsuc v ∷ ys) (also h r) begun zs =
    split-numbers b ys r (begun ++ negsuc v ∷ []) zs
    ∙ ap (λ (xs : List ℤ). xs ∷ split_after [] zs) (append_assoc begun (negsuc v ∷ []) ys)

-- one clause written before others
split-clause : (b : ℕ) (x : Clause) → 1 ≤ b → All (Within 1 b) x → (zs : List ℤ)
    → split_after [] (written_clause x ++ zs) ≡ cond (has_true x) [] (or_minus_one (kept x) ∷ []) ++ split_after [] zs
unfolding written_clause
split-clause b x h w zs = go (has_true x)
  where
    go : (t : Bool)
        → split_after [] (cond t [] (kept x ++ end_of (length (kept x))) ++ zs)
        ≡ cond t [] (or_minus_one (kept x) ∷ []) ++ split_after [] zs
    go true = refl
    go false =
        ap (λ (ys : List ℤ). split_after [] (ys ++ zs)) (ended (kept x))
        ∙ ap (split_after []) (append_assoc (or_minus_one (kept x)) (pos 0 ∷ []) zs)
        ∙ split-numbers b (or_minus_one (kept x)) (or_minus_one-within b (kept x) h (kept-within 1 b x w)) [] zs

-- written and split again
pub clauses_in-written : (b : ℕ) (xs : List Clause) → 1 ≤ b → AllLits (Within 1 b) xs → clauses_in (written xs) ≡ shown xs
unfolding clauses_in written split_after shown
clauses_in-written b [] h nothing = refl
clauses_in-written b (x ∷ xs) h (also w r) =
    split-clause b x h w (written xs)
    ∙ ap (λ (ys : List (List ℤ)). cond (has_true x) [] (or_minus_one (kept x) ∷ []) ++ ys) (clauses_in-written b xs h r)

-- no more clauses are written than there are
pub shown-length : (xs : List Clause) → length (shown xs) ≤ length xs
unfolding shown
shown-length [] = zero-le
shown-length (x ∷ xs) = go (has_true x) (shown-length xs)
  where
    go : (t : Bool) → length (shown xs) ≤ length xs → length (cond t [] (or_minus_one (kept x) ∷ []) ++ shown xs) ≤ suc (length xs)
    go true h = omega arith
    go false h = omega arith

-- the clause (1) is written as it stands
pub shown-one : (xs : List Clause) → shown ((plus 1 ∷ []) ∷ xs) ≡ (pos 1 ∷ []) ∷ shown xs
unfolding shown has_true is_true kept kept_of or_minus_one
shown-one xs = refl

-- a clause that is written of literals from 2 on is the single -1, or has numbers, none of them 1 or -1
or_minus_one-constants : (b : ℕ) (zs : List ℤ) → All (NumberWithin 2 b) zs → NoConstant (or_minus_one zs)
unfolding or_minus_one
or_minus_one-constants b [] nothing = inl refl
or_minus_one-constants b (z ∷ zs) r = inr (omega arith, λ y l. (all-below-length (pos 0) r y l).0)

pub shown-constants : (b : ℕ) (xs : List Clause) → AllLits (Within 2 b) xs → All NoConstant (shown xs)
unfolding shown
shown-constants b [] nothing = nothing
shown-constants b (x ∷ xs) (also w r) = go (has_true x) ⧺ shown-constants b xs r
  where
    go : (t : Bool) → All NoConstant (cond t [] (or_minus_one (kept x) ∷ []))
    go true = nothing
    go false = just (or_minus_one-constants b (kept x) (kept-within 2 b x w))

-- all of joined clauses of numbers are true where all of both are
all_true-append : (a : Assignment) (xs ys : List (List ℤ)) → all_true a (xs ++ ys) ≡ (all_true a xs && all_true a ys)
unfolding all_true
all_true-append a [] ys = refl
all_true-append a (x ∷ xs) ys =
    ap (λ (t : Bool). clause_true a x && t) (all_true-append a xs ys) ∙ sym (and_assoc (clause_true a x) (all_true a xs) (all_true a ys))

-- the clauses that are written are all true
unfoldable pub ShownTrue : Assignment → List Clause → Type 0
ShownTrue a xs = all_true a (shown xs) ≡ true

pub shown_true-splits : (a : Assignment) → Splits (ShownTrue a)
unfolding ShownTrue shown all_true
shown_true-splits a =
    record {
      of_none = refl;
      of-both = λ xs ys. rw (shown-append xs ys, all_true-append a (shown xs) (shown ys)) (and-true (all_true a (shown xs)) (all_true a (shown ys)));
    }

-- a clause with a true literal is true
has_true-some : (a : Assignment) (x : Clause) → has_true x ≡ true → some_of (value a) x ≡ true
unfolding has_true is_true some_of value
has_true-some a [] e = absurd (false≢true e)
has_true-some a (known true ∷ x) e = refl
has_true-some a (known false ∷ x) e = has_true-some a x e
has_true-some a (plus v ∷ x) e = (or-true (a v) (some_of (value a) x)).1 (inr (has_true-some a x e))
has_true-some a (minus v ∷ x) e = (or-true (not (a v)) (some_of (value a) x)).1 (inr (has_true-some a x e))

-- another one is true where what is kept of it is
kept-true : (a : Assignment) (b : ℕ) (x : Clause) → All (Within 1 b) x → has_true x ≡ false
    → clause_true a (kept x) ≡ some_of (value a) x
unfolding has_true is_true kept kept_of clause_true number_true some_of value
kept-true a b [] nothing e = refl
kept-true a b (known true ∷ x) (also h r) e = absurd (true≢false e)
kept-true a b (known false ∷ x) (also h r) e = kept-true a b x r e
kept-true a b (plus v ∷ x) (also h r) e = ap (λ (t : Bool). a v || t) (kept-true a b x r e)
kept-true a b (minus zero ∷ x) (also h r) e = absurd (not-suc-le-zero h.0)
kept-true a b (minus (suc v) ∷ x) (also h r) e = ap (λ (t : Bool). not (a (suc v)) || t) (kept-true a b x r e)

-- where variable 1 is true, -1 is as false as no number at all
minus_one-true : (a : Assignment) → a 1 ≡ true → (zs : List ℤ) → clause_true a (or_minus_one zs) ≡ clause_true a zs
unfolding or_minus_one clause_true number_true
minus_one-true a one [] = ap (λ (t : Bool). not t || false) one
minus_one-true a one (z ∷ zs) = refl

-- where variable 1 is true, the clauses that are written are all true exactly where all clauses are
pub shown-true : (a : Assignment) → a 1 ≡ true → (b : ℕ) (xs : List Clause) → AllLits (Within 1 b) xs
    → all_true a (shown xs) ≡ every_of (value a) xs
unfolding shown all_true every_of
shown-true a one b [] nothing = refl
shown-true a one b (x ∷ xs) (also w r) =
    all_true-append a (cond (has_true x) [] (or_minus_one (kept x) ∷ [])) (shown xs)
    ∙ ap₂ ◌&&◌ (go (has_true x) refl) (shown-true a one b xs r)
  where
    go : (t : Bool) → has_true x ≡ t → all_true a (cond t [] (or_minus_one (kept x) ∷ [])) ≡ some_of (value a) x
    go true e = sym (has_true-some a x e)
    go false e = both_true (clause_true a (or_minus_one (kept x))) ∙ minus_one-true a one (kept x) ∙ kept-true a b x w e
      where
        both_true : (t : Bool) → (t && true) ≡ t
        both_true true = refl
        both_true false = refl

-- assignments that agree on variables 1 to b agree on the numbers within b
number_same : (a a' : Assignment) (b : ℕ) → ((v : ℕ) → 1 ≤ v → v ≤ b → a v ≡ a' v)
    → (z : ℤ) → NumberWithin 1 b z → number_true a z ≡ number_true a' z
unfolding number_true
number_same a a' b same (pos v) h = same v h.0 h.1
number_same a a' b same (negsuc v) h = ap not (same (suc v) h.0 h.1)

numbers-same : (a a' : Assignment) (b : ℕ) → ((v : ℕ) → 1 ≤ v → v ≤ b → a v ≡ a' v)
    → (zs : List ℤ) → All (NumberWithin 1 b) zs → clause_true a zs ≡ clause_true a' zs
unfolding clause_true
numbers-same a a' b same [] nothing = refl
numbers-same a a' b same (z ∷ zs) (also h r) = ap₂ ◌||◌ (number_same a a' b same z h) (numbers-same a a' b same zs r)

-- and on the clauses that are written of literals that name no other
pub shown-same : (a a' : Assignment) (b : ℕ) → 1 ≤ b → ((v : ℕ) → 1 ≤ v → v ≤ b → a v ≡ a' v)
    → (xs : List Clause) → AllLits (Within 1 b) xs → all_true a (shown xs) ≡ all_true a' (shown xs)
unfolding shown all_true
shown-same a a' b h same [] nothing = refl
shown-same a a' b h same (x ∷ xs) (also w r) =
    all_true-append a (cond (has_true x) [] (or_minus_one (kept x) ∷ [])) (shown xs)
    ∙ ap₂ ◌&&◌ (go (has_true x)) (shown-same a a' b h same xs r)
    ∙ sym (all_true-append a' (cond (has_true x) [] (or_minus_one (kept x) ∷ [])) (shown xs))
  where
    go : (t : Bool)
        → all_true a (cond t [] (or_minus_one (kept x) ∷ [])) ≡ all_true a' (cond t [] (or_minus_one (kept x) ∷ []))
    go true = refl
    go false =
        ap (λ (t : Bool). t && true)
        (numbers-same a a' b same (or_minus_one (kept x)) (or_minus_one-within b (kept x) h (kept-within 1 b x w)))
