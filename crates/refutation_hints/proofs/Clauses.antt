-- The clauses in a list of numbers, number by number: that they have no end mark in them, and where one starts. No contract cites this file.
use Prim.Native.Nat.{ℕ, zero, suc, ◌+◌, ◌≤◌, ◌<◌}
use mathlib.Core.Path.{◌≡◌, refl, sym, ap, ◌∙◌}
use mathlib.Core.Bool.{Bool, true, false, ◌&&◌, ◌||◌, false≢true}
use mathlib.Core.List.{List, [], ◌∷◌, ◌++◌, append_assoc, append-nil}
use native.Mathlib.Numerals.{add-one}
use native.Mathlib.Omega.{arith}
use lib.Dec.{eqb}
use lib.IntN.{ℤ, pos, negsuc}
use lib.ListN.{length, get_or, drop, get_or-eq_default}
use lib.Seq.{drop-cons}
use Rattle.model.specs.Numbers.{split_after, clauses_in}
use Rattle.model.proofs.Booleans.{and-true}
use Rattle.model.proofs.Gather.{All, nothing, also}
use Rattle.answer_signs.specs.Signs.{same_number, among}
use Rattle.refutation_hints.specs.Propagation.{every, starts_at}
use Rattle.refutation_hints.specs.Marks.{slot_of}
use Rattle.refutation_hints.proofs.Marks.{slot_same}

-- a number that ends no clause
unfoldable pub is_number : ℤ → Bool
is_number (pos zero) = false
is_number (pos (suc v)) = true
is_number (negsuc v) = true

pub number-of-slot : (z : ℤ) → (slot_of z ≡ 0 → ⊥) → is_number z ≡ true
unfolding is_number
number-of-slot (pos zero) h = absurd (h refl)
number-of-slot (pos (suc v)) h = refl
number-of-slot (negsuc v) h = refl

-- a clause has no end mark in it
unfoldable pub NumbersOnly : List ℤ → Type 0
NumbersOnly c = every is_number c ≡ true

every_append : (f : ℤ → Bool) (xs ys : List ℤ) → every f xs ≡ true → every f ys ≡ true → every f (xs ++ ys) ≡ true
unfolding every
every_append f [] ys p q = q
every_append f (x ∷ xs) ys p q =
    let h = (and-true (f x) (every f xs)).0 p in
    (and-true (f x) (every f (xs ++ ys))).1 (h.0, every_append f xs ys h.1 q)

split-numbers_only : (begun zs : List ℤ) → NumbersOnly begun → All NumbersOnly (split_after begun zs)
unfolding split_after NumbersOnly every is_number
split-numbers_only begun [] h = nothing
split-numbers_only begun (pos zero ∷ zs) h = also h (split-numbers_only [] zs refl)
split-numbers_only begun (pos (suc v) ∷ zs) h = split-numbers_only (begun ++ pos (suc v) ∷ []) zs (every_append is_number begun (pos (suc v) ∷ []) h refl)
split-numbers_only begun (negsuc v ∷ zs) h = split-numbers_only (begun ++ negsuc v ∷ []) zs (every_append is_number begun (negsuc v ∷ []) h refl)

pub clauses_in-numbers_only : (zs : List ℤ) → All NumbersOnly (clauses_in zs)
unfolding clauses_in NumbersOnly every
clauses_in-numbers_only zs = split-numbers_only [] zs refl

-- what was begun stands in front of the first clause
unfoldable pub on_first : List ℤ → List (List ℤ) → List (List ℤ)
on_first begun [] = []
on_first begun (c ∷ cs) = (begun ++ c) ∷ cs

on_first-on_first : (a b : List ℤ) (cs : List (List ℤ)) → on_first (a ++ b) cs ≡ on_first a (on_first b cs)
unfolding on_first
on_first-on_first a b [] = refl
on_first-on_first a b (c ∷ cs) = ap (λ (x : List ℤ). x ∷ cs) (append_assoc a b c)

pub split-first : (begun zs : List ℤ) → split_after begun zs ≡ on_first begun (split_after [] zs)
unfolding split_after on_first
split-first begun [] = refl
split-first begun (pos zero ∷ zs) = ap (λ (x : List ℤ). x ∷ split_after [] zs) (sym (append-nil begun))
split-first begun (pos (suc v) ∷ zs) =
    split-first (begun ++ pos (suc v) ∷ []) zs ∙ on_first-on_first begun (pos (suc v) ∷ []) (split_after [] zs)
    ∙ ap (on_first begun) (sym (split-first (pos (suc v) ∷ []) zs))
split-first begun (negsuc v ∷ zs) =
    split-first (begun ++ negsuc v ∷ []) zs ∙ on_first-on_first begun (negsuc v ∷ []) (split_after [] zs)
    ∙ ap (on_first begun) (sym (split-first (negsuc v ∷ []) zs))

pub clauses_in-number : (z : ℤ) (zs : List ℤ) → is_number z ≡ true → clauses_in (z ∷ zs) ≡ on_first (z ∷ []) (clauses_in zs)
unfolding clauses_in split_after is_number
clauses_in-number (pos zero) zs h = absurd (false≢true h)
clauses_in-number (pos (suc v)) zs h = split-first (pos (suc v) ∷ []) zs
clauses_in-number (negsuc v) zs h = split-first (negsuc v ∷ []) zs

-- a clause starts behind an end mark
default : (zs : List ℤ) (i : ℕ) (x y : ℤ) → i < length zs → get_or zs i x ≡ get_or zs i y
default [] i x y l = absurd (omega arith)
default (z ∷ zs) zero x y l = refl
default (z ∷ zs) (suc i) x y l = default zs i x y (omega arith)

pub starts-front : (zs : List ℤ) (h : ℕ) → h ≡ 0 → starts_at zs h ≡ true
unfolding starts_at
starts-front zs zero e = refl
starts-front zs (suc h) e = absurd (omega arith)

pub starts-behind : (zs : List ℤ) (h b : ℕ) → suc b ≡ h → b < length zs → eqb (slot_of (get_or zs b (pos 0))) 0 ≡ starts_at zs h
unfolding starts_at
starts-behind zs h b e l =
    rw (← e) (slot_same (get_or zs b (pos 0)) (pos 0) ∙ ap (λ (z : ℤ). same_number z (pos 0)) (default zs b (pos 0) (pos 1) l))

pub starts-past : (zs : List ℤ) (h b : ℕ) → suc b ≡ h → length zs ≤ b → starts_at zs h ≡ false
unfolding starts_at same_number
starts-past zs h b e l = rw (← e, get_or-eq_default zs (pos 1) {n = b} l)

-- a place in a list: what holds of all from there on holds of the number there and of all behind it
pub every_here : (test : ℤ → Bool) (zs : List ℤ) (i : ℕ) → i < length zs
    → every test (drop i zs) ≡ (test (get_or zs i (pos 0)) && every test (drop (i + 1) zs))
unfolding every
every_here test zs i l = rw (add-one, drop-cons zs i (pos 0) l)

pub among-here : (z : ℤ) (zs : List ℤ) (i : ℕ) → i < length zs
    → among z (drop i zs) ≡ (same_number z (get_or zs i (pos 0)) || among z (drop (i + 1) zs))
unfolding among
among-here z zs i l = rw (add-one, drop-cons zs i (pos 0) l)
