-- The laws of `Wrote` (model) as writers of clauses use them: one writer behind another with the lists left to be found.
-- No contract cites this file.
use Prim.Native.Nat.{ℕ, zero, suc, ◌+◌, ◌-◌, ◌≤◌}
use mathlib.Core.Path.{◌≡◌, refl, sym, ◌∙◌, ap}
use mathlib.Core.Bool.{Bool, true, false, cond, ◌||◌, or-false, or_assoc}
use mathlib.Core.List.{List, [], ◌∷◌, ◌++◌, append-nil, append_assoc}
use native.Mathlib.Omega.{arith}
use lib.Dec.{eqb}
use lib.IntN.{ℤ, pos, negsuc}
use lib.ListN.{length, length-append}
use borrow.Author.Tests.{ne_eqb}
use borrow.Rule.Slice.PartMut.{mid_of, put_mid}
use Rattle.model.specs.Clauses.{Literal, Clause}
use Rattle.model.specs.Numbers.{kept_of, kept, is_true, has_true, end_of, written_clause, written}
use Rattle.literals.specs.declared.Lit.{Lit}
use Rattle.literals.specs.declared.Term.{Term}
use Rattle.literals.specs.declared.Term.TheVariants.{Number}
use Rattle.literals.specs.Lit.{literal_at, IsLit, IsTerm}
use Rattle.model.specs.Wrote.{Wrote}
use Rattle.clause_writer.specs.EndedAfter.{ended_after}
use Rattle.model.proofs.Joined.{written-append}
use Rattle.model.proofs.Wrote as W
pub use Rattle.model.proofs.Wrote.{wrote_nothing, wrote-length, rest-room}

module _ {A : Type 0} {xs old mid : List A} {r : ℕ} (w : Wrote xs old mid r) where
  -- a second writer is lent the rest
  pub wrote_then : {ys part : List A} {s : ℕ} → Wrote ys (mid_of r (length mid - r) mid) part s
      → Wrote (xs ++ ys) old (put_mid r (length mid - r) mid part) (r + s)
  wrote_then {ys} {part} {s} v = W.wrote_then xs ys old mid part r s w v

-- a clause without a true literal: what is kept of its literals, and its end
pub clause-ended : (x : Clause) {old mid part : List ℤ} {r s : ℕ} → has_true x ≡ false → Wrote (kept x) old mid r
    → Wrote (end_of r) (mid_of r (length mid - r) mid) part s
    → Wrote (written (x ∷ [])) old (put_mid r (length mid - r) mid part) (r + s)
unfolding written written_clause
clause-ended x none w v =
    rw (none, append-nil (kept x ++ end_of (length (kept x))), sym w.counted) (wrote_then w v)

-- the end of a clause that is not left empty is the end mark alone
pub end-begun : (n : ℕ) → (n ≡ 0 → ⊥) → end_of n ≡ pos 0 ∷ []
unfolding end_of
end-begun zero h = absurd (h refl)
end-begun (suc n) h = refl

-- with its end it has at most one number more than literals, where it has any
pub end-most : {begun most s : ℕ} {old new : List ℤ} → Wrote (end_of begun) old new s → begun ≤ most → 1 ≤ most → begun + s ≤ most + 1
unfolding end_of
end-most {begun} {most} {s} w h l = go begun w.counted h
  where
    go : (n : ℕ) → s ≡ length (end_of n) → n ≤ most → n + s ≤ most + 1
    go zero e h = omega arith
    go (suc n) e h = omega arith

-- whether a clause of one, two or three literals has a true one, as it is tested
pub has_true-one : (a : Literal) → has_true (a ∷ []) ≡ is_true a
unfolding has_true
has_true-one a = or-false (is_true a)

pub has_true-two : (a b : Literal) → has_true (a ∷ b ∷ []) ≡ (is_true a || is_true b)
unfolding has_true
has_true-two a b = ap (λ (t : Bool). is_true a || t) (or-false (is_true b))

pub has_true-three : (a b c : Literal) → has_true (a ∷ b ∷ c ∷ []) ≡ ((is_true a || is_true b) || is_true c)
unfolding has_true
has_true-three a b c = ap (λ (t : Bool). is_true a || (is_true b || t)) (or-false (is_true c)) ∙ sym (or_assoc (is_true a) (is_true b) (is_true c))

-- what is kept of a clause of one, two or three literals
pub kept-one : (a : Literal) → kept (a ∷ []) ≡ kept_of a
unfolding kept
kept-one a = append-nil (kept_of a)

pub kept-two : (a b : Literal) → kept (a ∷ b ∷ []) ≡ kept_of a ++ kept_of b
unfolding kept
kept-two a b = ap (λ zs. kept_of a ++ zs) (append-nil (kept_of b))

pub kept-three : (a b c : Literal) → kept (a ∷ b ∷ c ∷ []) ≡ (kept_of a ++ kept_of b) ++ kept_of c
unfolding kept
kept-three a b c = ap (λ zs. kept_of a ++ (kept_of b ++ zs)) (append-nil (kept_of c)) ∙ sym (append_assoc (kept_of a) (kept_of b) (kept_of c))

-- of a clause that begins with two literals
pub kept-behind : (a b : Literal) (x : Clause) → kept (a ∷ b ∷ x) ≡ kept_of a ++ kept_of b ++ kept x
unfolding kept
kept-behind a b x = sym (append_assoc (kept_of a) (kept_of b) (kept x))

pub has_true-behind : (a b : Literal) (x : Clause) → has_true (a ∷ b ∷ x) ≡ (is_true a || is_true b || has_true x)
unfolding has_true
has_true-behind a b x = sym (or_assoc (is_true a) (is_true b) (has_true x))

pub has_true-five : (a b c d e : Literal) → has_true (a ∷ b ∷ c ∷ d ∷ e ∷ []) ≡ ((((is_true a || is_true b) || is_true c) || is_true d) || is_true e)
has_true-five a b c d e = has_true-behind a b (c ∷ d ∷ e ∷ []) ∙ rw (has_true-three c d e) (go (is_true a || is_true b))
  where
    go : (t : Bool) → (t || ((is_true c || is_true d) || is_true e)) ≡ (((t || is_true c) || is_true d) || is_true e)
    go true = refl
    go false = refl

-- a clause of two numbers, and of three: each is kept
pub written-two-numbers : (x y : ℤ)
    → written ((literal_at x ∷ literal_at y ∷ []) ∷ []) ≡ kept_of (literal_at x) ++ kept_of (literal_at y) ++ pos 0 ∷ []
unfolding written written_clause has_true is_true kept kept_of end_of literal_at
written-two-numbers (pos x) (pos y) = refl
written-two-numbers (pos x) (negsuc y) = refl
written-two-numbers (negsuc x) (pos y) = refl
written-two-numbers (negsuc x) (negsuc y) = refl

pub written-three-numbers : (x y z : ℤ)
    → written ((literal_at x ∷ literal_at y ∷ literal_at z ∷ []) ∷ [])
    ≡ kept_of (literal_at x) ++ written ((literal_at y ∷ literal_at z ∷ []) ∷ [])
unfolding written written_clause has_true is_true kept kept_of end_of literal_at
written-three-numbers (pos x) (pos y) (pos z) = refl
written-three-numbers (pos x) (pos y) (negsuc z) = refl
written-three-numbers (pos x) (negsuc y) (pos z) = refl
written-three-numbers (pos x) (negsuc y) (negsuc z) = refl
written-three-numbers (negsuc x) (pos y) (pos z) = refl
written-three-numbers (negsuc x) (pos y) (negsuc z) = refl
written-three-numbers (negsuc x) (negsuc y) (pos z) = refl
written-three-numbers (negsuc x) (negsuc y) (negsuc z) = refl

-- the last literals of a clause that is begun, and its end
pub begun-ended : (begun : ℕ) (x : Clause) {old mid part : List ℤ} {r s : ℕ} → Wrote (kept x) old mid r
    → Wrote (end_of (begun + r)) (mid_of r (length mid - r) mid) part s
    → Wrote (ended_after begun x) old (put_mid r (length mid - r) mid part) (r + s)
unfolding ended_after
begun-ended begun x w v = rw (sym w.counted) (wrote_then w v)

-- a clause without a true literal is what is kept of it and its end, or of its first two literals and the rest
pub written-ended : (x : Clause) → has_true x ≡ false → written (x ∷ []) ≡ ended_after 0 x
unfolding written written_clause ended_after
written-ended x none = rw (none, append-nil (kept x ++ end_of (length (kept x)))) (ap (λ (n : ℕ). kept x ++ end_of n) (omega arith))

pub written_behind : (a b : Literal) (x : Clause) → has_true (a ∷ b ∷ x) ≡ false
    → written ((a ∷ b ∷ x) ∷ []) ≡ (kept_of a ++ kept_of b) ++ ended_after (length (kept_of a ++ kept_of b)) x
unfolding written written_clause ended_after
written_behind a b x none =
    rw (none, append-nil (kept (a ∷ b ∷ x) ++ end_of (length (kept (a ∷ b ∷ x)))), kept-behind a b x, length-append (kept_of a ++ kept_of b) (kept x))
    (append_assoc (kept_of a ++ kept_of b) (kept x) (end_of (length (kept_of a ++ kept_of b) + length (kept x))))

-- one with a true literal is left out
pub clause-left-out : (x : Clause) (old : List ℤ) → has_true x ≡ true → Wrote (written (x ∷ [])) old old 0
unfolding written written_clause
clause-left-out x old has = rw has (wrote_nothing old)

-- clauses, and clauses behind them
pub wrote-clauses : (xs ys : List Clause) {old mid part : List ℤ} {r s : ℕ} → Wrote (written xs) old mid r
    → Wrote (written ys) (mid_of r (length mid - r) mid) part s
    → Wrote (written (xs ++ ys)) old (put_mid r (length mid - r) mid part) (r + s)
wrote-clauses xs ys w v = rw (written-append xs ys) (wrote_then w v)

-- what a term is that is a number, as `search` looks for it
pub number-is-lit : (a : Term) (l : Lit) → a ≡ Number l → IsTerm a → IsLit l
number-is-lit a l e h = rw e at h

-- room for what depends on whether frame i is the first, as `search` looks for it
pub room-later : (i x y l : ℕ) → cond (eqb i 0) x y ≤ l → (i ≡ 0 → ⊥) → y ≤ l
room-later i x y l h n = rw (ne_eqb i 0 n) at h
