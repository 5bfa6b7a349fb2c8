-- A loop that writes one list a turn, each into the rest of the slice: its invariant, and the laws that start it, carry it on
-- and end it. No contract cites this file.
use Prim.Native.Nat.{ℕ, zero, suc, ◌+◌, ◌-◌, ◌*◌, ◌≤◌, ◌<◌}
use mathlib.Core.Path.{◌≡◌, refl}
use mathlib.Core.Bool.{Bool, true, false, ◌||◌}
use mathlib.Core.List.{List, [], ◌∷◌, ◌++◌, append_assoc}
use native.Mathlib.Nat.{le_antisymm, mul-le-mul_right}
use native.Mathlib.Numerals.{add-one}
use native.Mathlib.Omega.{arith}
use lib.IntN.{ℤ}
use lib.ListN.{length}
use borrow.Rule.Slice.PartMut.{mid_of, put_mid}
use Rattle.model.specs.Gather.{gather}
use Rattle.model.specs.Clauses.{Literal, Clause}
use Rattle.model.specs.Numbers.{kept_of, kept, has_true, written}
use Rattle.model.proofs.Joined.{written-append}
use Rattle.model.proofs.Classes.{has_true-append}
use Rattle.model.specs.Wrote.{Wrote}
use Rattle.clause_writer.proofs.Wrote.{wrote_nothing, wrote-length, rest-room, wrote_then}

-- gathered clauses are written one list after the other
pub written-gather : (n : ℕ) (f : ℕ → List Clause) → written (gather n f) ≡ gather n (λ t. written (f t))
unfolding gather written
written-gather zero f = refl
written-gather (suc n) f = rw (written-append (gather n f) (f n), written-gather n f)

-- what is kept of joined and gathered literals is kept one after the other
pub kept_append : (xs ys : List Literal) → kept (xs ++ ys) ≡ kept xs ++ kept ys
unfolding kept
kept_append [] ys = refl
kept_append (x ∷ xs) ys = rw (kept_append xs ys, append_assoc (kept_of x))

pub kept-gather : (n : ℕ) (f : ℕ → List Literal) → kept (gather n f) ≡ gather n (λ t. kept (f t))
unfolding gather kept
kept-gather zero f = refl
kept-gather (suc n) f = rw (kept_append (gather n f) (f n), kept-gather n f)

-- gathered literals of which each turn has a true one, or none has
or_same : (v : Bool) → (v || v) ≡ v
or_same true = refl
or_same false = refl

pub has_true-gather : (n : ℕ) (f : ℕ → List Literal) (v : Bool) → ((t : ℕ) → has_true (f t) ≡ v) → has_true (gather (suc n) f) ≡ v
unfolding gather
has_true-gather zero f v each = each 0
has_true-gather (suc n) f v each =
    rw (has_true-append (gather (suc n) f) (f (suc n)), has_true-gather n f v each, each (suc n)) (or_same v)

pub none-gather : (n : ℕ) (f : ℕ → List Literal) → ((t : ℕ) → has_true (f t) ≡ false) → has_true (gather n f) ≡ false
unfolding gather has_true
none-gather zero f each = refl
none-gather (suc n) f each = has_true-gather n f false each

-- after t turns of n, of at most s numbers each: the first t lists are written, and all of them have room
pub record Turns (n s : ℕ) (f : ℕ → List ℤ) (old new : List ℤ) (t at : ℕ) : Type 0 where
  pub turns : t ≤ n
  pub wrote : Wrote (gather t f) old new at
  pub most : at ≤ t * s
  pub room : n * s ≤ length old
  pub within : at ≤ length new
  pub kept : length new ≡ length old

-- before the first turn
pub turns-start : (n s : ℕ) (f : ℕ → List ℤ) (old : List ℤ) → n * s ≤ length old → Turns n s f old old 0 0
unfolding gather
turns-start n s f old h =
    record { turns = omega arith; wrote = wrote_nothing old; most = omega arith; room = h; within = omega arith; kept = refl }

module _ {n s : ℕ} {f : ℕ → List ℤ} {old new : List ℤ} {t at : ℕ} (w : Turns n s f old new t at) where
  -- one more turn has room for its numbers
  pub turns-room : t < n → s ≤ length (mid_of at (length new - at) new)
  turns-room h = rest-room w.wrote (omega (arith, mul-le-mul_right s h))

  -- and the count with them is a count of the slice's numbers
  pub turns-count : {r : ℕ} → t < n → r ≤ s → at + r ≤ length old
  turns-count h l = omega (arith, mul-le-mul_right s h)

  -- after it one list more is written
  pub turns_next : {part : List ℤ} {r : ℕ} → t < n → Wrote (f t) (mid_of at (length new - at) new) part r × (r ≤ s)
      → Turns n s f old (put_mid at (length new - at) new part) (t + 1) (at + r)
  unfolding gather
  turns_next {part} {r} h v =
      let both : Wrote (gather (t + 1) f) old (put_mid at (length new - at) new part) (at + r) = rw (add-one t) (wrote_then w.wrote v.0) in
      let count = turns-count h v.1 in
      let same : length (put_mid at (length new - at) new part) ≡ length old = wrote-length both (omega (arith, both.counted)) in
      record { turns = omega arith; wrote = both; most = omega arith; room = w.room; within = omega arith; kept = same }

  -- after the last turn all is written
  pub turns-end : n ≤ t → Wrote (gather n f) old new at × (at ≤ n * s)
  turns-end h = rw (le_antisymm h w.turns) (w.wrote, w.most)
