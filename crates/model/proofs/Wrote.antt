-- Laws of specs/Wrote.antt: a second writer is lent the rest of the slice, and what room it has there. The part of a slice that is
-- lent, and what comes back, are the borrow checker's `mid_of` and `put_mid`. No contract cites this file.
use Prim.Native.Nat.{ℕ, ◌+◌, ◌-◌, ◌≤◌, ◌<◌}
use mathlib.Core.Path.{◌≡◌, refl, sym, ◌∙◌, ap}
use mathlib.Core.List.{List, [], ◌∷◌, ◌++◌, append_assoc, append-nil}
use native.Mathlib.Omega.{arith}
use lib.ListN.{length, drop, set, length-append, length-drop, drop_of_length-le}
use lib.Seq.{take_all, take-append_seam, drop-append_seam, drop-drop}
use borrow.Rule.Slice.PartMut.{mid_of, put_mid}
use Rattle.model.specs.Wrote.{Wrote}

-- nothing written
pub wrote_nothing : {A : Type 0} (old : List A) → Wrote [] old old 0
wrote_nothing old = record { counted = refl; leaves = refl }

-- the part of a slice behind a list, and the slice when another part is put back there
module _ {A : Type 0} (a rest : List A) where
  rest_of : mid_of (length a) (length (a ++ rest) - length a) (a ++ rest) ≡ rest
  rest_of = rw (drop-append_seam a rest) (take_all (length (a ++ rest) - length a) rest (rw length-append (omega arith)))

  put_rest : (part : List A) → put_mid (length a) (length (a ++ rest) - length a) (a ++ rest) part ≡ a ++ part
  put_rest part =
      let n : length rest ≤ length (a ++ rest) - length a = rw length-append (omega arith) in
      rw (take-append_seam a rest, drop-append_seam a rest, drop_of_length-le rest n, append-nil part)

-- one list, and then another into the rest of the slice, which comes back as a part: both, one behind the other
pub wrote_then :
    {A : Type 0} (a b old mid part : List A) (i j : ℕ) → Wrote a old mid i →
    Wrote b (mid_of i (length mid - i) mid) part j → Wrote (a ++ b) old (put_mid i (length mid - i) mid part) (i + j)
wrote_then {A} a b old mid part i j first second =
    let rest : List A = drop (length a) old in
    let lent : mid_of i (length mid - i) mid ≡ rest = rw (first.counted, first.leaves) (rest_of a rest) in
    let back : put_mid i (length mid - i) mid part ≡ a ++ part = rw (first.counted, first.leaves) (put_rest a rest part) in
    let behind : part ≡ b ++ drop (length b) rest = second.leaves ∙ rw lent in
    let beyond : drop (length b) rest ≡ drop (length (a ++ b)) old = drop-drop (length b) (length a) old ∙ rw length-append in
    record {
      counted = rw (length-append, first.counted, second.counted);
      leaves = back ∙ rw (behind, beyond) (sym (append_assoc a b (drop (length (a ++ b)) old)));
    }

-- one element alone
pub wrote_one : {A : Type 0} (x : A) (old : List A) → 0 < length old → Wrote (x ∷ []) old (set old 0 x) 1
wrote_one x [] h = absurd (omega arith)
wrote_one x (y ∷ old) h = record { counted = refl; leaves = refl }

module _ {A : Type 0} {xs old mid : List A} {r : ℕ} (w : Wrote xs old mid r) where
  -- where there is room, the slice stays as long as it was
  pub wrote-length : length xs ≤ length old → length mid ≡ length old
  wrote-length h = ap length w.leaves ∙ simp (length-append, length-drop) (omega arith)

  -- the rest begins within the slice
  pub rest-within : r ≤ length old → r ≤ length mid
  rest-within h = omega (arith, wrote-length (omega (arith, w.counted)))

  -- and has the room that is left
  pub rest-room : {n : ℕ} → r + n ≤ length old → n ≤ length (mid_of r (length mid - r) mid)
  rest-room h = rw (w.counted, w.leaves, rest_of xs (drop (length xs) old), length-drop) (omega (arith, w.counted))
