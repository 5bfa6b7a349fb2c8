-- Laws of `Wrote` and `Extends`: two bytes, three, four, room for a second writer behind a first, and bytes set
-- behind what is written. No contract cites this file.
use Prim.Native.Nat.{ℕ, ◌+◌, ◌-◌, ◌≤◌, ◌<◌}
use mathlib.Core.Path.{◌≡◌, refl, ap}
use mathlib.Core.List.{List, [], ◌∷◌, ◌++◌, append_assoc}
use native.Mathlib.Omega.{arith}
use borrow.Rule.Slice.PartMut.{mid_of}
use lib.ListN.{length, length-append, length-drop, length-set, drop, set}
use Rattle.model.specs.Wrote.{Wrote}
use Rattle.model.proofs.Wrote.{rest-within, rest-room}
use Rattle.text_writer.specs.Extends.{Extends}

-- two bytes
pub wrote-two : (a b : ℕ) (old : List ℕ) → 2 ≤ length old → Wrote (a ∷ b ∷ []) old (set (set old 0 a) 1 b) 2
wrote-two a b [] h = absurd (omega arith)
wrote-two a b (x ∷ []) h = absurd (omega arith)
wrote-two a b (x ∷ y ∷ old) h = record { counted = refl; leaves = refl }

-- three bytes
pub wrote-three : (a b c : ℕ) (old : List ℕ) → 3 ≤ length old → Wrote (a ∷ b ∷ c ∷ []) old (set (set (set old 0 a) 1 b) 2 c) 3
wrote-three a b c [] h = absurd (omega arith)
wrote-three a b c (x ∷ []) h = absurd (omega arith)
wrote-three a b c (x ∷ y ∷ []) h = absurd (omega arith)
wrote-three a b c (x ∷ y ∷ z ∷ old) h = record { counted = refl; leaves = refl }

-- four bytes
pub wrote-four :
    (a b c d : ℕ) (old : List ℕ) → 4 ≤ length old → Wrote (a ∷ b ∷ c ∷ d ∷ []) old (set (set (set (set old 0 a) 1 b) 2 c) 3 d) 4
wrote-four a b c d [] h = absurd (omega arith)
wrote-four a b c d (x ∷ []) h = absurd (omega arith)
wrote-four a b c d (x ∷ y ∷ []) h = absurd (omega arith)
wrote-four a b c d (x ∷ y ∷ z ∷ []) h = absurd (omega arith)
wrote-four a b c d (x ∷ y ∷ z ∷ w ∷ old) h = record { counted = refl; leaves = refl }

-- a text's part at the front has room where the text has
pub front-room : {A : Type 0} (a b : List A) (room : ℕ) → length (a ++ b) ≤ room → length a ≤ room
front-room a b room h = omega (arith, length-append a b)

-- after a text is written, the rest starts within the slice and has room for what is to stand behind it
module _ {A : Type 0} (a b old mid : List A) (i : ℕ) (w : Wrote a old mid i) (room : length (a ++ b) ≤ length old) where
  pub behind-within : i ≤ length mid
  behind-within = rest-within w (omega (arith, w.counted, length-append a b))

  pub behind-room : length b ≤ length (mid_of i (length mid - i) mid)
  behind-room = rest-room w (omega (arith, w.counted, length-append a b))

-- what is written, and a byte set in the rest: elsewhere that byte, or what is written with it behind
module _ (x : ℕ) where
  -- there is a byte behind what is written
  within : (seen start old : List ℕ) (i : ℕ) → i < length old → Wrote seen start old i → length seen < length start
  within seen start old i h w =
      omega (arith, w.counted, ap length w.leaves, length-append seen (drop (length seen) start), length-drop (length seen) start)

  over-set : (seen start : List ℕ) → length seen < length start
      → set (seen ++ drop (length seen) start) (length seen) x ≡ seen ++ drop (length seen) (set start (length seen) x)
  over-set [] start h = refl
  over-set (y ∷ seen) [] h = absurd (omega arith)
  over-set (y ∷ seen) (z ∷ start) h = ap (λ (t : List ℕ). y ∷ t) (over-set seen start (omega arith))

  over-next : (seen start : List ℕ) → length seen < length start
      → set (seen ++ drop (length seen) start) (length seen) x ≡ (seen ++ x ∷ []) ++ drop (length (seen ++ x ∷ [])) start
  over-next seen [] h = absurd (omega arith)
  over-next [] (z ∷ start) h = refl
  over-next (y ∷ seen) (z ∷ start) h = ap (λ (t : List ℕ). y ∷ t) (over-next seen start (omega arith))

  pub wrote-set : (seen start old : List ℕ) (i : ℕ) → i < length old → Wrote seen start old i → Wrote seen (set start i x) (set old i x) i
  wrote-set seen start old i h w =
      record { counted = w.counted; leaves = rw (w.leaves, w.counted) (over-set seen start (within seen start old i h w)) }

  pub wrote-next : (seen start old : List ℕ) (i : ℕ) → i < length old → Wrote seen start old i → Wrote (seen ++ x ∷ []) start (set old i x) (i + 1)
  wrote-next seen start old i h w =
      record {
        counted = omega (arith, w.counted, length-append seen (x ∷ []));
        leaves = rw (w.leaves, w.counted) (over-next seen start (within seen start old i h w));
      }

-- two bytes behind what is written
pub extends-two : (a b : ℕ) (old : List ℕ) (i : ℕ) → i + 2 ≤ length old → Extends (a ∷ b ∷ []) i old (set (set old i a) (i + 1) b) (i + 2)
extends-two a b old i h seen start w =
    let e : i + 1 + 1 ≡ i + 2 = omega arith in
    rw (append_assoc seen (a ∷ []) (b ∷ []), e)
    at (wrote-next b (seen ++ a ∷ []) start (set old i a) (i + 1) (simp length-set (omega arith)) (wrote-next a seen start old i (omega arith) w))
