-- Laws of specs/WroteAtEnd.antt: a text filled byte by byte, the last first. No contract cites this file.
use Prim.Native.Nat.{ℕ, zero, suc, ◌+◌, ◌-◌, ◌≤◌, ◌<◌}
use mathlib.Core.Path.{◌≡◌, refl, sym, ap, ◌∙◌}
use mathlib.Core.List.{List, [], ◌∷◌, ◌++◌, append_assoc, append-nil}
use native.Mathlib.Omega.{arith}
use lib.ListN.{length, length-append, take, drop, drop_of_length-le, replicate, set, take-append-drop}
use lib.Seq.{lt-length-set, length-take-le, append_snoc, drop-cons, drop-set-lt, get_or-set_same, take-set-le, take-set-lt, take-suc-set, set-append_left}
use Rattle.decimal.specs.Digits.{space, digits, field}
use Rattle.decimal.specs.WroteAtEnd.{at_end, WroteAtEnd}

-- a text that ends before the byte i of what was there, everything else untouched
abbrev pub ending_at : ℕ → List ℕ → List ℕ → List ℕ
ending_at i text old = take (i - length text) old ++ text ++ drop i old

-- at the end
pub ending_at-end : (text old : List ℕ) → ending_at (length old) text old ≡ at_end text old
ending_at-end text old = rw (drop_of_length-le old {i = length old} (omega arith)) (append-nil (at_end text old))

-- nothing is left to be written
pub ending_at-nothing : (i : ℕ) (old : List ℕ) → ending_at i [] old ≡ old
ending_at-nothing i old =
    let all : i - 0 ≡ i = omega arith in
    rw (all, append-nil (take i old)) (take-append-drop i old)

-- the last byte is written: what is still to be written before it is the text without it
pub ending_at-write :
    (i d : ℕ) (text out : List ℕ) → 0 < i → i ≤ length out →
    ending_at (i - 1) text (set out (i - 1) d) ≡ ending_at i (text ++ d ∷ []) out
ending_at-write i d text out some h =
    let last : ℕ = i - 1 in
    let next : suc last ≡ i = omega arith in
    let within : last < length out = omega arith in
    let behind : drop last (set out last d) ≡ d ∷ drop i out =
    drop-cons (set out last d) last 0 (lt-length-set out last d within)
    ∙ rw (get_or-set_same out last d 0 within, next, drop-set-lt i out last d (omega arith)) in
    let start : List ℕ = take (last - length text) out in
    let before : take (last - length text) (set out last d) ≡ start = take-set-le (last - length text) out last d (omega arith) in
    let counted : i - length (text ++ d ∷ []) ≡ last - length text = omega (arith, length-append text (d ∷ [])) in
    rw (behind, before, counted)
    (append_assoc start text (d ∷ drop i out)
    ∙ ap (λ (s : List ℕ). start ++ s) (sym (append_snoc text d (drop i out))) ∙ sym (append_assoc start (text ++ d ∷ []) (drop i out)))

module _ {text old mid : List ℕ} {r : ℕ} (f : WroteAtEnd text old mid r) where
  -- one byte more, before the text
  pub filled-before : (a : ℕ) → r < length old → WroteAtEnd (a ∷ text) old (set mid (length mid - r - 1) a) (r + 1)
  filled-before a h =
      let k : ℕ = length old - length text - 1 in
      let next : length old - length text ≡ suc k = omega (arith, f.counted) in
      let front : length (take (suc k) old) ≡ suc k = length-take-le (suc k) old (omega (arith, f.counted)) in
      let kept : length mid ≡ length old =
      ap length f.leaves ∙ length-append (take (length old - length text) old) text ∙ rw (next, front) (omega (arith, f.counted)) in
      let place : length mid - r - 1 ≡ k = omega (arith, f.counted) in
      let start : length old - length (a ∷ text) ≡ k = omega arith in
      let stood : mid ≡ take (suc k) old ++ text = f.leaves ∙ ap (λ (n : ℕ). take n old ++ text) next in
      let byte : set (take (suc k) old) k a ≡ take k old ++ a ∷ [] = sym (take-set-lt (suc k) old k a (omega arith)) ∙ take-suc-set old k a (omega (arith, f.counted)) in
      record {
        counted = omega (arith, f.counted);
        leaves =
            rw (place, start, stood, set-append_left (take (suc k) old) text k a (omega (arith, front)), byte) (append_snoc (take k old) a text);
      }

-- the front of equal bytes
take-replicate : (m n x : ℕ) → m ≤ n → take m (replicate n x) ≡ replicate m x
take-replicate zero n x h = refl
take-replicate (suc m) zero x h = absurd (omega arith)
take-replicate (suc m) (suc n) x h = ap (λ (s : List ℕ). x ∷ s) (take-replicate m n x (omega arith))

-- the field of a number is its digits at the end of ten spaces
pub field-filled : (x : ℕ) → length (digits x) ≤ 10 → at_end (digits x) (replicate 10 space) ≡ field x
unfolding field
field-filled x h = rw (take-replicate (10 - length (digits x)) 10 space (omega arith))
