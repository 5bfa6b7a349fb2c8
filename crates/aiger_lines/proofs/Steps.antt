-- Laws of specs/Steps.antt: where the first byte of a kind stands, and the words and lines that it ends; five numbers in an array.
-- No contract cites this file.
use Prim.Native.Nat.{ℕ, zero, suc, ◌+◌, ◌-◌, ◌≤◌, ◌<◌}
use mathlib.Core.Path.{◌≡◌, refl, sym, ap, ◌∙◌}
use mathlib.Core.Bool.{Bool, true, false, cond}
use mathlib.Core.List.{List, [], ◌∷◌, ◌++◌}
use native.Mathlib.Numerals.{add-one}
use native.Mathlib.Omega.{arith}
use borrow.Author.Tests.{eq-eqb, ne_eqb, eqb-true, eqb-false}
use lib.Dec.{eqb}
use lib.ListN.{length, get_or, take, drop, drop_of_length-le, length-drop}
use lib.Seq.{drop-cons, drop-drop, take_all}
use Rattle.decimal.specs.Digits.{space}
use Rattle.text_words.specs.Words.{parts_after, words_of, Without}
use Rattle.text_words.proofs.Words.{parts_first, parts_none, words-first, words_last}
use Rattle.aiger_lines.specs.Steps.{span_to}

-- it stands here, or is still to be found, or there is none
pub span-here : (b : ℕ) (s : List ℕ) (i : ℕ) → i < length s → get_or s i 0 ≡ b → span_to b (drop i s) ≡ 0
unfolding span_to
span-here b s i h e = rw (drop-cons s i 0 h, eq-eqb (get_or s i 0) b e)

pub span-later : (b : ℕ) (s : List ℕ) (i : ℕ) → i < length s → (get_or s i 0 ≡ b → ⊥) → span_to b (drop i s) ≡ suc (span_to b (drop (i + 1) s))
unfolding span_to
span-later b s i h n = rw (add-one, drop-cons s i 0 h, ne_eqb (get_or s i 0) b n)

pub span_none : (b : ℕ) (s : List ℕ) (i : ℕ) → length s ≤ i → span_to b (drop i s) ≡ 0
unfolding span_to
span_none b s i h = rw (drop_of_length-le s h)

-- what stands before it, and behind it
module _ (e : ℕ) where
  span-within : (s : List ℕ) → span_to e s ≤ length s
  unfolding span_to
  span-within [] = omega arith
  span-within (x ∷ s) = by_byte (eqb x e) (span-within s)
    where
      by_byte : (b : Bool) → span_to e s ≤ length s → cond b 0 (suc (span_to e s)) ≤ suc (length s)
      by_byte true h = omega arith
      by_byte false h = omega arith

  without-cons : (x : ℕ) (s : List ℕ) → (x ≡ e → ⊥) → Without e s → Without e (x ∷ s)
  without-cons x s n w zero l h = n h
  without-cons x s n w (suc i) l h = w i (omega arith) h

  span-without : (s : List ℕ) → Without e (take (span_to e s) s)
  unfolding span_to
  span-without [] = λ i l h. omega arith
  span-without (x ∷ s) = by_byte (eqb x e) refl (span-without s)
    where
      by_byte : (b : Bool) → eqb x e ≡ b → Without e (take (span_to e s) s) → Without e (take (cond b 0 (suc (span_to e s))) (x ∷ s))
      by_byte true q w = λ i l h. omega arith
      by_byte false q w = without-cons x (take (span_to e s) s) (eqb-false x e q) w

  span-split : (s : List ℕ) → span_to e s < length s → s ≡ take (span_to e s) s ++ e ∷ drop (suc (span_to e s)) s
  unfolding span_to
  span-split [] l = absurd (omega arith)
  span-split (x ∷ s) l = by_byte (eqb x e) refl l (span-split s)
    where
      by_byte : (b : Bool) → eqb x e ≡ b → cond b 0 (suc (span_to e s)) < suc (length s)
          → (span_to e s < length s → s ≡ take (span_to e s) s ++ e ∷ drop (suc (span_to e s)) s)
          → x ∷ s ≡ take (cond b 0 (suc (span_to e s))) (x ∷ s) ++ e ∷ drop (suc (cond b 0 (suc (span_to e s)))) (x ∷ s)
      by_byte true q l later = ap (λ (y : ℕ). y ∷ s) (eqb-true x e q)
      by_byte false q l later = ap (λ (t : List ℕ). x ∷ t) (later (omega arith))

-- The byte e is looked for in a text from `at` on, and found at `end`, or there is none and `end` is the end of the text.
module _ (e : ℕ) (s : List ℕ) (at end : ℕ) (within : at ≤ length s) (found : end ≡ at + span_to e (drop at s)) where
  pub found_within : (at ≤ end) × (end ≤ length s)
  found_within = (omega arith, omega (arith, span-within e (drop at s), length-drop at s))

  span-is : span_to e (drop at s) ≡ end - at
  span-is = omega arith

  -- what stands between has no e
  part_without : Without e (take (end - at) (drop at s))
  part_without = rw span-is at (span-without e (drop at s))

  part-split : end < length s → drop at s ≡ take (end - at) (drop at s) ++ e ∷ drop (end + 1) s
  part-split l =
      let short : span_to e (drop at s) < length (drop at s) = omega (arith, length-drop at s) in
      let place : at + suc (span_to e (drop at s)) ≡ end + 1 = omega arith in
      let behind : drop (suc (span_to e (drop at s))) (drop at s) ≡ drop (end + 1) s =
      drop-drop (suc (span_to e (drop at s))) at s ∙ ap (λ (n : ℕ). drop n s) place in
      span-split e (drop at s) short ∙ ap (λ (t : List ℕ). take (span_to e (drop at s)) (drop at s) ++ e ∷ t) behind
      ∙ ap (λ (n : ℕ). take n (drop at s) ++ e ∷ drop (end + 1) s) span-is

  part-all : length s ≤ end → take (end - at) (drop at s) ≡ drop at s
  part-all l = take_all (end - at) (drop at s) (omega (arith, length-drop at s))

  rest-without : length s ≤ end → Without e (drop at s)
  rest-without l = rw (part-all l) at part_without

  -- it ends a part, and the others follow
  pub parts_next : end < length s → parts_after e [] (drop at s) ≡ take (end - at) (drop at s) ∷ parts_after e [] (drop (end + 1) s)
  parts_next l = ap (parts_after e []) (part-split l) ∙ parts_first e (take (end - at) (drop at s)) (drop (end + 1) s) part_without

  pub parts-over : length s ≤ end → parts_after e [] (drop at s) ≡ []
  parts-over l = parts_none e [] (drop at s) (rest-without l)

-- it ends a word, or the line does
module _ (s : List ℕ) (at end : ℕ) (within : at ≤ length s) (found : end ≡ at + span_to space (drop at s)) where
  pub words-next : end < length s → words_of (drop at s) ≡ take (end - at) (drop at s) ∷ words_of (drop (end + 1) s)
  words-next l =
      ap words_of (part-split space s at end within found l)
      ∙ words-first (take (end - at) (drop at s)) (drop (end + 1) s) (part_without space s at end within found)

  pub words-over : length s ≤ end → words_of (drop at s) ≡ take (end - at) (drop at s) ∷ []
  words-over l =
      words_last (drop at s) (rest-without space s at end within found l)
      ∙ ap (λ (w : List ℕ). w ∷ []) (sym (part-all space s at end within found l))
