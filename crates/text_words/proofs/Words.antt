-- Laws of specs/Words.antt: parts of a text in pieces, parts found from the left, parts joined. No contract cites this file.
use Prim.Native.Nat.{ℕ, zero, suc, ◌<◌}
use mathlib.Core.Path.{◌≡◌, refl, sym, ◌∙◌, ap, ap₂}
use mathlib.Core.Bool.{Bool, true, false, cond}
use mathlib.Core.List.{List, [], ◌∷◌, ◌++◌, append_assoc, append-nil}
use native.Mathlib.Omega.{arith}
use lib.Dec.{eqb, leb}
use lib.ListN.{length, take, length-append}
use lib.Seq.{take_at}
use borrow.Author.Tests.{eq-eqb, eqb-true, ne_eqb, leb-true}
use Rattle.model.proofs.Booleans.{and-true}
use Rattle.decimal.specs.Digits.{digits, space, line_feed}
use Rattle.decimal.proofs.TextValue.{is_digit, all_digits, all_digits-digits}
use Rattle.text_words.specs.Words.{parts_after, rest_after, words_of, spaced, ended, Without}

module _ (e : ℕ) where
  -- A text in two pieces: the parts that end in the first, then those that end in the second.
  pub parts-append : (begun s t : List ℕ) → parts_after e begun (s ++ t) ≡ parts_after e begun s ++ parts_after e (rest_after e begun s) t
  unfolding parts_after rest_after
  parts-append begun [] t = refl
  parts-append begun (x ∷ s) t = by_byte (eqb x e) (parts-append [] s t) (parts-append (begun ++ x ∷ []) s t)
    where
      by_byte : (b : Bool) → parts_after e [] (s ++ t) ≡ parts_after e [] s ++ parts_after e (rest_after e [] s) t
          → parts_after e (begun ++ x ∷ []) (s ++ t) ≡ parts_after e (begun ++ x ∷ []) s ++ parts_after e (rest_after e (begun ++ x ∷ []) s) t
          → cond b (begun ∷ parts_after e [] (s ++ t)) (parts_after e (begun ++ x ∷ []) (s ++ t))
          ≡ cond b (begun ∷ parts_after e [] s) (parts_after e (begun ++ x ∷ []) s)
          ++ parts_after e (cond b (rest_after e [] s) (rest_after e (begun ++ x ∷ []) s)) t
      by_byte true p q = ap (λ (xs : List (List ℕ)). begun ∷ xs) p
      by_byte false p q = q

  pub rest-append : (begun s t : List ℕ) → rest_after e begun (s ++ t) ≡ rest_after e (rest_after e begun s) t
  unfolding rest_after
  rest-append begun [] t = refl
  rest-append begun (x ∷ s) t = by_byte (eqb x e) (rest-append [] s t) (rest-append (begun ++ x ∷ []) s t)
    where
      by_byte : (b : Bool) → rest_after e [] (s ++ t) ≡ rest_after e (rest_after e [] s) t
          → rest_after e (begun ++ x ∷ []) (s ++ t) ≡ rest_after e (rest_after e (begun ++ x ∷ []) s) t
          → cond b (rest_after e [] (s ++ t)) (rest_after e (begun ++ x ∷ []) (s ++ t))
          ≡ rest_after e (cond b (rest_after e [] s) (rest_after e (begun ++ x ∷ []) s)) t
      by_byte true p q = p
      by_byte false p q = q

  -- a text without e ends no part
  without-head : (x : ℕ) (s : List ℕ) → Without e (x ∷ s) → eqb x e ≡ false
  without-head x s w = ne_eqb x e (λ h. w 0 (omega arith) h)

  without-tail : (x : ℕ) (s : List ℕ) → Without e (x ∷ s) → Without e s
  without-tail x s w i l h = w (suc i) (omega arith) h

  -- nor do two joined
  pub without-append : (s t : List ℕ) → Without e s → Without e t → Without e (s ++ t)
  without-append [] t v w i l h = w i l h
  without-append (x ∷ s) t v w zero l h = v 0 (omega arith) h
  without-append (x ∷ s) t v w (suc i) l h = without-append s t (without-tail x s v) w i (omega arith) h

  pub parts_none : (begun s : List ℕ) → Without e s → parts_after e begun s ≡ []
  unfolding parts_after
  parts_none begun [] w = refl
  parts_none begun (x ∷ s) w = rw (without-head x s w) (parts_none (begun ++ x ∷ []) s (without-tail x s w))

  pub rest_all : (begun s : List ℕ) → Without e s → rest_after e begun s ≡ begun ++ s
  unfolding rest_after
  rest_all begun [] w = sym (append-nil begun)
  rest_all begun (x ∷ s) w =
      rw (without-head x s w) (rest_all (begun ++ x ∷ []) s (without-tail x s w) ∙ append_assoc begun (x ∷ []) s)

  -- the first part is what stands before the first e
  pub parts_first : (s t : List ℕ) → Without e s → parts_after e [] (s ++ e ∷ t) ≡ s ∷ parts_after e [] t
  unfolding parts_after
  parts_first s t w =
      parts-append [] s (e ∷ t) ∙ rw (parts_none [] s w, rest_all [] s w, eq-eqb e e refl)

  -- parts of which none has e
  pub data EachWithout : List (List ℕ) → Type 0 where
    nothing : EachWithout []
    also : {x : List ℕ} {xs : List (List ℕ)} → Without e x → EachWithout xs → EachWithout (x ∷ xs)

  ended-append : (xs ys : List (List ℕ)) → ended e (xs ++ ys) ≡ ended e xs ++ ended e ys
  unfolding ended
  ended-append [] ys = refl
  ended-append (x ∷ xs) ys =
      ap (λ (t : List ℕ). x ++ e ∷ t) (ended-append xs ys) ∙ sym (append_assoc x (e ∷ ended e xs) (ended e ys))

  -- A text is its parts, joined, and the rest: nothing is lost.
  pub ended-parts : (begun s : List ℕ) → ended e (parts_after e begun s) ++ rest_after e begun s ≡ begun ++ s
  unfolding ended parts_after rest_after
  ended-parts begun [] = sym (append-nil begun)
  ended-parts begun (x ∷ s) = by_byte (eqb x e) refl (ended-parts [] s) (ended-parts (begun ++ x ∷ []) s)
    where
      by_byte : (b : Bool) → eqb x e ≡ b → ended e (parts_after e [] s) ++ rest_after e [] s ≡ s
          → ended e (parts_after e (begun ++ x ∷ []) s) ++ rest_after e (begun ++ x ∷ []) s ≡ (begun ++ x ∷ []) ++ s
          → ended e (cond b (begun ∷ parts_after e [] s) (parts_after e (begun ++ x ∷ []) s))
          ++ cond b (rest_after e [] s) (rest_after e (begun ++ x ∷ []) s) ≡ begun ++ x ∷ s
      by_byte true h p q =
          append_assoc begun (e ∷ ended e (parts_after e [] s)) (rest_after e [] s)
          ∙ ap₂ (λ (y : ℕ) (ys : List ℕ). begun ++ y ∷ ys) (sym (eqb-true x e h)) p
      by_byte false h p q = q ∙ append_assoc begun (x ∷ []) s

-- the first word of a line is what stands before its first space; a line without a space is one word
pub words-first : (s t : List ℕ) → Without space s → words_of (s ++ space ∷ t) ≡ s ∷ words_of t
unfolding words_of rest_after
words-first s t w =
    ap₂ (λ (xs : List (List ℕ)) (r : List ℕ). xs ++ r ∷ []) (parts_first space s t w)
    (rest-append space [] s (space ∷ t))

pub words_last : (s : List ℕ) → Without space s → words_of s ≡ s ∷ []
unfolding words_of
words_last s w = rw (parts_none space [] s w, rest_all space [] s w)

-- a line is its words joined, each with a space behind it but the last
words-joined : (s : List ℕ) → ended space (words_of s) ≡ s ++ space ∷ []
unfolding words_of ended
words-joined s =
    ended-append space (parts_after space [] s) (rest_after space [] s ∷ [])
    ∙ sym (append_assoc (ended space (parts_after space [] s)) (rest_after space [] s) (space ∷ []))
    ∙ ap (λ (x : List ℕ). x ++ space ∷ []) (ended-parts space [] s)

-- texts are the same where they are with one byte more
snoc-same : (a b : List ℕ) (c : ℕ) → a ++ c ∷ [] ≡ b ++ c ∷ [] → a ≡ b
snoc-same a b c h =
    let l : length a ≡ length b = omega (arith, length-append a (c ∷ []), length-append b (c ∷ []), ap length h) in
    sym (take_at a (c ∷ []) (length a) refl) ∙ ap (take (length a)) h ∙ take_at b (c ∷ []) (length a) (sym l)

-- a line is its words with single spaces between, and words without a space are those of their line
ended-spaced : (w : List ℕ) (ws : List (List ℕ)) → ended space (w ∷ ws) ≡ spaced (w ∷ ws) ++ space ∷ []
unfolding ended spaced
ended-spaced w [] = refl
ended-spaced w (x ∷ ws) =
    ap (λ (t : List ℕ). w ++ space ∷ t) (ended-spaced x ws) ∙ sym (append_assoc w (space ∷ spaced (x ∷ ws)) (space ∷ []))

pub spaced-words : (s : List ℕ) → spaced (words_of s) ≡ s
unfolding words_of
spaced-words s =
    snoc-same (spaced (words_of s)) s space (sym (any-words (parts_after space [] s) (rest_after space [] s)) ∙ words-joined s)
  where
    any-words : (ws : List (List ℕ)) (w : List ℕ) → ended space (ws ++ w ∷ []) ≡ spaced (ws ++ w ∷ []) ++ space ∷ []
    any-words [] w = ended-spaced w []
    any-words (x ∷ ws) w = ended-spaced x (ws ++ w ∷ [])

pub words-spaced : (w : List ℕ) (ws : List (List ℕ)) → EachWithout space (w ∷ ws) → words_of (spaced (w ∷ ws)) ≡ w ∷ ws
unfolding spaced
words-spaced w [] (also n nothing) = words_last w n
words-spaced w (x ∷ ws) (also n m) = words-first w (spaced (x ∷ ws)) n ∙ ap (λ (xs : List (List ℕ)). w ∷ xs) (words-spaced x ws m)

-- digits have no space among them, no line feed and no other byte below theirs
module _ (e : ℕ) (below : e < 48) where
  without-below : (s : List ℕ) → all_digits s ≡ true → Without e s
  unfolding all_digits is_digit
  without-below [] d i l h = omega arith
  without-below (c ∷ s) d zero l h =
      let first = ((and-true (is_digit c) (all_digits s)).0 d).0 in
      omega (arith, leb-true 48 c ((and-true (leb 48 c) (leb c 57)).0 first).0)
  without-below (c ∷ s) d (suc i) l h = without-below s ((and-true (is_digit c) (all_digits s)).0 d).1 i (omega arith) h

pub digits-without : (x : ℕ) → Without space (digits x)
digits-without x = without-below space (omega arith) (digits x) (all_digits-digits x)

pub digits-unended : (x : ℕ) → Without line_feed (digits x)
digits-unended x = without-below line_feed (omega arith) (digits x) (all_digits-digits x)
