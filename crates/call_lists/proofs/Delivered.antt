-- Laws of records delivered into a list (specs/Delivered.antt): none, one more, and the length; of numbers, what stands where. No contract cites
-- this file.
use Prim.Native.Nat.{ℕ, zero, suc, ◌≤◌, ◌<◌}
use mathlib.Core.Path.{◌≡◌, refl, sym, ◌∙◌, ap, ap₂}
use mathlib.Core.List.{List, [], ◌∷◌, ◌++◌}
use mathlib.Core.Logic.{by_cases}
use native.Mathlib.Decide.{ℕ_discrete}
use native.Mathlib.Omega.{arith}
use lib.ListN.{length, take, drop, get_or, set, length-append, length-drop, take-append-drop}
use lib.Seq.{take-suc, drop-cons, drop-append_seam, get_or-set_same, get_or-set_other}
use Rattle.model.specs.Gather.{gather}
use Rattle.model.proofs.Gather.{length-gather}
use Rattle.call_lists.specs.Delivered.{delivered}

-- an element in the middle set anew
set-middle : {A : Type 0} (xs zs : List A) (z y : A) (k : ℕ) → length xs ≡ k → set (xs ++ z ∷ zs) k y ≡ (xs ++ y ∷ []) ++ zs
set-middle [] zs z y k e = rw (← e)
set-middle (x ∷ xs) zs z y k e = rw (← e, set-middle xs zs z y (length xs) refl)

module _ {A : Type 0} (f : ℕ → A) (old : List A) where
  length_front : (n : ℕ) → length (gather n (λ t. f t ∷ [])) ≡ n
  length_front n = omega (arith, length-gather n 1 (λ t. f t ∷ []) (λ t h. refl))

  pub delivered-none : delivered 0 f old ≡ old
  unfolding delivered gather
  delivered-none = refl

  pub length-delivered : (n : ℕ) → n ≤ length old → length (delivered n f old) ≡ length old
  unfolding delivered
  length-delivered n h = simp (length-append, length-drop, length_front) (omega arith)

  -- `over` drops as many records as stand in front
  delivered-is : (n : ℕ) → delivered n f old ≡ gather n (λ t. f t ∷ []) ++ drop n old
  unfolding delivered
  delivered-is n = ap (λ (k : ℕ). gather n (λ t. f t ∷ []) ++ drop k old) (length_front n)

  pub delivered-next : (n : ℕ) → n < length old → set (delivered n f old) n (f n) ≡ delivered (suc n) f old
  unfolding gather
  delivered-next n h =
      rw (delivered-is n, delivered-is (suc n))
      (ap (λ (rest : List A). set (gather n (λ t. f t ∷ []) ++ rest) n (f n)) (drop-cons old n (f n) h)
      ∙ set-middle (gather n (λ t. f t ∷ [])) (drop (suc n) old) (get_or old n (f n)) (f n) n (length_front n))

module _ (f : ℕ → ℕ) where
  front : (n : ℕ) (new : List ℕ) → n ≤ length new → ((x : ℕ) → x < n → get_or new x 0 ≡ f x) → take n new ≡ gather n (λ t. f t ∷ [])
  unfolding gather
  front zero new h each = refl
  front (suc n) new h each =
      take-suc new n 0 (omega arith) ∙ ap₂ (λ (xs : List ℕ) (x : ℕ). xs ++ x ∷ []) (front n new (omega arith) (λ x b. each x (omega arith))) (each n (omega arith))

  -- a list is that of the first n where they stand in front and the rest behind
  pub delivered-by : (n : ℕ) (old new : List ℕ) → n ≤ length new → ((x : ℕ) → x < n → get_or new x 0 ≡ f x) → drop n new ≡ drop n old
      → new ≡ delivered n f old
  delivered-by n old new h each behind =
      sym (take-append-drop n new) ∙ ap₂ ◌++◌ (front n new h each) behind ∙ sym (delivered-is f old n)

  pub behind-delivered : (n : ℕ) (old : List ℕ) → drop n (delivered n f old) ≡ drop n old
  behind-delivered n old =
      ap (drop n) (delivered-is f old n)
      ∙ ap (λ k. drop k (gather n (λ t. f t ∷ []) ++ drop n old)) (sym (length_front f old n))
      ∙ drop-append_seam (gather n (λ t. f t ∷ [])) (drop n old)

  pub delivered-at : (n : ℕ) (old : List ℕ) → n ≤ length old → (x : ℕ) → x < n → get_or (delivered n f old) x 0 ≡ f x
  delivered-at zero old l x h = absurd (omega arith)
  delivered-at (suc n) old l x h =
      let size : length (delivered n f old) ≡ length old = length-delivered f old n (omega arith) in
      rw (← delivered-next f old n (omega arith))
      (by_cases (ℕ_discrete x n)
      (λ e. rw e (get_or-set_same (delivered n f old) n (f n) 0 (omega arith)))
      (λ e. get_or-set_other (delivered n f old) n x (f n) 0 e ∙ delivered-at n old (omega arith) x (omega arith)))

-- delivered anew
pub delivered-again : (f g : ℕ → ℕ) (n : ℕ) (old : List ℕ) → n ≤ length old → delivered n f (delivered n g old) ≡ delivered n f old
delivered-again f g n old h =
    let size : length (delivered n g old) ≡ length old = length-delivered g old n h in
    let size' : length (delivered n f (delivered n g old)) ≡ length (delivered n g old) = length-delivered f (delivered n g old) n (omega arith) in
    delivered-by f n old (delivered n f (delivered n g old)) (omega arith) (delivered-at f n (delivered n g old) (omega arith))
    (behind-delivered f n (delivered n g old) ∙ behind-delivered g n old)
