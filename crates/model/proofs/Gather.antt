-- Laws of gather and gather_down (specs/Gather.antt): what adds up over joined lists, and what holds all over them.
-- No contract cites this file.
use Prim.Native.Nat.{ℕ, zero, suc, ◌+◌, ◌*◌, ◌≤◌, ◌<◌}
use mathlib.Core.Path.{◌≡◌, refl, sym, ◌∙◌, ap, ap₂}
use mathlib.Core.List.{List, [], ◌∷◌, ◌++◌}
use mathlib.Core.Logic.Iff
use mathlib.Core.Logic.{◌↔◌}
use native.Mathlib.Nat.{suc-mul, zero-mul, not-suc-le-zero}
use native.Mathlib.Omega.{arith}
use lib.ListN.{length, length-append, get_or}
use Rattle.model.specs.Gather.{gather, gather_down}
use Rattle.model.proofs.Below.{all-below-suc-iff}

-- what is gathered needs to be the same below the number alone
pub gather-same : {A : Type 0} (n : ℕ) (f h : ℕ → List A) → ((t : ℕ) → t < n → f t ≡ h t) → gather n f ≡ gather n h
unfolding gather
gather-same zero f h same = refl
gather-same (suc n) f h same = ap₂ ◌++◌ (gather-same n f h (λ t b. same t (omega arith))) (same n (omega arith))

pub gathers_same : {A : Type 0} {n o : ℕ} {f h : ℕ → List A} → n ≡ o → ((t : ℕ) → t < n → f t ≡ h t) → gather n f ≡ gather o h
gathers_same {n = n} {f = f} {h = h} e same = gather-same n f h same ∙ ap (λ x. gather x h) e

-- a count of lists that adds up
pub record Adds {A : Type 0} (count : List A → ℕ) : Type 0 where
  pub of_none : count [] ≡ 0
  pub of-both : (xs ys : List A) → count (xs ++ ys) ≡ count xs + count ys

-- length is one
pub length-adds : {A : Type 0} → Adds {A = A} length
length-adds = record { of_none = refl; of-both = length-append }

module _ {A : Type 0} {count : List A → ℕ} (adds : Adds count) where
  -- a count over gather: any total that starts at 0 and grows by each list's count
  pub gather-total :
      (total : ℕ → ℕ) → total 0 ≡ 0 → (n : ℕ) (f : ℕ → List A) → ((t : ℕ) → t < n → total (suc t) ≡ total t + count (f t))
      → count (gather n f) ≡ total n
  unfolding gather
  gather-total total start zero f grows = adds.of_none ∙ sym start
  gather-total total start (suc n) f grows =
      let before : count (gather n f) ≡ total n = gather-total total start n f (λ t h. grows t (omega arith)) in
      adds.of-both (gather n f) (f n) ∙ omega (arith, grows n (omega arith))

  -- n lists of the same count
  pub gather-count : (n d : ℕ) (f : ℕ → List A) → ((t : ℕ) → t < n → count (f t) ≡ d) → count (gather n f) ≡ n * d
  gather-count n d f each =
      gather-total (λ t. t * d) (zero-mul d) n f (λ t h. omega (arith, suc-mul t d, each t h))

  -- n lists of at most a count each
  pub gather-most : (n d : ℕ) (f : ℕ → List A) → ((t : ℕ) → t < n → count (f t) ≤ d) → count (gather n f) ≤ n * d
  unfolding gather
  gather-most zero d f each = omega (arith, adds.of_none, zero-mul d)
  gather-most (suc n) d f each =
      let before : count (gather n f) ≤ n * d = gather-most n d f (λ t h. each t (omega arith)) in
      omega (arith, adds.of-both (gather n f) (f n), suc-mul n d, each n (omega arith))

-- n lists of the same length
pub length-gather : {A : Type 0} (n d : ℕ) (f : ℕ → List A)
    → ((t : ℕ) → t < n → length (f t) ≡ d) → length (gather n f) ≡ n * d
length-gather = gather-count length-adds

-- what holds of joined lists exactly where it holds of both
pub record Splits {A : Type 0} (H : List A → Type 0) : Type 0 where
  pub of_none : H []
  pub of-both : (xs ys : List A) → H (xs ++ ys) ↔ (H xs × H ys)

module _ {A : Type 0} {H : List A → Type 0} (splits : Splits H) where
  -- of the lists gathered
  pub splits-gather : (n : ℕ) (f : ℕ → List A) → H (gather n f) ↔ ((t : ℕ) → t < n → H (f t))
  unfolding gather
  splits-gather zero f = (λ h t b. absurd (not-suc-le-zero b), λ h. splits.of_none)
  splits-gather (suc n) f =
      Iff.trans (splits.of-both (gather n f) (f n))
      (Iff.trans (Iff.and (splits-gather n f) Iff.rfl) (all-below-suc-iff (λ t. H (f t)) n))

  -- in either order
  pub splits-gather_down : (n : ℕ) (f : ℕ → List A) → H (gather_down n f) ↔ ((t : ℕ) → t < n → H (f t))
  unfolding gather_down
  splits-gather_down zero f = (λ h t b. absurd (not-suc-le-zero b), λ h. splits.of_none)
  splits-gather_down (suc n) f =
      Iff.trans (splits.of-both (f n) (gather_down n f))
      (Iff.trans (λ h. ((splits-gather_down n f).0 h.1, h.0), λ h. (h.1, (splits-gather_down n f).1 h.0))
      (all-below-suc-iff (λ t. H (f t)) n))

-- a property of every element of a list
pub data All {A : Type 0} (P : A → Type 0) : List A → Type 0 where
  nothing : All P []
  also : {x : A} {xs : List A} → P x → All P xs → All P (x ∷ xs)

module _ {A : Type 0} {P : A → Type 0} where
  -- of a list's one element
  pub just : {x : A} → P x → All P (x ∷ [])
  just p = also p nothing

  -- of two joined lists
  infixl 40 ◌⧺◌
  pub ◌⧺◌ : {xs ys : List A} → All P xs → All P ys → All P (xs ++ ys)
  nothing ⧺ q = q
  also h p ⧺ q = also h (p ⧺ q)

  -- of the lists gathered
  pub all-gather : (n : ℕ) (f : ℕ → List A) → ((t : ℕ) → t < n → All P (f t)) → All P (gather n f)
  unfolding gather
  all-gather zero f each = nothing
  all-gather (suc n) f each = all-gather n f (λ t h. each t (omega arith)) ⧺ each n (omega arith)

  -- in either order
  pub all-gather_down : (n : ℕ) (f : ℕ → List A) → ((t : ℕ) → t < n → All P (f t)) → All P (gather_down n f)
  unfolding gather_down
  all-gather_down zero f each = nothing
  all-gather_down (suc n) f each = each n (omega arith) ⧺ all-gather_down n f (λ t h. each t (omega arith))

-- of an element
pub all-at : {A : Type 0} {P : A → Type 0} (xs : List A) (y : A) (ys : List A) → All P (xs ++ y ∷ ys) → P y
all-at [] y ys (also p r) = p
all-at (x ∷ xs) y ys (also p r) = all-at xs y ys r

-- of what stands at an index, where what stands behind the end has it too
pub all_get_d : {A : Type 0} {P : A → Type 0} {xs : List A} {d : A} → All P xs → P d → (i : ℕ) → P (get_or xs i d)
all_get_d nothing q i = q
all_get_d (also p r) q zero = p
all_get_d (also p r) q (suc i) = all_get_d r q i

pub all-below-length : {A : Type 0} {P : A → Type 0} {xs : List A} (d : A) → All P xs → (i : ℕ) → i < length xs → P (get_or xs i d)
all-below-length d nothing i l = absurd (not-suc-le-zero l)
all-below-length d (also p r) zero l = p
all-below-length d (also p r) (suc i) l = all-below-length d r i (omega arith)

-- a weaker one
pub all-weaken : {A : Type 0} {P Q : A → Type 0} {xs : List A} → ((x : A) → P x → Q x) → All P xs → All Q xs
all-weaken weaker nothing = nothing
all-weaken weaker (also p r) = also (weaker _ p) (all-weaken weaker r)
