-- What stands at an index of gathered lists, and of delivered lists, unpacked. No contract cites this file.
use Prim.Native.Nat.{ℕ, zero, suc, ◌+◌, ◌*◌, ◌≤◌, ◌<◌}
use mathlib.Core.Path.{◌≡◌, refl, sym, ◌∙◌, ap}
use mathlib.Core.Logic.{by_cases}
use mathlib.Core.List.{List, [], ◌∷◌, ◌++◌, append_assoc, append-nil}
use native.Mathlib.Nat.{not-suc-le-zero}
use native.Mathlib.Decide.{dec_lt}
use native.Mathlib.Omega.{arith}
use lib.ListN.{length, get_or, take, drop, length-take, get_or-append}
use lib.Seq.{get_or-append-add, get_or-take}
use Rattle.model.specs.Gather.{gather}
use Rattle.model.proofs.Gather.{length-gather}
use Rattle.call_lists.specs.Unpacked.{pairs_of}
use Rattle.call_lists.specs.Delivered.{delivered}
use Rattle.call_lists.proofs.Delivered.{length-delivered}

-- what stands at an index of gathered lists that are d long
get_or-gather : {A : Type 0} (n d : ℕ) (f : ℕ → List A) → ((t : ℕ) → length (f t) ≡ d) → (l k i : ℕ) → l < n → k < d
    → i ≡ l * d + k
    → (rest : List A) (z : A) → get_or (gather n f ++ rest) i z ≡ get_or (f l) k z
unfolding gather
get_or-gather zero d f each l k i h b e rest z = absurd (not-suc-le-zero h)
get_or-gather (suc n) d f each l k i h b e rest z =
    rw (append_assoc (gather n f) (f n) rest)
    (by_cases (dec_lt l n)
    (λ s. get_or-gather n d f each l k i s b e (f n ++ rest) z)
    (λ s. here (omega arith)))
  where
    here : l ≡ n → get_or (gather n f ++ (f n ++ rest)) i z ≡ get_or (f l) k z
    here q =
        let size : length (gather n f) ≡ n * d = length-gather n d f (λ t _. each t) in
        let index : i ≡ length (gather n f) + k = rw (size, ← q) e in
        rw (index, q) (get_or-append-add (gather n f) (f n ++ rest) k z ∙ get_or-append (f n) rest z k (rw (each n) b))

pub get_or-gather-alone : {A : Type 0} (n d : ℕ) (f : ℕ → List A) → ((t : ℕ) → length (f t) ≡ d) → (l k i : ℕ) → l < n → k < d
    → i ≡ l * d + k
    → (z : A) → get_or (gather n f) i z ≡ get_or (f l) k z
get_or-gather-alone n d f each l k i h b e z =
    ap (λ (xs : List _). get_or xs i z) (sym (append-nil (gather n f))) ∙ get_or-gather n d f each l k i h b e [] z

-- the two numbers of a record, unpacked
get_or-pairs : {X : Type 0} (first second : X → ℕ) (xs : List X) (l : ℕ) (d : X) → l < length xs
    → (get_or (pairs_of first second xs) (2 * l) 0 ≡ first (get_or xs l d)) ×
    (get_or (pairs_of first second xs) (2 * l + 1) 0 ≡ second (get_or xs l d))
unfolding pairs_of
get_or-pairs first second [] l d h = absurd (not-suc-le-zero h)
get_or-pairs first second (x ∷ xs) zero d h = (refl, refl)
get_or-pairs first second (x ∷ xs) (suc l) d h =
    let twice : 2 * suc l ≡ suc (suc (2 * l)) = omega arith in
    let behind : 2 * suc l + 1 ≡ suc (suc (2 * l + 1)) = omega arith in
    let rest = get_or-pairs first second xs l d (omega arith) in
    (rw twice rest.0, rw behind rest.1)

-- a record that was delivered
get_or-delivered : {X : Type 0} (n : ℕ) (f : ℕ → X) (old : List X) (l : ℕ) → l < n → get_or (delivered n f old) l (f l) ≡ f l
unfolding delivered
get_or-delivered n f old l h = get_or-gather n 1 (λ t. f t ∷ []) (λ t. refl) l 0 l h (omega arith) (omega arith)
    (drop (length (gather n (λ t. f t ∷ []))) old) (f l)

-- its two numbers, unpacked, where the first 600 records are looked at
pub delivered-pairs : {X : Type 0} (first second : X → ℕ) (n : ℕ) (f : ℕ → X) (old : List X) → n ≤ 600 → n ≤ length old → (l : ℕ)
    → l < n
    → (get_or (pairs_of first second (take 600 (delivered n f old))) (2 * l) 0 ≡ first (f l)) ×
    (get_or (pairs_of first second (take 600 (delivered n f old))) (2 * l + 1) 0 ≡ second (f l))
delivered-pairs first second n f old small long l h =
    let new = delivered n f old in
    let inside : l < length (take 600 new) = omega (arith, length-take 600 new, length-delivered f old n long) in
    let here = get_or-take 600 new l (f l) (omega arith) ∙ get_or-delivered n f old l h in
    let pair = get_or-pairs first second (take 600 new) l (f l) inside in
    (pair.0 ∙ ap first here, pair.1 ∙ ap second here)
