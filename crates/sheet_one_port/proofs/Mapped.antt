-- A list of which the first entries are mapped in place, one by one, by what is seen of an entry. Cited by the loops that renumber codes.
use Prim.Native.Nat.{ℕ, ◌+◌, ◌≤◌, ◌<◌}
use mathlib.Core.Path.{◌≡◌, refl, ◌∙◌, ap}
use mathlib.Core.List.{List}
use mathlib.Core.Logic.{by_cases}
use native.Mathlib.Nat.{not-suc-le-zero}
use native.Mathlib.Decide.{ℕ_discrete}
use native.Mathlib.Omega.{arith}
use lib.ListN.{length, get_or, set, length-set}
use lib.Seq.{get_or-set_same, get_or-set_other}

-- what is seen of the first i entries is mapped by f, and the others stand as they did
pub record Mapped {A : Type 0} (see : A → ℕ) (none : A) (f : ℕ → ℕ) (old : List A) (i : ℕ) (new : List A) : Type 0 where
  pub as_long : length new ≡ length old
  pub mapped : (x : ℕ) → x < i → see (get_or new x none) ≡ f (see (get_or old x none))
  pub kept : (x : ℕ) → i ≤ x → get_or new x none ≡ get_or old x none

module _ {A : Type 0} (see : A → ℕ) (none : A) (f : ℕ → ℕ) (old : List A) where
  pub mapped-none : Mapped see none f old 0 old
  mapped-none = record { as_long = refl; mapped = λ x b. absurd (not-suc-le-zero b); kept = λ x b. refl }

  -- one entry more
  pub mapped_next : {i : ℕ} {new : List A} → Mapped see none f old i new → i < length old → (v : A) → see v ≡ f (see (get_or new i none))
      → Mapped see none f old (i + 1) (set new i v)
  mapped_next {i} {new} q b v e =
      record {
        as_long = length-set new i v ∙ q.as_long;
        mapped = λ x l.
            by_cases (ℕ_discrete x i)
            (λ here. rw here (ap see (get_or-set_same new i v none (omega (arith, q.as_long))) ∙ e ∙ ap (λ y. f (see y)) (q.kept i (omega arith))))
            (λ away. ap see (get_or-set_other new i x v none away) ∙ q.mapped x (omega arith));
        kept = λ x l. get_or-set_other new i x v none (λ e. omega arith) ∙ q.kept x (omega arith);
      }
