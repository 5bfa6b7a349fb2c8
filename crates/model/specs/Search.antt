-- Whether a property holds at any place, the first place where it does (RULES Y5, of frames), and whether a number stands at an earlier
-- place (RULES T17, of wires). Cited by passes over lists (netlist_scan/specs/AnyLine) and by what is said of lines place by place.
use Rattle.std.specs.Prelude.{ℕ, zero, suc, ◌≤◌, ◌<◌, ◌≡◌, Bool, true, false, cond, ◌||◌, eqb}

-- whether any number below n has a property
unfoldable pub any_below : ℕ → (ℕ → Bool) → Bool
any_below zero has = false
any_below (suc n) has = any_below n has || has n

-- the first of the d places from i on where f holds; the place behind them if there is none
unfoldable pub first_from : (ℕ → Bool) → ℕ → ℕ → ℕ
first_from f zero i = i
first_from f (suc d) i = cond (f i) i (first_from f d (suc i))

-- the first place below n where f holds; n if there is none
unfoldable pub first_where : (ℕ → Bool) → ℕ → ℕ
first_where f n = first_from f n 0

-- the same without a search: f holds at p, or p is n, and it holds at no place before
pub record IsFirst (f : ℕ → Bool) (n p : ℕ) : Type 0 where
  pub within : p ≤ n
  pub none_before : (q : ℕ) → q < p → f q ≡ false
  pub holds-there : p < n → f p ≡ true

-- whether the number v stands at a place below i, where f x is the number at place x
unfoldable pub seen : (ℕ → ℕ) → ℕ → ℕ → Bool
seen f i v = any_below i (λ x. eqb (f x) v)
