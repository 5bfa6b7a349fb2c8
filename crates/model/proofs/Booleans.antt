-- Laws of Booleans that the library has not. No contract cites this file.
use mathlib.Core.Path.{◌≡◌, refl, sym, ◌∙◌}
use mathlib.Core.Bool.{Bool, true, false, cond, not, ◌&&◌, ◌||◌, beq, true≢false, false≢true}
use mathlib.Core.Logic.{◌⊎◌, inl, inr, ◌↔◌}

-- a conjunction is true where both are
pub and-true : (x y : Bool) → ((x && y) ≡ true) ↔ ((x ≡ true) × (y ≡ true))
and-true true y = (λ h. (refl, h), λ h. h.1)
and-true false y = (λ h. absurd (false≢true h), λ h. h.0)

-- a disjunction is true where one is
pub or-true : (x y : Bool) → ((x || y) ≡ true) ↔ ((x ≡ true) ⊎ (y ≡ true))
or-true true y = (λ h. inl refl, λ h. refl)
or-true false y = (λ h. inr h, or-false-true y)
  where
    or-false-true : (y : Bool) → ((false ≡ true) ⊎ (y ≡ true)) → y ≡ true
    or-false-true y (inl h) = absurd (false≢true h)
    or-false-true y (inr h) = h

-- and false where neither is true
pub neither-true : (x y : Bool) → ((x || y) ≡ false) ↔ ((x ≡ false) × (y ≡ false))
neither-true true y = (λ h. absurd (true≢false h), λ h. h.0)
neither-true false y = (λ h. (refl, h), λ h. h.1)

-- true or false
pub either : (x : Bool) → (x ≡ true) ⊎ (x ≡ false)
either true = inl refl
either false = inr refl

-- not true is false
pub not-true-false : (x : Bool) → (x ≡ true → ⊥) → x ≡ false
not-true-false true h = absurd (h refl)
not-true-false false h = refl

-- two Booleans that are true in the same cases are equal
pub iff-eq : (x y : Bool) → (x ≡ true → y ≡ true) → (y ≡ true → x ≡ true) → x ≡ y
iff-eq true y f g = sym (f refl)
iff-eq false true f g = g refl
iff-eq false false f g = refl

-- choices by the same Boolean are equal where what is chosen is
pub cond_same : {A : Type 0} (b : Bool) {x y z w : A} → (b ≡ true → x ≡ y) → (b ≡ false → z ≡ w) → cond b x z ≡ cond b y w
cond_same true t f = t refl
cond_same false t f = f refl

-- the computed equality of Booleans
pub beq-true : (x y : Bool) → (beq x y ≡ true) ↔ (x ≡ y)
beq-true true true = (λ h. refl, λ h. refl)
beq-true true false = (λ h. absurd (false≢true h), λ h. sym h)
beq-true false true = (λ h. absurd (false≢true h), λ h. h)
beq-true false false = (λ h. refl, λ h. refl)

-- and with a constant
pub is-beq-true : (x : Bool) → x ≡ beq x true
is-beq-true true = refl
is-beq-true false = refl

pub not-beq-false : (x : Bool) → not x ≡ beq x false
not-beq-false true = refl
not-beq-false false = refl

-- equal Booleans are true in the same cases
pub eq_iff : {x y : Bool} → x ≡ y → (x ≡ true) ↔ (y ≡ true)
eq_iff e = (λ h. sym e ∙ h, λ h. e ∙ h)

-- a test of one Boolean, and of four, passed at all of them: a truth table, computed
abbrev every : (Bool → Bool) → Bool
every f = f true && f false

every-at : (f : Bool → Bool) → every f ≡ true → (x : Bool) → f x ≡ true
every-at f h true = ((and-true (f true) (f false)).0 h).0
every-at f h false = ((and-true (f true) (f false)).0 h).1

abbrev every4 : (Bool → Bool → Bool → Bool → Bool) → Bool
every4 f = every (λ p. every (λ q. every (λ r. every (λ s. f p q r s))))

every4-at : (f : Bool → Bool → Bool → Bool → Bool) → every4 f ≡ true → (p q r s : Bool) → f p q r s ≡ true
every4-at f h p q r s =
    every-at (λ s. f p q r s)
    (every-at (λ r. every (λ s. f p q r s))
    (every-at (λ q. every (λ r. every (λ s. f p q r s)))
    (every-at (λ p. every (λ q. every (λ r. every (λ s. f p q r s)))) h p) q) r) s

-- two functions of four Booleans with the same truth table are equal
pub tables-equal : (f g : Bool → Bool → Bool → Bool → Bool) → every4 (λ p q r s. beq (f p q r s) (g p q r s)) ≡ true
    → (p q r s : Bool) → f p q r s ≡ g p q r s
tables-equal f g h p q r s =
    (beq-true (f p q r s) (g p q r s)).0 (every4-at (λ p q r s. beq (f p q r s) (g p q r s)) h p q r s)

-- an implication, as a Boolean
pub implies_true : (x y : Bool) → ((not x || y) ≡ true) ↔ (x ≡ true → y ≡ true)
implies_true true y = (λ h e. h, λ h. h refl)
implies_true false y = (λ h e. absurd (false≢true e), λ h. refl)

-- one with three premises
pub implied-by-all : (p q r x : Bool) → (not p || (not q || (not r || x))) ≡ (not (p && q && r) || x)
implied-by-all true true r x = refl
implied-by-all true false r x = refl
implied-by-all false q r x = refl

pub all_true_lem : (p q r : Bool) → ((p && q && r) ≡ true) ↔ ((p ≡ true) × (q ≡ true) × (r ≡ true))
all_true_lem true true r = (λ h. (refl, refl, h), λ h. h.2)
all_true_lem true false r = (λ h. absurd (false≢true h), λ h. h.1)
all_true_lem false q r = (λ h. absurd (false≢true h), λ h. h.0)

-- an implication whose conclusion, and one whose premise, is an equality
pub equal_if : (p x y : Bool) → ((not p || beq x y) ≡ true) ↔ (p ≡ true → x ≡ y)
equal_if true x y = (λ h e. (beq-true x y).0 h, λ h. (beq-true x y).1 (h refl))
equal_if false x y = (λ h e. absurd (false≢true e), λ h. refl)

pub if-equal : (x y e : Bool) → ((not (beq x y) || e) ≡ true) ↔ (x ≡ y → e ≡ true)
if-equal true true e = (λ h q. h, λ h. h refl)
if-equal true false e = (λ h q. absurd (true≢false q), λ h. refl)
if-equal false true e = (λ h q. absurd (false≢true q), λ h. refl)
if-equal false false e = (λ h q. h, λ h. h refl)
