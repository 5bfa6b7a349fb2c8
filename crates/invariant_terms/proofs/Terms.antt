-- Laws of specs/Terms.antt: what a term is in a step. No contract cites this file.
use Prim.Native.Nat.{ℕ, zero, suc, ◌+◌, ◌-◌, ◌*◌, ◌/◌, ◌%◌, ◌^◌, ◌<◌}
use mathlib.Core.Path.{◌≡◌, refl, sym, ◌∙◌, ap}
use mathlib.Core.Bool.{Bool, true, false, cond, not, ◌&&◌, beq}
use mathlib.Core.List.{List}
use mathlib.Core.Logic.{◌⊎◌, inl, inr, ⊎_elim, by_cases}
use native.Mathlib.Omega.{arith}
use native.Mathlib.Nat.{add-zero, le_of_suc-le-suc, eq-or-lt_of_le}
use native.Mathlib.Decide.{ℕ_discrete}
use lib.IntN.{ℤ, pos, negsuc}
use borrow.Author.Tests.{eq-eqb, ne_eqb, lt-ltb, le-ltb}
use Rattle.model.specs.Bits.{odd, bit}
use Rattle.model.specs.Netlist.{Netlist, port}
use Rattle.model.specs.Circuit.{Values, State, code_value, address_of, step}
use Rattle.model.specs.Numbers.{Assignment, number_true}
use Rattle.model.proofs.Bits.{bit-from_bits, from_bits-same, from_bits-bit}
use Rattle.model.proofs.Booleans.{and-true, beq-true}
use Rattle.invariant_terms.specs.StateBits.{state_count}
use Rattle.invariant_terms.specs.Terms.{variable, state_term, term, code_term, opposite, number_of}
use Rattle.invariant_terms.proofs.StateBits.{state_bit}
use Rattle.invariant_terms.proofs.StepValues.{agreeing, matched, failing, family_value, step_at}

-- codes: plain, negated, and the opposite
odd-twice : (u : ℕ) → odd (2 * u) ≡ false
unfolding odd
odd-twice u = ne_eqb (2 * u % 2) 1 (omega arith)

odd-more : (u : ℕ) → odd (2 * u + 1) ≡ true
unfolding odd
odd-more u = eq-eqb ((2 * u + 1) % 2) 1 (omega arith)

pub plain : (a : Assignment) (u : ℕ) → code_value a (2 * u) ≡ a u
unfolding code_value
plain a u = let h : 2 * u / 2 ≡ u = omega arith in rw (odd-twice u, h)

pub negated : (a : Assignment) (u : ℕ) → code_value a (2 * u + 1) ≡ not (a u)
unfolding code_value
negated a u = let h : (2 * u + 1) / 2 ≡ u = omega arith in rw (odd-more u, h)

-- a code is plain or negated
pub record OfVariable (x : ℕ) : Type 0 where
  pub u : ℕ
  pub is : (x ≡ 2 * u) ⊎ (x ≡ 2 * u + 1)

of-variable : (x : ℕ) → OfVariable x
of-variable x =
    by_cases (ℕ_discrete (x % 2) 1)
    (λ e. record { u = x / 2; is = inr (omega arith) })
    (λ e. record { u = x / 2; is = inl (omega arith) })

not-not : (b : Bool) → not (not b) ≡ b
not-not true = refl
not-not false = refl

pub opposite-value : (a : Assignment) (x : ℕ) → code_value a (opposite x) ≡ not (code_value a x)
unfolding opposite
opposite-value a x = go (of-variable x)
  where
    go : OfVariable x → code_value a (cond (odd x) (x - 1) (x + 1)) ≡ not (code_value a x)
    go q =
        ⊎_elim
        (λ (e : x ≡ 2 * q.u). rw (e, odd-twice q.u, plain a q.u, negated a q.u))
        (λ (e : x ≡ 2 * q.u + 1).
        let back : 2 * q.u + 1 - 1 ≡ 2 * q.u = omega arith in
        rw (e, odd-more q.u, negated a q.u, not-not (a q.u), back, plain a q.u))
        q.is

-- a term's number is true where it is
pub number-value : (g : ℕ → Bool) (x : ℕ) → number_true (λ u. g (u - 1)) (number_of x) ≡ code_value g x
unfolding number_of code_value number_true
number-value g x = go (odd x)
  where
    go : (b : Bool) → number_true (λ u. g (u - 1)) (cond b (negsuc (x / 2)) (pos (suc (x / 2)))) ≡ cond b (not (g (x / 2))) (g (x / 2))
    go true = let e : suc (x / 2) - 1 ≡ x / 2 = omega arith in ap (λ (u : ℕ). not (g u)) e
    go false = let e : suc (x / 2) - 1 ≡ x / 2 = omega arith in ap g e

-- a negated term
pub negated-value : (g : ℕ → Bool) (b k j : ℕ) → code_value g (term b k j + 1) ≡ not (code_value g (term b k j))
unfolding term
negated-value g b k j = negated g (variable b k j) ∙ ap not (sym (plain g (variable b k j)))

module _ (c : Netlist) (zs : List ℤ) (s : State) (v : Values) where
  abbrev pub value_in : ℕ → Bool
  value_in = step_at c zs s v

  -- the bits of the state
  pub state-value : (j : ℕ) → j < state_count c → code_value value_in (state_term j) ≡ state_bit c s j
  unfolding state_term step_at
  state-value j h = plain value_in j ∙ rw (lt-ltb j (state_count c) h)

  -- the families
  pub family-value : (k j : ℕ) → k < 5 → code_value value_in (term (state_count c) k j) ≡ family_value c zs s v k j
  unfolding term variable step_at
  family-value k j h =
      let b : ℕ = state_count c in
      let y : b + 5 * j + k - b ≡ 5 * j + k = omega arith in
      let rest : (5 * j + k) % 5 ≡ k = omega arith in
      let whole : (5 * j + k) / 5 ≡ j = omega arith in
      plain value_in (b + 5 * j + k) ∙ rw (le-ltb (b + 5 * j + k) b (omega arith), y, rest, whole)

  pub next-value : (j : ℕ) → code_value value_in (term (state_count c) 0 j) ≡ state_bit c (step c s v) j
  unfolding family_value
  next-value j = family-value 0 j (omega arith)

  pub wire-value : (w : ℕ) → code_value value_in (term (state_count c) 1 w) ≡ v w
  unfolding family_value
  wire-value w = family-value 1 w (omega arith)

  pub match-value : (j : ℕ) → code_value value_in (term (state_count c) 2 j) ≡ matched c v j
  unfolding family_value
  match-value j = family-value 2 j (omega arith)

  pub none-value : (h : ℕ) → code_value value_in (term (state_count c) 3 h) ≡ failing c zs (step c s v) false h
  unfolding family_value
  none-value h = family-value 3 h (omega arith)

  pub found-value : (h : ℕ) → code_value value_in (term (state_count c) 4 h) ≡ failing c zs (step c s v) true h
  unfolding family_value
  found-value h = family-value 4 h (omega arith)

  -- a code of the netlist
  pub code-value : (x : ℕ) → code_value value_in (code_term (state_count c) x) ≡ code_value v x
  unfolding code_term term
  code-value x = go (of-variable x)
    where
      go : OfVariable x → code_value value_in (term (state_count c) 1 (x / 2) + x % 2) ≡ code_value v x
      go q =
          ⊎_elim
          (λ (e : x ≡ 2 * q.u).
          let whole : 2 * q.u / 2 ≡ q.u = omega arith in
          let rest : 2 * q.u % 2 ≡ 0 = omega arith in
          rw (e, whole, rest, add-zero, plain v q.u) (wire-value q.u))
          (λ (e : x ≡ 2 * q.u + 1).
          let whole : (2 * q.u + 1) / 2 ≡ q.u = omega arith in
          let rest : (2 * q.u + 1) % 2 ≡ 1 = omega arith in
          rw (e, whole, rest, negated v q.u) (negated value_in (variable (state_count c) 1 q.u) ∙ ap not (sym (plain value_in (variable (state_count c) 1 q.u)) ∙ wire-value q.u)))
          q.is

-- a match of all address bits is the address
agreeing-bits : (f : ℕ → Bool) (y m : ℕ) → agreeing f y m ≡ true → (t : ℕ) → t < m → f t ≡ bit y t
unfolding agreeing
agreeing-bits f y zero e t h = absurd (omega arith)
agreeing-bits f y (suc m) e t h =
    let parts = (and-true (agreeing f y m) (beq (f m) (bit y m))).0 e in
    ⊎_elim
    (λ (s : t ≡ m). rw s ((beq-true (f m) (bit y m)).0 parts.1))
    (λ (l : t < m). agreeing-bits f y m parts.0 t l)
    (eq-or-lt_of_le (le_of_suc-le-suc h))

bits-agreeing : (f : ℕ → Bool) (y m : ℕ) → ((t : ℕ) → t < m → f t ≡ bit y t) → agreeing f y m ≡ true
unfolding agreeing
bits-agreeing f y zero e = refl
bits-agreeing f y (suc m) e =
    (and-true (agreeing f y m) (beq (f m) (bit y m))).1
    (bits-agreeing f y m (λ t l. e t (omega arith)), (beq-true (f m) (bit y m)).1 (e m (omega arith)))

module _ (c : Netlist) (v : Values) (q y : ℕ) (port-number : q < 2) where
  -- match 32 y + 2 t + q
  pub match_is : (t : ℕ) → t < 16 → matched c v (32 * y + 2 * t + q) ≡ agreeing (λ t. code_value v ((port c (suc q)).address t)) y t
  unfolding matched
  match_is t h =
      let p : (32 * y + 2 * t + q) % 2 ≡ q = omega arith in
      let word : (32 * y + 2 * t + q) / 32 ≡ y = omega arith in
      let half : (32 * y + 2 * t + q) / 2 ≡ 16 * y + t = omega arith in
      let bits : (16 * y + t) % 16 ≡ t = omega arith in
      rw (p, word, half, bits)

  -- of all bits: the port's address is word y's
  module _ (below : y < 2 ^ c.m) (few : c.m < 16) where
    pub match-address : matched c v (32 * y + 2 * c.m + q) ≡ true → address_of c (port c (suc q)) v ≡ y
    unfolding address_of
    match-address e =
        from_bits-same c.m (λ t. code_value v ((port c (suc q)).address t)) (bit y)
        (agreeing-bits (λ t. code_value v ((port c (suc q)).address t)) y c.m (sym (match_is c.m few) ∙ e))
        ∙ from_bits-bit c.m y below

    pub address-match : address_of c (port c (suc q)) v ≡ y → matched c v (32 * y + 2 * c.m + q) ≡ true
    unfolding address_of
    address-match e =
        match_is c.m few
        ∙ bits-agreeing (λ t. code_value v ((port c (suc q)).address t)) y c.m
        (λ t l. sym (bit-from_bits c.m (λ t. code_value v ((port c (suc q)).address t)) t l) ∙ ap (λ (x : ℕ). bit x t) e)

  -- none, and one bit more
  pub match_none : matched c v (32 * y + q) ≡ true
  unfolding agreeing
  match_none = let e : 32 * y + q ≡ 32 * y + 2 * 0 + q = omega arith in rw e (match_is 0 (omega arith))

  pub match-more : (t : ℕ) → suc t < 16
      → matched c v (32 * y + 2 * t + q + 2) ≡ (matched c v (32 * y + 2 * t + q) && beq (code_value v ((port c (suc q)).address t)) (bit y t))
  unfolding agreeing
  match-more t h =
      let e : 32 * y + 2 * t + q + 2 ≡ 32 * y + 2 * suc t + q = omega arith in
      rw (e, match_is t (omega arith)) (match_is (suc t) h)
