-- The assignment that a run gives: a variable's number is decoded into its frame, and there into a wire or a pair's variable.
-- No contract cites this file.
use Prim.Native.Nat.{ℕ, zero, suc, ◌+◌, ◌-◌, ◌*◌, ◌/◌, ◌%◌, ◌≤◌, ◌<◌}
use mathlib.Core.Path.{◌≡◌, refl, sym, ◌∙◌, ap, ap₂, subst}
use mathlib.Core.Bool.{Bool, true, cond, ◌&&◌, beq}
use mathlib.Core.Logic.{⊎_elim}
use native.Mathlib.Nat.{le_refl, add-zero, mul-add-div_right, mul-add-mod_self_right, div-eq_of_lt, mod-eq_of_lt, le-suc_iff, suc-le-suc_iff, add-sub_cancel_left}
use native.Mathlib.Omega.{arith}
use lib.Dec.{eqb, ltb, leb}
use borrow.Author.Tests.{lt-ltb, le-ltb, le-leb, lt-leb, eq-eqb, ne_eqb}
use Rattle.model.specs.Netlist.{Netlist, Port, IsPort, port, last_wire}
use Rattle.model.specs.Circuit.{Values, code_value, address_of, write_address}
use Rattle.model.specs.Variables.{stride, base, pair_base, selected, pair_literals}
use Rattle.model.specs.Numbers.{Assignment}
use Rattle.model.specs.Trace.{hits}
use Rattle.model.proofs.Ports.{variables-within}
use Rattle.model.proofs.Variables.{base-suc, base-monotone, base-least, pair_base-base, port-within, none_since-earlier}
use Rattle.model.proofs.Truth.{value}
use Rattle.model.proofs.WitnessedReads.{nones, PairValues}

-- the frame, from k down, that a variable belongs to
unfoldable pub frame_of : Netlist → ℕ → ℕ → ℕ
frame_of c zero v = 0
frame_of c (suc k) v = cond (ltb (base c (suc k)) v) (suc k) (frame_of c k v)

frame_of-at : (c : Netlist) (k i v : ℕ) → i ≤ k → base c i < v → v ≤ base c (suc i) → frame_of c k v ≡ i
unfolding frame_of
frame_of-at c zero i v b lo hi = omega arith
frame_of-at c (suc k) i v b lo hi =
    ⊎_elim
    (λ (l : i ≤ k). rw (le-ltb (base c (suc k)) v (omega (arith, base-monotone c (suc-le-suc_iff.1 l)))) (frame_of-at c k i v l lo hi))
    (λ (e : i ≡ suc k). rw (lt-ltb (base c (suc k)) v (subst (λ (x : ℕ). base c x < v) e lo)) (sym e)) (le-suc_iff.0 b)

-- the variables of a pair at a port, counted from 0: E, e of each bit, s, PS, S
unfoldable pub pair_value : Netlist → Port → (ℕ → Values) → ℕ → ℕ → ℕ → Bool
pair_value c p u j i x =
    cond (eqb x 0) (eqb (address_of c p (u i)) (write_address c (u j)))
    (cond (ltb x (c.m + 1)) (beq (code_value (u j) (c.address (x - 1))) (code_value (u i) (p.address (x - 1))))
    (cond (eqb x (c.m + 1)) (hits c p u i j)
    (cond (eqb x (c.m + 2)) (nones c p u i j) (hits c p u i j && nones c p u i (suc j)))))

-- the pairs of frame i, counted from 0 over all of them: which pair, which port's block there, and what in it
unfoldable pub pairs_value : Netlist → (ℕ → Values) → ℕ → ℕ → Bool
pairs_value c u i y = pair_value c (port c (suc (y % stride c / (c.m + 4)))) u (y / stride c) i (y % stride c % (c.m + 4))

-- a variable of frame i, counted from its base
unfoldable pub value_in : Netlist → (ℕ → Values) → ℕ → ℕ → Bool
value_in c u i x = cond (leb x (last_wire c)) (u i x) (pairs_value c u i (x - last_wire c - 1))

-- the assignment that frames with the values u give, up to frame k
unfoldable pub witness : Netlist → ℕ → (ℕ → Values) → Assignment
witness c k u v = cond (leb v 1) true (value_in c u (frame_of c k v) (v - base c (frame_of c k v)))

pub witness-one : (c : Netlist) (k : ℕ) (u : ℕ → Values) → witness c k u 1 ≡ true
unfolding witness
witness-one c k u = refl

witness-in : (c : Netlist) (k : ℕ) (u : ℕ → Values) (i x : ℕ) → i ≤ k → 1 ≤ x → base c i + x ≤ base c (suc i)
    → witness c k u (base c i + x) ≡ value_in c u i x
unfolding witness
witness-in c k u i x b lo hi =
    let e : frame_of c k (base c i + x) ≡ i = frame_of-at c k i (base c i + x) b (omega arith) hi in
    rw (lt-leb (base c i + x) 1 (omega (arith, base-least c i)), e, add-sub_cancel_left (base c i) x)

pub witness-wire : (c : Netlist) (k : ℕ) (u : ℕ → Values) (i w : ℕ) → i ≤ k → 1 ≤ w → w ≤ last_wire c
    → witness c k u (base c i + w) ≡ u i w
witness-wire c k u i w b lo hi =
    witness-in c k u i w b lo (omega (arith, base-suc c i)) ∙ (unfold value_in in rw (le-leb w (last_wire c) hi))

-- q times n and x below n, divided by n
div-block : (q n x : ℕ) → x < n → (q * n + x) / n ≡ q
div-block q n x l = mul-add-div_right (omega arith) q x ∙ ap (λ (z : ℕ). q + z) (div-eq_of_lt l) ∙ add-zero q

mod-block : (q n x : ℕ) → x < n → (q * n + x) % n ≡ x
mod-block q n x l = mul-add-mod_self_right q n x ∙ mod-eq_of_lt l

-- the block of port p in pair (j, i)
pairs_value-at : (c : Netlist) (u : ℕ → Values) (p : ℕ) → IsPort c p → (j i x : ℕ) → x < c.m + 4
    → pairs_value c u i (j * stride c + ((port c p).first_variable + x)) ≡ pair_value c (port c p) u j i x
unfolding pairs_value
pairs_value-at c u p here j i x l =
    let z : ℕ = (port c p).first_variable + x in
    let within : z < stride c = omega (arith, variables-within c p here) in
    let rest : (j * stride c + z) % stride c ≡ (p - 1) * (c.m + 4) + x = mod-block j (stride c) z within in
    let same : suc (p - 1) ≡ p = omega (arith, here.0) in
    let its-port : suc ((j * stride c + z) % stride c / (c.m + 4)) ≡ p =
    ap (λ (y : ℕ). suc (y / (c.m + 4))) rest ∙ ap suc (div-block (p - 1) (c.m + 4) x l) ∙ same in
    let its-variable : (j * stride c + z) % stride c % (c.m + 4) ≡ x =
    ap (λ (y : ℕ). y % (c.m + 4)) rest ∙ mod-block (p - 1) (c.m + 4) x l in
    ap (λ (q : ℕ). pair_value c (port c q) u ((j * stride c + z) / stride c) i ((j * stride c + z) % stride c % (c.m + 4))) its-port
    ∙ ap₂ (λ (q y : ℕ). pair_value c (port c p) u q i y) (div-block j (stride c) z within) its-variable

witness-pair : (c : Netlist) (k : ℕ) (u : ℕ → Values) (p : ℕ) → IsPort c p → (j i x : ℕ) → j < i → i ≤ k → x < c.m + 4
    → witness c k u (pair_base c (port c p) j i + 1 + x) ≡ pair_value c (port c p) u j i x
unfolding value_in
witness-pair c k u p here j i x below b lo =
    let z : ℕ = j * stride c + ((port c p).first_variable + x) in
    let y : ℕ = last_wire c + 1 + z in
    let e : pair_base c (port c p) j i + 1 + x ≡ base c i + y = omega (arith, pair_base-base c (port c p) j i) in
    let within : base c i + y ≤ base c (suc i) = omega (arith, port-within c (port c p) j i (c.m + 4) below (variables-within c p here)) in
    let r : y - last_wire c - 1 ≡ z = omega arith in
    ap (witness c k u) e ∙ witness-in c k u i y b (omega arith) within
    ∙ rw (lt-leb y (last_wire c) (omega arith), r) (pairs_value-at c u p here j i x lo)

-- what each variable of a pair is in the witness
module _ (c : Netlist) (k : ℕ) (u : ℕ → Values) (p : ℕ) (here : IsPort c p) (j i : ℕ) (below : j < i) (b : i ≤ k) where
  pair-variable : (v x : ℕ) → v ≡ pair_base c (port c p) j i + 1 + x → x < c.m + 4 → witness c k u v ≡ pair_value c (port c p) u j i x
  pair-variable v x e l = ap (witness c k u) e ∙ witness-pair c k u p here j i x below b l

  witness-E : witness c k u (pair_base c (port c p) j i + 1) ≡ eqb (address_of c (port c p) (u i)) (write_address c (u j))
  unfolding pair_value
  witness-E = pair-variable (pair_base c (port c p) j i + 1) 0 (omega arith) (omega arith)

  witness-e : (t : ℕ) → t < c.m
      → witness c k u (pair_base c (port c p) j i + 2 + t) ≡ beq (code_value (u j) (c.address t)) (code_value (u i) ((port c p).address t))
  unfolding pair_value
  witness-e t l =
      pair-variable (pair_base c (port c p) j i + 2 + t) (1 + t) (omega arith) (omega arith)
      ∙ rw (ne_eqb (1 + t) 0 (λ e. omega arith), lt-ltb (1 + t) (c.m + 1) (omega arith), add-sub_cancel_left 1 t)

  witness-s : witness c k u (pair_base c (port c p) j i + c.m + 2) ≡ hits c (port c p) u i j
  unfolding pair_value
  witness-s =
      pair-variable (pair_base c (port c p) j i + c.m + 2) (c.m + 1) (omega arith) (omega arith)
      ∙ rw (ne_eqb (c.m + 1) 0 (λ e. omega arith), le-ltb (c.m + 1) (c.m + 1) (le_refl _), eq-eqb (c.m + 1) (c.m + 1) refl)

  witness-PS : witness c k u (pair_base c (port c p) j i + c.m + 3) ≡ nones c (port c p) u i j
  unfolding pair_value
  witness-PS =
      pair-variable (pair_base c (port c p) j i + c.m + 3) (c.m + 2) (omega arith) (omega arith)
      ∙ rw (ne_eqb (c.m + 2) 0 (λ e. omega arith), le-ltb (c.m + 2) (c.m + 1) (omega arith), ne_eqb (c.m + 2) (c.m + 1) (λ e. omega arith), eq-eqb (c.m + 2) (c.m + 2) refl)

  witness-S : witness c k u (pair_base c (port c p) j i + c.m + 4) ≡ (hits c (port c p) u i j && nones c (port c p) u i (suc j))
  unfolding pair_value
  witness-S =
      pair-variable (pair_base c (port c p) j i + c.m + 4) (c.m + 3) (omega arith) (omega arith)
      ∙ rw (ne_eqb (c.m + 3) 0 (λ e. omega arith), le-ltb (c.m + 3) (c.m + 1) (omega arith), ne_eqb (c.m + 3) (c.m + 1) (λ e. omega arith), ne_eqb (c.m + 3) (c.m + 2) (λ e. omega arith))

  -- as the frames give them
  pub witness-values : PairValues c (port c p) u (witness c k u) j i
  unfolding pair_literals selected value
  witness-values =
      record {
        E-is = witness-E;
        e-is = witness-e;
        s-is = witness-s;
        PS-is = ap (value (witness c k u)) (none_since-earlier c (port c p) j i below) ∙ witness-PS;
        S-is = witness-S;
      }
