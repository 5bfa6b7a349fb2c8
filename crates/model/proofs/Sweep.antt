-- Laws of `sweep` (specs/Circuit.antt), and induction over the wires in their order. No contract cites this file.
use Prim.Native.Nat.{ℕ, zero, suc, ◌-◌, ◌*◌, ◌/◌, ◌≤◌, ◌<◌}
use mathlib.Core.Path.{◌≡◌, refl, sym, ◌∙◌, subst⁻¹}
use mathlib.Core.Bool.{Bool}
use mathlib.Core.Logic.{by_cases}
use native.Mathlib.Nat.{le_refl}
use native.Mathlib.Decide.{dec_lt, le_ind}
use native.Mathlib.Omega.{arith}
use borrow.Author.Tests.{eq-eqb, ne_eqb}
use Rattle.model.specs.Netlist.{Netlist, read_bits, input_wire, latch_wire, read_wire, gate_wire, last_wire}
use Rattle.model.specs.Circuit.{Values, sweep}
use Rattle.model.specs.Acceptance.{CodesFit}

-- a property of wires that holds of all but the gates, and of a gate's wire if it holds of all wires before
pub record ByWires (c : Netlist) (P : ℕ → Type 0) : Type 0 where
  pub at_zero : P 0
  pub at-input : (x : ℕ) → x < c.inputs → P (input_wire c x)
  pub at-latch : (l : ℕ) → l < c.latches → P (latch_wire c l)
  pub at_read : (t : ℕ) → t < read_bits c → P (read_wire c t)
  pub at-gate : (g : ℕ) → g < c.gates → ((w : ℕ) → w < gate_wire c g → P w) → P (gate_wire c g)

-- such a property holds of a wire if it holds of all wires before
wire-next : {c : Netlist} {P : ℕ → Type 0} → ByWires c P → (w : ℕ) → w ≤ last_wire c → ((x : ℕ) → x < w → P x) → P w
wire-next {c} {P} q w h before =
    by_cases (dec_lt w (input_wire c 0)) (λ b. at q.at_zero (omega arith)) λ i.
    by_cases (dec_lt w (latch_wire c 0)) (λ b. at (q.at-input (w - input_wire c 0) (omega arith)) (omega arith)) λ l.
    by_cases (dec_lt w (read_wire c 0)) (λ b. at (q.at-latch (w - latch_wire c 0) (omega arith)) (omega arith)) λ r.
    by_cases (dec_lt w (gate_wire c 0)) (λ b. at (q.at_read (w - read_wire c 0) (omega arith)) (omega arith)) λ g.
    at (q.at-gate (w - gate_wire c 0) (omega arith) (λ x b. before x (omega arith))) (omega arith)
  where
    at : {x : ℕ} → P x → w ≡ x → P w
    at p e = subst⁻¹ P e p

-- such a property holds of all wires
pub wire-induction : (c : Netlist) (P : ℕ → Type 0) → ByWires c P → (w : ℕ) → w ≤ last_wire c → P w
wire-induction c P q w h = below (suc w) w (le_refl _) h
  where
    below : (b x : ℕ) → x < b → x ≤ last_wire c → P x
    below zero x l h = absurd (omega arith)
    below (suc b) x l h = wire-next q x h (λ y k. below b y (omega arith) (omega arith))

-- an operation that looks at the wires of its two codes alone
abbrev pub OfTwoWires : (Values → ℕ → ℕ → Bool) → Type 0
OfTwoWires op = (u v : Values) (a b : ℕ) → u (a / 2) ≡ v (a / 2) → u (b / 2) ≡ v (b / 2) → op u a b ≡ op v a b

module _ (op : Values → ℕ → ℕ → Bool) (c : Netlist) (v : Values) where
  -- with one gate more, its wire has what the operation gives
  sweep-gate : (g : ℕ) → sweep op c v (suc g) (gate_wire c g) ≡ op (sweep op c v g) (c.left g) (c.right g)
  unfolding sweep
  sweep-gate g = rw (eq-eqb (gate_wire c g) (gate_wire c g) refl)

  -- with one gate more, every other wire is as before
  sweep-other : (g w : ℕ) → (w ≡ gate_wire c g → ⊥) → sweep op c v (suc g) w ≡ sweep op c v g w
  unfolding sweep
  sweep-other g w h = rw (ne_eqb w (gate_wire c g) h)

  -- later gates leave a wire before them as it is
  sweep-kept : (g k w : ℕ) → g ≤ k → w < gate_wire c g → sweep op c v k w ≡ sweep op c v g w
  sweep-kept g k w l b =
      le_ind (λ (j : ℕ). sweep op c v j w ≡ sweep op c v g w) refl (λ j m e. sweep-other j w (omega arith) ∙ e) k l

  -- a wire that is no gate's keeps its value
  pub sweep-outside : (g w : ℕ) → ((k : ℕ) → k < g → w ≡ gate_wire c k → ⊥) → sweep op c v g w ≡ v w
  unfolding sweep
  sweep-outside zero w h = refl
  sweep-outside (suc g) w h = sweep-other g w (h g (le_refl _)) ∙ sweep-outside g w (λ k l. h k (omega arith))

  -- a sweep over all gates solves the gates' equations
  pub sweep-solves : OfTwoWires op → CodesFit c → (g : ℕ) → g < c.gates
      → sweep op c v c.gates (gate_wire c g) ≡ op (sweep op c v c.gates) (c.left g) (c.right g)
  sweep-solves two q g h =
      sweep-kept (suc g) c.gates (gate_wire c g) h (omega arith) ∙ sweep-gate g
      ∙ two _ _ _ _ (settled (c.left g) (q.left-fits g h)) (settled (c.right g) (q.right-fits g h))
    where
      settled : (x : ℕ) → x < 2 * gate_wire c g → sweep op c v g (x / 2) ≡ sweep op c v c.gates (x / 2)
      settled x l = sym (sweep-kept g c.gates (x / 2) (omega arith) (omega arith))
