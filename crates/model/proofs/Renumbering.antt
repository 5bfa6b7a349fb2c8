-- A network (specs/Network.antt) under other numbers has the same values. Of a code as of a variable; and in a netlist, by `evaluate`.
-- No contract cites this file.
use Prim.Native.Nat.{ℕ, zero, suc, ◌-◌, ◌/◌, ◌%◌, ◌≤◌, ◌<◌}
use mathlib.Core.Path.{◌≡◌, ap, ap₂, sym, ◌∙◌}
use mathlib.Core.Bool.{Bool, ◌&&◌, and_comm}
use mathlib.Core.Logic.{by_cases}
use native.Mathlib.Decide.{dec_lt}
use native.Mathlib.Nat.{le_refl, le_of_suc-le, not-suc-le-zero}
use native.Mathlib.Omega.{arith}
use Rattle.model.specs.Bits.{odd}
use Rattle.model.specs.Netlist.{Netlist, gate_wire, last_wire}
use Rattle.model.specs.Circuit.{Values, code_value, evaluate}
use Rattle.model.specs.Network.{Network, Obeys, renamed}
use Rattle.model.specs.Acceptance.{CodesFit}
use Rattle.model.proofs.Below.{all-below-suc}
use Rattle.model.proofs.Circuit.{code_same, Solves, evaluate-solves}

-- the gates of a netlist, over its wires
abbrev pub network_of : Netlist → Network
network_of c = record { gates = c.gates; own = gate_wire c; left = c.left; right = c.right }

-- what is defined before gate g: variable 0, the sources (inputs, latches, read bits), the variables of earlier gates
pub data DefinedBefore (h : Network) (Source : ℕ → Type 0) (g x : ℕ) : Type 0 where
  constant : x ≡ 0 → DefinedBefore h Source g x
  source : Source x → DefinedBefore h Source g x
  gate : (e : ℕ) → e < g → x ≡ h.own e → DefinedBefore h Source g x

-- what is defined at all
abbrev pub Defined : Network → (ℕ → Type 0) → ℕ → Type 0
Defined h Source x = DefinedBefore h Source h.gates x

-- each gate's two variables are defined before it
pub record OperandsDefined (h : Network) (Source : ℕ → Type 0) : Type 0 where
  pub left-defined : (g : ℕ) → g < h.gates → DefinedBefore h Source g (h.left g / 2)
  pub right-defined : (g : ℕ) → g < h.gates → DefinedBefore h Source g (h.right g / 2)

-- a gate's two codes a and b are x and y, in this order or the other
pub data SameOperands (a b x y : ℕ) : Type 0 where
  straight : x ≡ a → y ≡ b → SameOperands a b x y
  crossed : x ≡ b → y ≡ a → SameOperands a b x y

-- k has the gates of h, where variable x has the number ρ x
pub record Renumbers (ρ : ℕ → ℕ) (h k : Network) : Type 0 where
  pub zero-kept : ρ 0 ≡ 0
  pub gates-same : k.gates ≡ h.gates
  pub own_same : (g : ℕ) → g < h.gates → k.own g ≡ ρ (h.own g)
  pub operands_same : (g : ℕ) → g < h.gates → SameOperands (renamed ρ (h.left g)) (renamed ρ (h.right g)) (k.left g) (k.right g)

-- a renamed code has the renamed variable, inverted or not as the code
pub renamed-variable : (ρ : ℕ → ℕ) (x : ℕ) → renamed ρ x / 2 ≡ ρ (x / 2)
unfolding renamed
renamed-variable ρ x = omega arith

renamed-sign : (ρ : ℕ → ℕ) (x : ℕ) → renamed ρ x % 2 ≡ x % 2
unfolding renamed
renamed-sign ρ x = omega arith

-- so its value is the code's in the values seen through ρ
pub renamed-value : (v : Values) (ρ : ℕ → ℕ) (x : ℕ) → code_value v (renamed ρ x) ≡ code_value (λ w. v (ρ w)) x
unfolding code_value odd
renamed-value v ρ x = rw (renamed-variable ρ x, renamed-sign ρ x)

-- the order of a gate's codes does not matter
operands-value : (v : Values) {a b x y : ℕ} → SameOperands a b x y → (code_value v x && code_value v y) ≡ (code_value v a && code_value v b)
operands-value v (straight e f) = rw (e, f)
operands-value v {a} {b} (crossed e f) = rw (e, f) (and_comm (code_value v b) (code_value v a))

-- values that obey the network under other numbers obey it, seen through them
pub renumbered-obeys : {ρ : ℕ → ℕ} {h k : Network} → Renumbers ρ h k → {v : Values} → Obeys k v → Obeys h (λ x. v (ρ x))
renumbered-obeys {ρ} {h} {k} r {v} o =
    record {
      at_zero = ap v r.zero-kept ∙ o.at_zero;
      at-gate = λ g b.
          ap v (sym (r.own_same g b)) ∙ o.at-gate g (rw r.gates-same b) ∙ operands-value v (r.operands_same g b)
          ∙ ap₂ ◌&&◌ (renamed-value v ρ (h.left g)) (renamed-value v ρ (h.right g));
    }

-- values that obey a network are the same on all that is defined, where the sources are
module _ {h : Network} {Source : ℕ → Type 0} (defined : OperandsDefined h Source) {u v : Values} (p : Obeys h u) (q : Obeys h v)
    (sources : (x : ℕ) → Source x → u x ≡ v x) where
  before_same : (g : ℕ) → ((e : ℕ) → e < g → u (h.own e) ≡ v (h.own e)) → (x : ℕ) → DefinedBefore h Source g x → u x ≡ v x
  before_same g earlier x (constant e) = rw e (p.at_zero ∙ sym q.at_zero)
  before_same g earlier x (source s) = sources x s
  before_same g earlier x (gate e b k) = rw k (earlier e b)

  gates-same : (n : ℕ) → n ≤ h.gates → (g : ℕ) → g < n → u (h.own g) ≡ v (h.own g)
  gates-same zero b = λ g l. absurd (not-suc-le-zero l)
  gates-same (suc n) b =
      let earlier = gates-same n (le_of_suc-le b) in
      all-below-suc (λ g. u (h.own g) ≡ v (h.own g)) n earlier
      (p.at-gate n b
      ∙ ap₂ ◌&&◌ (code_same u v (h.left n) (before_same n earlier _ (defined.left-defined n b)))
      (code_same u v (h.right n) (before_same n earlier _ (defined.right-defined n b)))
      ∙ sym (q.at-gate n b))

  pub obeys-unique : (x : ℕ) → Defined h Source x → u x ≡ v x
  obeys-unique = before_same h.gates (gates-same h.gates (le_refl _))

-- a network and the same under other numbers, whose sources have the same values
module _ {ρ : ℕ → ℕ} {h k : Network} (r : Renumbers ρ h k) {Source : ℕ → Type 0} (defined : OperandsDefined h Source) {u v : Values}
    (p : Obeys h u) (q : Obeys k v) (sources : (x : ℕ) → Source x → u x ≡ v (ρ x)) where
  -- every variable that is defined has the same value
  pub gates-same-value : (x : ℕ) → Defined h Source x → u x ≡ v (ρ x)
  gates-same-value = obeys-unique defined p (renumbered-obeys r q) sources

  -- and so has every code of one
  pub codes-same-value : (x : ℕ) → Defined h Source (x / 2) → code_value u x ≡ code_value v (renamed ρ x)
  codes-same-value x d = code_same u (λ w. v (ρ w)) x (gates-same-value (x / 2) d) ∙ sym (renamed-value v ρ x)

-- A netlist's gates: its sources are the wires before them.
abbrev pub SourceWire : Netlist → ℕ → Type 0
SourceWire c w = w < gate_wire c 0

-- a wire below a gate's is defined before it
wire-before : (c : Netlist) (g w : ℕ) → w < gate_wire c g → DefinedBefore (network_of c) (SourceWire c) g w
wire-before c g w b =
    by_cases (dec_lt w (gate_wire c 0)) (λ l. source l) (λ l. gate (w - gate_wire c 0) (omega arith) (omega arith))

-- so every wire is defined, and each gate's before it where codes are within their limits
pub wire-defined : (c : Netlist) (w : ℕ) → w ≤ last_wire c → Defined (network_of c) (SourceWire c) w
wire-defined c w b = wire-before c c.gates w (omega arith)

pub netlist-defined : {c : Netlist} → CodesFit c → OperandsDefined (network_of c) (SourceWire c)
netlist-defined {c} fit =
    record {
      left-defined = λ g b. wire-before c g (c.left g / 2) (omega (arith, fit.left-fits g b));
      right-defined = λ g b. wire-before c g (c.right g / 2) (omega (arith, fit.right-fits g b));
    }

-- what solves a netlist's equations, as `evaluate` does, obeys its gates
pub solves-obeys : {c : Netlist} {input latch read : ℕ → Bool} {v : Values} → Solves c input latch read v → Obeys (network_of c) v
solves-obeys s = record { at_zero = s.at_zero; at-gate = s.at-gate }

pub evaluate-obeys : {c : Netlist} → CodesFit c → (input latch read : ℕ → Bool) → Obeys (network_of c) (evaluate c input latch read)
evaluate-obeys {c} fit input latch read = solves-obeys (evaluate-solves c input latch read fit)
