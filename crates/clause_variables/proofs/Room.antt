-- Every variable of frames 0 to 255 of a netlist within its limits has a clause number. No contract cites this file.
use Prim.Native.Nat.{ℕ, suc, ◌+◌, ◌-◌, ◌/◌, ◌≤◌, ◌<◌}
use mathlib.Core.Path.{◌≡◌}
use native.Mathlib.Nat.{add_assoc, le_of_lt, lt_of_lt_of_le}
use native.Mathlib.Omega.{arith}
use Rattle.model.specs.Netlist.{Netlist, Port, IsPort, port, last_wire}
use Rattle.model.specs.Clauses.{plus}
use Rattle.model.specs.Variables.{stride, base, pair_base}
use Rattle.model.specs.Acceptance.{SizesFit, WithinLimits, IsCode}
use Rattle.model.proofs.Ports.{stride_most, bit-within, variables-within}
use Rattle.model.proofs.Variables.{base-least, base-suc, base-most, pair_base-base, port-within}
use Rattle.literals.specs.Lit.{HasNumber}
use Rattle.literals.specs.Numbering.{NumberingFits}
use Rattle.literals.specs.declared.Numbering.{Numbering}
use Rattle.clause_variables.specs.PortFits.{PortFits}

-- V and a pair's variables are within their limits
pub numbering-fits : {c : Netlist} {x : Numbering} {i : ℕ} → SizesFit c → x.wires ≡ last_wire c → x.stride ≡ stride c → i ≤ 256
    → NumberingFits x i
numbering-fits h wires strides d = record { wires-most = rw wires h.wires-fit; stride_most = rw strides (stride_most h); frame-most = d }

-- so are those of each port of a netlist within its limits
pub port-fits : {c : Netlist} → WithinLimits c → (p : ℕ) → IsPort c p → PortFits c (port c p)
port-fits {c} h p here =
    record {
      limits = h;
      port-address-fits = h.codes.address-fits p here;
      port-RE-fits = h.codes.RE-fits p here;
      reads_fit = omega (arith, bit-within c p here (c.n - 1) (omega (arith, h.sizes.n-least)), h.sizes.n-least);
      variables-fit = omega (arith, variables-within c p here);
    }

-- a wire in a frame
pub wire-has-number : (c : Netlist) → SizesFit c → (i w : ℕ) → i ≤ 255 → w ≤ last_wire c → HasNumber (base c i) w
wire-has-number c h i w d l =
    record {
      after = base-least c i;
      bounded = omega (arith, base-suc c i, base-most c h (suc i) (omega arith));
    }

-- a code in a frame
pub code-has-number : (c : Netlist) → SizesFit c → (i x : ℕ) → i ≤ 255 → IsCode c x → HasNumber (base c i) (x / 2)
code-has-number c h i x d l = wire-has-number c h i (x / 2) d (omega arith)

-- a variable of a pair
pub pair-has-number : (c : Netlist) (p : Port) → PortFits c p → (j i v : ℕ) → j < i → i ≤ 255 → v ≤ c.m + 4
    → HasNumber (pair_base c p j i) v
pair-has-number c p h j i v l d b =
    record {
      after = omega (arith, base-least c i, pair_base-base c p j i);
      bounded = omega (arith, port-within c p j i v l (omega (arith, h.variables-fit)), base-most c h.limits.sizes (suc i) (omega arith));
    }

-- a variable of a pair, counted behind the e's of its address bits
pub behind-bits : (c : Netlist) (p : Port) (j i q o : ℕ) → q ≡ pair_base c p j i
    → plus (q + (c.m + o)) ≡ plus (pair_base c p j i + c.m + o)
behind-bits c p j i q o e = rw (e, add_assoc)

-- the same of the number that a call has answered, as `search` looks for them: of a pair the variables E and e, and those behind the e's
pub code-numbered : (c : Netlist) (i b x : ℕ) → b ≡ base c i → SizesFit c → IsCode c x → i ≤ 255 → HasNumber b (x / 2)
code-numbered c i b x e h l d = rw e (code-has-number c h i x d l)

pub pair-numbered : (c : Netlist) (p : Port) (j i q v : ℕ) → q ≡ pair_base c p j i → PortFits c p → j < i → i ≤ 255 → v ≤ 4 → HasNumber q v
pair-numbered c p j i q v e h l d b = rw e (pair-has-number c p h j i v l d (omega arith))

pub behind-numbered : (c : Netlist) (p : Port) (j i q m o : ℕ) → q ≡ pair_base c p j i → c.m ≡ m → PortFits c p → j < i → i ≤ 255 → o ≤ 4
    → HasNumber q (m + o)
behind-numbered c p j i q m o e k h l d b = rw e (pair-has-number c p h j i (m + o) l d (omega arith))

pub ruleset numbered = (code-numbered, pair-numbered, behind-numbered, le_of_lt, lt_of_lt_of_le)
