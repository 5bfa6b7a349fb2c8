-- The values that an assignment gives the wires of a frame, and what the literals of specs/Variables.antt mean by them.
-- No contract cites this file.
use Prim.Native.Nat.{ℕ, ◌+◌, ◌/◌, ◌<◌, ◌≤◌}
use mathlib.Core.Path.{◌≡◌, refl, sym, ◌∙◌, ap}
use mathlib.Core.Bool.{Bool, true, false}
use native.Mathlib.Omega.{arith}
use lib.Dec.{ltb}
use borrow.Author.Tests.{ltb-true, ltb-false, ne_eqb}
use Rattle.model.specs.Bits.{odd}
use Rattle.model.specs.Netlist.{Netlist, Port, read_wire}
use Rattle.model.specs.Circuit.{code_value}
use Rattle.model.specs.Variables.{base, wire_at, code_at, wire_in, code_in, read_bit}
use Rattle.model.specs.Numbers.{Assignment}
use Rattle.model.specs.Trace.{assigned}
use Rattle.model.proofs.Truth.{value}

pub assigned-zero : (c : Netlist) (a : Assignment) (i : ℕ) → assigned c a i 0 ≡ false
unfolding assigned
assigned-zero c a i = refl

pub assigned-wire : (c : Netlist) (a : Assignment) (i w : ℕ) → 1 ≤ w → assigned c a i w ≡ a (base c i + w)
unfolding assigned
assigned-wire c a i w h = rw (ne_eqb w 0 (λ e. omega arith))

pub wire_in-value : (c : Netlist) (a : Assignment) (i w : ℕ) → 1 ≤ w → value a (wire_in c i w) ≡ assigned c a i w
unfolding wire_at value
wire_in-value c a i w h = sym (assigned-wire c a i w h)

-- a read bit's literal has the read bit's value
pub read_bit-value : (c : Netlist) (p : Port) (a : Assignment) (i t : ℕ)
    → value a (read_bit c p i t) ≡ assigned c a i (read_wire c (p.first_read + t))
unfolding read_bit
read_bit-value c p a i t = wire_in-value c a i (read_wire c (p.first_read + t)) (omega arith)

-- a code's literal, in whatever frame, has the code's value
pub code_in-value : (c : Netlist) (a : Assignment) (i x : ℕ) → value a (code_in c i x) ≡ code_value (assigned c a i) x
unfolding code_at code_value value
code_in-value c a i x = go (ltb x 2) refl (odd x) refl
  where
    constant : x < 2 → assigned c a i (x / 2) ≡ false
    constant h = let z : x / 2 ≡ 0 = omega arith in ap (assigned c a i) z ∙ assigned-zero c a i

    variable : 2 ≤ x → assigned c a i (x / 2) ≡ a (base c i + x / 2)
    variable h = assigned-wire c a i (x / 2) (omega arith)

    go : (s : Bool) → ltb x 2 ≡ s → (o : Bool) → odd x ≡ o → value a (code_in c i x) ≡ code_value (assigned c a i) x
    go true e true q = rw (e, q, constant (ltb-true x 2 e))
    go true e false q = rw (e, q, constant (ltb-true x 2 e))
    go false e true q = rw (e, q, variable (ltb-false x 2 e))
    go false e false q = rw (e, q, variable (ltb-false x 2 e))
