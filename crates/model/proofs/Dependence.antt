-- `depends_on_read` (specs/Circuit.antt) says whether there is a path by wiring through gates from a read bit to the wire: the theorem
-- (`PathTheorem` of specs/Acceptance.antt). No contract cites this file.
use Prim.Native.Nat.{ℕ, ◌/◌, ◌<◌}
use mathlib.Core.Path.{◌≡◌, refl, sym, ◌∙◌}
use mathlib.Core.Bool.{Bool, true, false, ◌||◌, true≢false, or-true}
use mathlib.Core.Logic.{by_cases}
use native.Mathlib.Decide.{dec_le}
use native.Mathlib.Omega.{arith}
use borrow.Author.Tests.{le-leb, lt-leb, lt-ltb, le-ltb}
use Rattle.model.specs.Netlist.{Netlist, read_bits, input_wire, latch_wire, read_wire, gate_wire, last_wire}
use Rattle.model.specs.Circuit.{is_read, either_wire, depends_on_read, ReadPath, at_read, by_left, by_right}
use Rattle.model.specs.Acceptance.{CodesFit, PathTheorem}
use Rattle.model.proofs.Sweep.{ByWires, OfTwoWires, sweep-outside, sweep-solves, wire-induction}

-- the sweep looks at a gate's two wires alone
pub either_wire-of-two : OfTwoWires either_wire
unfolding either_wire
either_wire-of-two u v a b h k = rw (h, k)

-- a wire that is no gate's depends on a read bit if it is one
depends-source : (c : Netlist) (w : ℕ) → ((g : ℕ) → g < c.gates → w ≡ gate_wire c g → ⊥) → depends_on_read c w ≡ is_read c w
unfolding depends_on_read
depends-source c w h = sweep-outside either_wire c (is_read c) c.gates w h

-- a read bit depends on a read bit
pub depends-read : (c : Netlist) (t : ℕ) → t < read_bits c → depends_on_read c (read_wire c t) ≡ true
unfolding is_read
depends-read c t h =
    depends-source c (read_wire c t) (omega arith)
    ∙ rw (le-leb (read_wire c 0) (read_wire c t) (omega arith), lt-ltb (read_wire c t) (gate_wire c 0) (omega arith))

-- a wire before the read bits depends on none
depends-before : (c : Netlist) (w : ℕ) → w < read_wire c 0 → depends_on_read c w ≡ false
unfolding is_read
depends-before c w h = depends-source c w (omega arith) ∙ rw (lt-leb (read_wire c 0) w h)

-- a number past the last wire depends on none
depends-past : (c : Netlist) (w : ℕ) → last_wire c < w → depends_on_read c w ≡ false
unfolding is_read
depends-past c w h =
    depends-source c w (omega arith) ∙ rw (le-leb (read_wire c 0) w (omega arith), le-ltb w (gate_wire c 0) (omega arith))

-- a gate depends on a read bit if one of its two wires does
depends-gate : (c : Netlist) → CodesFit c → (g : ℕ) → g < c.gates
    → depends_on_read c (gate_wire c g) ≡ (depends_on_read c (c.left g / 2) || depends_on_read c (c.right g / 2))
unfolding depends_on_read either_wire
depends-gate c q g h = sweep-solves either_wire c (is_read c) either_wire-of-two q g h

-- a gate that depends on no read bit has two wires that do not
pub independent-gate : (c : Netlist) → CodesFit c → (g : ℕ) → g < c.gates → depends_on_read c (gate_wire c g) ≡ false
    → (depends_on_read c (c.left g / 2) ≡ false) × (depends_on_read c (c.right g / 2) ≡ false)
independent-gate c q g h e = neither _ _ (sym (depends-gate c q g h) ∙ e)
  where
    neither : (a b : Bool) → (a || b) ≡ false → (a ≡ false) × (b ≡ false)
    neither true b e = absurd (true≢false e)
    neither false b e = (refl, e)

-- a wire that depends on a read bit has a path from one
depends-path : (c : Netlist) → CodesFit c → (w : ℕ) → depends_on_read c w ≡ true → ReadPath c w
depends-path c q w e =
    by_cases (dec_le w (last_wire c)) (λ h. wire-induction c Reached wires w h e) (λ h. independent w (depends-past c w (omega arith)) e)
  where
    Reached : ℕ → Type 0
    Reached x = depends_on_read c x ≡ true → ReadPath c x

    independent : (x : ℕ) → depends_on_read c x ≡ false → Reached x
    independent x no_read e = absurd (true≢false (sym e ∙ no_read))

    before : (x : ℕ) → x < read_wire c 0 → Reached x
    before x h = independent x (depends-before c x h)

    gate : (g : ℕ) → g < c.gates → ((x : ℕ) → x < gate_wire c g → Reached x) → (a b : Bool)
        → depends_on_read c (c.left g / 2) ≡ a → depends_on_read c (c.right g / 2) ≡ b → (a || b) ≡ true → ReadPath c (gate_wire c g)
    gate g h below true b l r e = by_left g h (below (c.left g / 2) (omega (arith, q.left-fits g h)) l)
    gate g h below false true l r e = by_right g h (below (c.right g / 2) (omega (arith, q.right-fits g h)) r)
    gate g h below false false l r e = absurd (true≢false (sym e))

    wires : ByWires c Reached
    wires =
        record {
          at_zero = before 0 (omega arith);
          at-input = λ x h. before (input_wire c x) (omega arith);
          at-latch = λ l h. before (latch_wire c l) (omega arith);
          at_read = λ t h e. at_read t h;
          at-gate = λ g h below e. gate g h below _ _ refl refl (sym (depends-gate c q g h) ∙ e);
        }

-- a wire with a path from a read bit depends on one
path-depends : (c : Netlist) → CodesFit c → (w : ℕ) → ReadPath c w → depends_on_read c w ≡ true
path-depends c q w (at_read t h) = depends-read c t h
path-depends c q w (by_left g h p) = depends-gate c q g h ∙ rw (path-depends c q (c.left g / 2) p)
path-depends c q w (by_right g h p) = depends-gate c q g h ∙ rw (path-depends c q (c.right g / 2) p) (or-true (depends_on_read c (c.left g / 2)))

pub paths : PathTheorem
paths c limits w = (depends-path c limits.codes w, path-depends c limits.codes w)
