-- Laws of tables of values (specs/WireTable.antt of `netlist`, specs/Gates.antt): a table grows by one wire. No contract cites this file.
use Prim.Native.Nat.{ℕ, ◌+◌, ◌*◌, ◌/◌, ◌≤◌, ◌<◌}
use mathlib.Core.Path.{◌≡◌, sym, ◌∙◌, ap₂}
use mathlib.Core.Bool.{Bool, false, ◌&&◌}
use mathlib.Core.List.{List}
use native.Mathlib.Omega.{arith}
use lib.ListN.{length, set}
use Rattle.model.specs.Netlist.{Netlist, gate_wire}
use Rattle.model.specs.Circuit.{Values, code_value}
use Rattle.model.specs.Acceptance.{WithinLimits}
use Rattle.model.proofs.Circuit.{code_same}
use Rattle.netlist.specs.WireTable.{entry, HasBelow}
use Rattle.netlist.proofs.WireTable.{below_set}
use Rattle.circuit_values.specs.Gates.{GatesHold}

-- the wire at b set to its value
below_next : {b : ℕ} {v : Values} {table : List Bool} → HasBelow b v table → b ≤ 600 → (x : Bool) → x ≡ v b
    → HasBelow (b + 1) v (set table b x)
below_next {b} {table = table} q l x e = below_set table q.size b l x e (λ w h away. q.has w (omega arith))

-- wire 0 alone
pub below-start : {v : Values} (table : List Bool) → length table ≡ 601 → v 0 ≡ false → HasBelow 1 v (set table 0 false)
below-start {v} table size e =
    below_next {b = 0} {v = v} {table = table} (record { size = size; has = λ w h. absurd (omega arith) }) (omega arith) false (sym e)

-- a table has fewer wires too
pub below-fewer : {b d : ℕ} {v : Values} {table : List Bool} → d ≤ b → HasBelow b v table → HasBelow d v table
below-fewer l q = record { size = q.size; has = λ w h. q.has w (omega arith) }

-- a table that had values before `first`, and has been given those of f at x wires more: as a loop meets it
abbrev pub Grown : List Bool → ℕ → (ℕ → Bool) → List Bool → ℕ → Type 0
Grown old first f table x = (v : Values) → HasBelow first v old → ((y : ℕ) → y < x → f y ≡ v (first + y)) → HasBelow (first + x) v table

pub grown-none : (old : List Bool) (first : ℕ) (f : ℕ → Bool) → Grown old first f old 0
grown-none old first f v q e = below-fewer (omega arith) q

pub grown-next : {old : List Bool} {first : ℕ} {f : ℕ → Bool} {table : List Bool} {x : ℕ} → Grown old first f table x
    → first + x ≤ 600 → (b : Bool) → b ≡ f x → Grown old first f (set table (first + x) b) (x + 1)
grown-next {first = first} {x = x} grown l b e v q each =
    below-fewer (omega arith) (below_next (grown v q (λ y h. each y (omega arith))) l b (e ∙ each x (omega arith)))

-- a table that had all wires before the gates, and the first g gates too: as the loop over the gates meets it
abbrev pub Worked : Netlist → List Bool → List Bool → ℕ → Type 0
Worked c old table g = (v : Values) → GatesHold c v → HasBelow (gate_wire c 0) v old → HasBelow (gate_wire c g) v table

pub worked-none : (c : Netlist) (old : List Bool) → Worked c old old 0
worked-none c old v gates q = q

-- a gate's two codes name wires before it, so the table has their values
pub code_below : {b : ℕ} {v : Values} {table : List Bool} → HasBelow b v table → (x : ℕ) → x < 2 * b → code_value (entry table) x ≡ code_value v x
code_below {v = v} {table} q x l = code_same (entry table) v x (q.has (x / 2) (omega arith))

pub worked-next : {c : Netlist} {old table : List Bool} {g : ℕ} → WithinLimits c → g < c.gates → Worked c old table g
    → {own : ℕ} → own ≡ gate_wire c g → {left right : Bool} → left ≡ code_value (entry table) (c.left g) → right ≡ code_value (entry table) (c.right g)
    → Worked c old (set table own (left && right)) (g + 1)
worked-next {c} {old} {table} {g} limits l worked {own} e {left} {right} p r v gates q =
    let before = worked v gates q in
    rw e
    (below-fewer (omega arith)
    (below_next before (omega (arith, limits.sizes.wires-fit)) (left && right)
    (ap₂ ◌&&◌ (p ∙ code_below before (c.left g) (limits.codes.left-fits g l))
    (r ∙ code_below before (c.right g) (limits.codes.right-fits g l)) ∙ sym (gates.at-gate g l))))
