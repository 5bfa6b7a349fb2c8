-- Laws of tables of wires (specs/WireTable.antt of `netlist`): a table made entry by entry, of the read bits and of a sweep over the gates.
-- No contract cites this file.
use Prim.Native.Nat.{ℕ, ◌+◌, ◌/◌, ◌≤◌, ◌<◌}
use mathlib.Core.Path.{◌≡◌, refl, sym, ◌∙◌}
use mathlib.Core.Bool.{Bool, true, false, cond, ◌&&◌, ◌||◌, or-true, or-false}
use mathlib.Core.Logic.{by_cases}
use mathlib.Core.List.{List}
use native.Mathlib.Decide.{dec_lt}
use native.Mathlib.Numerals.{add-one}
use native.Mathlib.Omega.{arith}
use lib.Dec.{eqb, leb, ltb}
use lib.ListN.{set, replicate, length-replicate, get_or-replicate}
use borrow.Author.Tests.{eq-eqb, ne_eqb, le-leb, lt-leb, lt-ltb, le-ltb}
use Rattle.refusals.specs.Verdict.{Passed}
use Rattle.refusals.specs.declared.Refusal.TheVariants.{MemoryLoop}
use Rattle.refusals.proofs.Tests.{refuse_if-passes, in_order-passes}
use Rattle.model.specs.Netlist.{Netlist, port, read_wire, gate_wire}
use Rattle.model.specs.Circuit.{Values, sweep, is_read, depends_on_read}
use Rattle.model.specs.Acceptance.{WithinLimits}
use Rattle.model.specs.Search.{any_below}
use Rattle.model.proofs.Ports.{first-port, second-port}
use Rattle.model.proofs.Search.{any-never}
use Rattle.netlist.specs.WireTable.{entry, HasAll}
use Rattle.netlist.specs.Places.{address_line, line_at, HasLine}
use Rattle.netlist.specs.Faults.{loop_fault_by, loop_fault}
use Rattle.netlist_scan.specs.AnyLine.{of_second, any_line}
use Rattle.netlist_tests.specs.Record.{test_line, test_lines}
use Rattle.netlist_tests.specs.OnePort.{any_dependent}
use Rattle.netlist.specs.declared.Line.{Line}
use Rattle.netlist.specs.declared.Line.TheVariants.{Sizes, Memory, Latch, Gate, Address, WriteData, SecondAddress, SecondEnable, Control}
use Rattle.netlist.proofs.WireTable.{below_set}
use Rattle.netlist.proofs.Places.{before-address, has-line_at, every-place}
use Rattle.netlist.proofs.Faults.{Without}
use Rattle.netlist_scan.proofs.AnyLine.{none-in-lines}
use Rattle.netlist_tests.proofs.Record.{PassedTo, test_lines-passes}

-- a table of nothing
pub table_none : HasAll (λ w. false) (replicate 601 false)
table_none = record { size = length-replicate 601 false; has = λ w h. get_or-replicate 601 w false false h }

-- a table with one entry set
pub table-set : {f : ℕ → Bool} {flags : List Bool} → HasAll f flags → (v : ℕ) → v ≤ 600 → (b : Bool)
    → HasAll (λ w. cond (eqb w v) b (f w)) (set flags v b)
table-set {f} {flags} q v h b =
    below_set flags q.size v h b (rw (eq-eqb v v refl)) (λ w k away. rw (ne_eqb w v away) (q.has w k))

-- a table of the same values
pub table_same : {f g : ℕ → Bool} {flags : List Bool} → ((w : ℕ) → f w ≡ g w) → HasAll f flags → HasAll g flags
table_same same q = record { size = q.size; has = λ w h. q.has w h ∙ same w }

-- whether a wire is from a on and before b, as a loop over such wires meets it
abbrev pub between : ℕ → ℕ → ℕ → Bool
between a b w = leb a w && ltb w b

-- none is, where the two are equal
pub between_none : (a w : ℕ) → false ≡ between a a w
between_none a w =
    by_cases (dec_lt w a) (λ h. rw (lt-leb a w h)) (λ h. rw (le-leb a w (omega arith), le-ltb w a (omega arith)))

-- with b one on, b is too
pub between_next : (a b w : ℕ) → a ≤ b → cond (eqb w b) true (between a b w) ≡ between a (b + 1) w
between_next a b w h =
    by_cases (dec_lt w b)
    (λ l. rw (ne_eqb w b (omega arith), lt-ltb w b l, lt-ltb w (b + 1) (omega arith)))
    (λ l. by_cases (dec_lt b w)
    (λ m. rw (ne_eqb w b (omega arith), le-ltb w b (omega arith), le-ltb w (b + 1) (omega arith)))
    (λ m. rw (eq-eqb w b (omega arith), le-leb a w (omega arith), lt-ltb w (b + 1) (omega arith))))

-- the read bits are such wires
pub between-is_read : (c : Netlist) (a b : ℕ) → a ≡ read_wire c 0 → b ≡ gate_wire c 0 → (w : ℕ) → between a b w ≡ is_read c w
unfolding is_read
between-is_read c a b e f w = rw (e, f)

-- a sweep over one gate more sets the gate's wire
pub sweep-next : (op : Values → ℕ → ℕ → Bool) (c : Netlist) (v : Values) (g w : ℕ)
    → cond (eqb w (gate_wire c g)) (op (sweep op c v g) (c.left g) (c.right g)) (sweep op c v g w) ≡ sweep op c v (g + 1) w
unfolding sweep
sweep-next op c v g w = rw add-one

-- the tests of memory loops by a table are those by the wires themselves: every code is within the table
pub loop_fault-table : {c : Netlist} {flags : List Bool} → HasAll (depends_on_read c) flags → WithinLimits c → (x : Line) → HasLine c x
    → loop_fault c x ≡ loop_fault_by (entry flags) c x
unfolding loop_fault_by
loop_fault-table {c} q h Sizes s = refl
loop_fault-table {c} q h Memory s = refl
loop_fault-table {c} q h (Latch l) s = refl
loop_fault-table {c} q h (Gate g) s = refl
loop_fault-table {c} q h (Address t) s = sym (q.has (c.address t / 2) (omega (arith, h.codes.address-fits 1 (first-port c) t s, h.sizes.wires-fit)))
loop_fault-table {c} q h (WriteData t) s = refl
loop_fault-table {c} q h (SecondAddress t) s =
    sym (q.has (c.address2 t / 2) (omega (arith, h.codes.address-fits 2 (second-port c s.0) t s.1, h.sizes.wires-fit)))
loop_fault-table {c} q h SecondEnable s = sym (q.has (c.RE2 / 2) (omega (arith, h.codes.RE-fits 2 (second-port c s), h.sizes.wires-fit)))
loop_fault-table {c} q h Control s = sym (q.has (c.RE / 2) (omega (arith, h.codes.RE-fits 1 (first-port c), h.sizes.wires-fit)))

-- no line makes a memory loop where the pass over the lists finds none by such a table
pub loops-none : {c : Netlist} {flags : List Bool} → HasAll (depends_on_read c) flags → WithinLimits c
    → any_line c (loop_fault_by (entry flags)) ≡ false → test_lines c MemoryLoop loop_fault ≡ Passed
unfolding loop_fault_by
loops-none {c} {flags} q h e =
    let by-table = loop_fault_by (entry flags) in
    let none = (every-place c (Without by-table c)).0 (none-in-lines c by-table refl refl e) in
    (test_lines-passes c MemoryLoop loop_fault).1
    ((every-place c (Without loop_fault c)).1 (λ p l b. loop_fault-table q h (line_at c p) (has-line_at c p) ∙ none p l b))

-- no line but those of a port's address codes and its RE can make a memory loop: the pass over the lists, port by port
pub any_line-ports : (c : Netlist) (d : ℕ → Bool)
    → any_line c (loop_fault_by d)
    ≡ (any_dependent d (port c 1).address c.m (port c 1).RE || of_second c (any_dependent d (port c 2).address c.m (port c 2).RE))
unfolding loop_fault_by any_line any_dependent
any_line-ports c d =
    let address = any_below c.m (λ t. d (c.address t / 2)) in
    let second = of_second c (any_below c.m (λ t. d (c.address2 t / 2)) || d (c.RE2 / 2)) in
    simp (any-never, or-false) (RE-last address second (d (c.RE / 2)))
  where
    RE-last : (a b re : Bool) → (a || b || re) ≡ (a || re || b)
    RE-last true b re = refl
    RE-last false true re = sym (or-true re)
    RE-last false false re = sym (or-false re)

-- no line before the address codes makes a memory loop
pub loops-before : (c : Netlist) (p : ℕ) → p < address_line c 0 → PassedTo c MemoryLoop loop_fault p
unfolding loop_fault_by
loops-before c p h =
    (in_order-passes (test_line c MemoryLoop loop_fault) p).1
    (λ q l b. (refuse_if-passes (loop_fault c (line_at c q)) MemoryLoop q).1
    (before-address c (Without loop_fault c) refl refl (λ l. refl) (λ g. refl) q (omega arith)))
