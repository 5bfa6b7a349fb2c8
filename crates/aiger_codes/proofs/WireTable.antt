-- A variable that is known has its wire in a table of variables by wire (specs/WireTable.antt). Cited by the function that looks it up.
use Prim.Native.Nat.{ℕ, zero, suc, ◌+◌, ◌-◌, ◌*◌, ◌≤◌, ◌<◌}
use mathlib.Core.Path.{◌≡◌, refl, sym, ◌∙◌, ap}
use mathlib.Core.Bool.{false}
use mathlib.Core.List.{List}
use mathlib.Core.Logic.{by_cases}
use native.Mathlib.Decide.{dec_lt}
use native.Mathlib.Omega.{arith}
use lib.Dec.{eqb}
use borrow.Author.Tests.{lt-ltb, le-ltb, eq-eqb, ne_eqb}
use Rattle.model.specs.Netlist.{Netlist, read_bits, input_wire, latch_wire, read_wire, gate_wire, last_wire}
use Rattle.model.proofs.Search.{first_where-is, first-unique}
use Rattle.aiger_lines.specs.Parts.{counts_in, lines_due, text_input_line, text_latch_line, text_gate_line}
use Rattle.aiger_lines.specs.declared.Counts.{Counts}
use Rattle.aiger_definitions.specs.Definitions.{defined_at}
use Rattle.aiger_netlist.specs.TextNetlist.{text_sizes, wire_of, wire_of_variable}
use Rattle.aiger_codes.specs.WireTable.{line_of_wire, variable_at, WireTable, wire_found}
use Rattle.aiger_netlist.proofs.Lines.{Defining, by-input, by-latch, by-gate, wire-input, wire-read, wire-latch, wire-gate}
use Rattle.aiger_netlist.proofs.Defined.{WellDefined, Known, constant, line, wire-defined}
use Rattle.aiger_netlist.proofs.Codes.{FitsInterface, wire-zero}

-- Looked for from the first wire on: nothing before w has the variable v.
module _ (table : List ℕ) (v : ℕ) where
  abbrev pub NotBefore : ℕ → Type 0
  NotBefore w = (q : ℕ) → q < w → eqb (variable_at table q) v ≡ false

  pub found_at : (w : ℕ) → w ≤ 601 → NotBefore w → (w < 601 → variable_at table w ≡ v) → w ≡ wire_found table v
  unfolding wire_found
  found_at w b before there =
      first-unique
      (record { within = b; none_before = before; holds-there = λ l. eq-eqb (variable_at table w) v (there l) })
      (first_where-is (λ q. eqb (variable_at table q) v) 601)

  pub not-before-next : (w : ℕ) → NotBefore w → (variable_at table w ≡ v → ⊥) → NotBefore (w + 1)
  not-before-next w before other q b =
      by_cases (dec_lt q w) (before q) λ l.
      let here : q ≡ w = omega arith in
      rw here (ne_eqb (variable_at table w) v other)

-- the line of each wire
module _ (h : Counts) (c : Netlist) where
  line-input : (x : ℕ) → x < c.inputs → line_of_wire h c (input_wire c x) ≡ text_input_line h x
  unfolding line_of_wire
  line-input x b =
      let e : input_wire c x - input_wire c 0 ≡ x = omega arith in
      rw (lt-ltb (input_wire c x) (latch_wire c 0) (omega arith), e)

  line-latch : (l : ℕ) → l < c.latches → line_of_wire h c (latch_wire c l) ≡ text_latch_line h l
  unfolding line_of_wire
  line-latch l b =
      let e : latch_wire c l - latch_wire c 0 ≡ l = omega arith in
      rw (le-ltb (latch_wire c l) (latch_wire c 0) (omega arith), lt-ltb (latch_wire c l) (read_wire c 0) (omega arith), e)

  line_read : (t : ℕ) → t < read_bits c → line_of_wire h c (read_wire c t) ≡ text_input_line h (c.inputs + t)
  unfolding line_of_wire
  line_read t b =
      let e : read_wire c t - read_wire c 0 ≡ t = omega arith in
      rw (
        le-ltb (read_wire c t) (latch_wire c 0) (omega arith),
        le-ltb (read_wire c t) (read_wire c 0) (omega arith),
        lt-ltb (read_wire c t) (gate_wire c 0) (omega arith),
        e,
      )

  line-gate : (g : ℕ) → line_of_wire h c (gate_wire c g) ≡ text_gate_line h g
  unfolding line_of_wire
  line-gate g =
      let e : gate_wire c g - gate_wire c 0 ≡ g = omega arith in
      rw (
        le-ltb (gate_wire c g) (latch_wire c 0) (omega arith),
        le-ltb (gate_wire c g) (read_wire c 0) (omega arith),
        le-ltb (gate_wire c g) (gate_wire c 0) (omega arith),
        e,
      )

-- a line that defines, and its wire: each is found from the other
pub record LineAndWire (h : Counts) (c : Netlist) (p w : ℕ) : Type 0 where
  pub defines : Defining h p
  pub wire-is : wire_of h c p ≡ w
  pub line-is : line_of_wire h c w ≡ p
  pub wire-some : 1 ≤ w
  pub wire-most : w ≤ last_wire c

module _ (h : Counts) (m n word unknown second : ℕ) (enough : suc second * n ≤ h.inputs) where
  abbrev c : Netlist
  c = text_sizes h m n word unknown second

  both-input : (x : ℕ) → x < c.inputs → LineAndWire h c (text_input_line h x) (input_wire c x)
  both-input x b =
      record {
        defines = by-input x (omega arith) refl;
        wire-is = wire-input h c (omega arith) x b;
        line-is = line-input h c x b;
        wire-some = omega arith;
        wire-most = omega arith;
      }

  both_read : (t : ℕ) → t < read_bits c → LineAndWire h c (text_input_line h (c.inputs + t)) (read_wire c t)
  both_read t b =
      let e : c.inputs + t - c.inputs ≡ t = omega arith in
      record {
        defines = by-input (c.inputs + t) (omega arith) refl;
        wire-is = wire-read h c (omega arith) (c.inputs + t) (omega arith) (omega arith) ∙ ap (read_wire c) e;
        line-is = line_read h c t b;
        wire-some = omega arith;
        wire-most = omega arith;
      }

  both-latch : (l : ℕ) → l < h.latches → LineAndWire h c (text_latch_line h l) (latch_wire c l)
  both-latch l b =
      record {
        defines = by-latch l b refl;
        wire-is = wire-latch h c (omega arith) l b;
        line-is = line-latch h c l b;
        wire-some = omega arith;
        wire-most = omega arith;
      }

  both-gate : (g : ℕ) → g < h.gates → LineAndWire h c (text_gate_line h g) (gate_wire c g)
  both-gate g b =
      record {
        defines = by-gate g b refl;
        wire-is = wire-gate h c (omega arith) g;
        line-is = line-gate h c g;
        wire-some = omega arith;
        wire-most = omega arith;
      }

  -- of a line
  line-both : {p : ℕ} → Defining h p → (w : ℕ) × LineAndWire h c p w
  line-both (by-input x b e) =
      by_cases (dec_lt x c.inputs) (λ l. rw e (input_wire c x, both-input x l)) λ l.
      let back : c.inputs + (x - c.inputs) ≡ x = omega arith in
      rw (e, ← back) (read_wire c (x - c.inputs), both_read (x - c.inputs) (omega arith))
  line-both (by-latch l b e) = rw e (latch_wire c l, both-latch l b)
  line-both (by-gate g b e) = rw e (gate_wire c g, both-gate g b)

  -- of a wire
  pub wire-both : (w : ℕ) → 1 ≤ w → w ≤ last_wire c → (p : ℕ) × LineAndWire h c p w
  wire-both w a b =
      by_cases (dec_lt w (latch_wire c 0))
      (λ i. let e : w ≡ input_wire c (w - 1) = omega arith in rw e (text_input_line h (w - 1), both-input (w - 1) (omega arith))) λ i.
      by_cases (dec_lt w (read_wire c 0))
      (λ l. let e : w ≡ latch_wire c (w - latch_wire c 0) = omega arith in
      rw e (text_latch_line h (w - latch_wire c 0), both-latch (w - latch_wire c 0) (omega arith))) λ l.
      by_cases (dec_lt w (gate_wire c 0))
      (λ r. let e : w ≡ read_wire c (w - read_wire c 0) = omega arith in
      rw e (text_input_line h (c.inputs + (w - read_wire c 0)), both_read (w - read_wire c 0) (omega arith))) λ r.
      let e : w ≡ gate_wire c (w - gate_wire c 0) = omega arith in
      rw e (text_gate_line h (w - gate_wire c 0), both-gate (w - gate_wire c 0) (omega arith))

module _ (s : List ℕ) (ok : WellDefined s) (m n word unknown second : ℕ) (fits : FitsInterface (counts_in s) m n second) (table : List ℕ)
    (has : WireTable s (text_sizes (counts_in s) m n word unknown second) table) (small : last_wire (text_sizes (counts_in s) m n word unknown second) ≤ 600) where
  abbrev net : Netlist
  net = text_sizes (counts_in s) m n word unknown second

  -- a wire is that of the variable which the table has at it
  wire-at : (w v : ℕ) → w ≤ last_wire net → variable_at table w ≡ v → wire_of_variable s net v ≡ w
  wire-at zero v b e = ap (wire_of_variable s net) (sym e ∙ has.at_zero) ∙ wire-zero s net
  wire-at (suc w) v b e =
      let found = wire-both (counts_in s) m n word unknown second fits.inputs-enough (suc w) (omega arith) b in
      let there = found.1 in
      let variable : v ≡ defined_at s found.0 = sym e ∙ has.at-wire (suc w) (omega arith) b ∙ ap (defined_at s) there.line-is in
      ap (wire_of_variable s net) variable ∙ wire-defined s ok net there.defines ∙ there.wire-is

  -- and the table has a known variable at its wire
  variable-at : (v : ℕ) → Known s (lines_due (counts_in s) + 1) v → (wire_of_variable s net v ≤ last_wire net) × (variable_at table (wire_of_variable s net v) ≡ v)
  variable-at v (constant e) = rw (e, wire-zero s net) (omega arith, has.at_zero)
  variable-at v (line q l d e) =
      let found = line-both (counts_in s) m n word unknown second fits.inputs-enough d in
      let there = found.1 in
      let wire : wire_of_variable s net v ≡ found.0 = ap (wire_of_variable s net) e ∙ wire-defined s ok net d ∙ there.wire-is in
      rw wire (
        there.wire-most,
        has.at-wire found.0 there.wire-some there.wire-most ∙ ap (defined_at s) there.line-is ∙ sym e,
      )

  pub wire-found : (v : ℕ) → Known s (lines_due (counts_in s) + 1) v → wire_found table v ≡ wire_of_variable s net v
  unfolding wire_found
  wire-found v k =
      first-unique (first_where-is (λ w. eqb (variable_at table w) v) 601)
      (record {
        within = omega (arith, here.0);
        none_before = λ w b. ne_eqb (variable_at table w) v (λ e. omega (arith, here.0, wire-at w v (omega (arith, here.0)) e));
        holds-there = λ b. eq-eqb (variable_at table (wire_of_variable s net v)) v here.1;
      })
    where
      here : (wire_of_variable s net v ≤ last_wire net) × (variable_at table (wire_of_variable s net v) ≡ v)
      here = variable-at v k
