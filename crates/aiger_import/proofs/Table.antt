-- The table of a text, from the five parts that are put into it one after the other (specs/Tables.antt). Cited by `text_table`.
use Prim.Native.Nat.{ℕ, ◌+◌, ◌-◌, ◌*◌, ◌/◌, ◌≤◌, ◌<◌}
use mathlib.Core.Path.{◌≡◌, refl, sym, ◌∙◌, ap}
use mathlib.Core.List.{List}
use mathlib.Core.Logic.{by_cases}
use native.Mathlib.Decide.{dec_lt}
use native.Mathlib.Omega.{arith}
use lib.ListN.{get_or}
use Rattle.model.specs.Netlist as M
use Rattle.netlist.specs.declared.Netlist.{Netlist}
use Rattle.aiger_lines.specs.Parts.{counts_in, text_input_line, text_latch_line, text_output_line, text_gate_line}
use Rattle.aiger_lines.specs.Steps.{Behind}
use Rattle.aiger_lines.specs.declared.Counts.{Counts}
use Rattle.aiger_definitions.specs.Definitions.{number_at, defined_at}
use Rattle.aiger_netlist.specs.TextNetlist.{wire_of}
use Rattle.aiger_netlist.specs.TextAig.{text_aig}
use Rattle.aiger_netlist.proofs.Lines.{Defining, by-input, by-latch, by-gate, defining-defines, wire-input, wire-read, wire-latch, wire-gate}
use Rattle.aiger_codes.specs.WireTable.{WireTable}
use Rattle.aiger_codes.specs.Filling.{firsts_behind, entry_of, put_from, TableFilled}
use Rattle.aiger_codes.proofs.WireTable.{wire-both}
use Rattle.aiger_codes.proofs.Filling.{put-inside, put-before, put-behind}
use Rattle.aiger_import.specs.Tables.{sizes_of_text, TextReady, TableFor}
use Rattle.aiger_import.proofs.Sized.{Sized, sized, text-fits}

-- what one part puts there, and what it leaves
module _ (s : List ℕ) (line first count : ℕ) (old : List ℕ) {new : List ℕ}
    (filled : TableFilled 661 (put_from first count (firsts_behind s line) (entry_of old)) new) where
  there : (x w p : ℕ) → x < count → w ≡ first + x → w < 661 → p ≡ line + x + 1 → get_or new w 0 ≡ number_at s p 0
  unfolding firsts_behind
  there x w p b at within e =
      let back : w - first ≡ x = omega arith in
      filled.has w within
      ∙ put-inside first (firsts_behind s line) (entry_of old) count w (omega arith) (omega arith)
      ∙ rw (back, e)

  before : (w : ℕ) → w < 661 → w < first → get_or new w 0 ≡ get_or old w 0
  unfolding entry_of
  before w within l = filled.has w within ∙ put-before first (firsts_behind s line) (entry_of old) count w l

  behind : (w : ℕ) → w < 661 → first + count ≤ w → get_or new w 0 ≡ get_or old w 0
  unfolding entry_of
  behind w within l = filled.has w within ∙ put-behind first (firsts_behind s line) (entry_of old) count w l

module _ (s : List ℕ) (r : Netlist) (ready : TextReady s r) (t₀ t₁ t₂ t₃ t₄ t₅ : List ℕ) where
  abbrev h : Counts
  h = counts_in s

  abbrev c : M.Netlist
  c = sizes_of_text s r

  abbrev read_count : ℕ
  read_count = (r.second_port + 1) * r.n

  -- inputs, read bits, latches, outputs, gates
  pub record Parts (h : Counts) : Type 0 where
    pub none : get_or t₀ 0 0 ≡ 0
    pub inputs : TableFilled 661 (put_from 1 r.inputs (firsts_behind s 1) (entry_of t₀)) t₁
    pub reads : TableFilled 661 (put_from (1 + r.inputs + r.latches) read_count (firsts_behind s (1 + r.inputs)) (entry_of t₁)) t₂
    pub latches : TableFilled 661 (put_from (1 + r.inputs) r.latches (firsts_behind s (1 + h.inputs)) (entry_of t₂)) t₃
    pub outputs : TableFilled 661 (put_from 601 h.outputs (firsts_behind s (1 + h.inputs + h.latches)) (entry_of t₃)) t₄
    pub gates : TableFilled 661 (put_from (1 + r.inputs + r.latches + read_count) r.gates (firsts_behind s (1 + h.inputs + h.latches + h.outputs))
        (entry_of t₄)) t₅

  module _ (parts : Parts h) where
    is : Sized h r
    is = sized s r ready h refl

    -- below the gates and the outputs
    below : (w : ℕ) → w < 1 + r.inputs + r.latches + read_count → get_or t₅ w 0 ≡ get_or t₃ w 0
    below w l =
        before s (1 + h.inputs + h.latches + h.outputs) (1 + r.inputs + r.latches + read_count) r.gates t₄ parts.gates w (omega (arith, is)) l
        ∙ before s (1 + h.inputs + h.latches) 601 h.outputs t₃ parts.outputs w (omega (arith, is)) (omega (arith, is))

    -- below the latches
    early : (w : ℕ) → w < 1 + r.inputs → get_or t₅ w 0 ≡ get_or t₁ w 0
    early w l =
        below w (omega arith)
        ∙ before s (1 + h.inputs) (1 + r.inputs) r.latches t₂ parts.latches w (omega (arith, is)) l
        ∙ before s (1 + r.inputs) (1 + r.inputs + r.latches) read_count t₁ parts.reads w (omega (arith, is)) (omega arith)

    at_zero : get_or t₅ 0 0 ≡ 0
    at_zero = early 0 (omega arith) ∙ before s 1 1 r.inputs t₀ parts.inputs 0 (omega arith) (omega arith) ∙ parts.none

    at-input : (x : ℕ) → x < r.inputs → get_or t₅ (1 + x) 0 ≡ number_at s (text_input_line h x) 0
    at-input x b =
        early (1 + x) (omega arith)
        ∙ there s 1 1 r.inputs t₀ parts.inputs x (1 + x) (text_input_line h x) b refl (omega (arith, is)) (omega arith)

    at-latch : (l : ℕ) → l < r.latches → get_or t₅ (1 + r.inputs + l) 0 ≡ number_at s (text_latch_line h l) 0
    at-latch l b =
        below (1 + r.inputs + l) (omega arith)
        ∙ there s (1 + h.inputs) (1 + r.inputs) r.latches t₂ parts.latches l (1 + r.inputs + l) (text_latch_line h l) b refl (omega (arith, is))
        (omega arith)

    at_read : (t : ℕ) → t < read_count → get_or t₅ (1 + r.inputs + r.latches + t) 0 ≡ number_at s (text_input_line h (r.inputs + t)) 0
    at_read t b =
        let w = 1 + r.inputs + r.latches + t in
        below w (omega arith)
        ∙ behind s (1 + h.inputs) (1 + r.inputs) r.latches t₂ parts.latches w (omega (arith, is)) (omega arith)
        ∙ there s (1 + r.inputs) (1 + r.inputs + r.latches) read_count t₁ parts.reads t w (text_input_line h (r.inputs + t)) b refl
        (omega (arith, is)) (omega arith)

    at-gate : (g : ℕ) → g < r.gates → get_or t₅ (1 + r.inputs + r.latches + read_count + g) 0 ≡ number_at s (text_gate_line h g) 0
    at-gate g b =
        there s (1 + h.inputs + h.latches + h.outputs) (1 + r.inputs + r.latches + read_count) r.gates t₄ parts.gates g
        (1 + r.inputs + r.latches + read_count + g) (text_gate_line h g) b refl (omega (arith, is)) (omega arith)

    at-output : (o : ℕ) → o < h.outputs → get_or t₅ (601 + o) 0 ≡ (text_aig s).output o
    at-output o b =
        behind s (1 + h.inputs + h.latches + h.outputs) (1 + r.inputs + r.latches + read_count) r.gates t₄ parts.gates (601 + o)
        (omega (arith, is)) (omega (arith, is))
        ∙ there s (1 + h.inputs + h.latches) 601 h.outputs t₃ parts.outputs o (601 + o) (text_output_line h o) b refl (omega (arith, is))
        (omega arith)

    -- a line that defines has its first number at its wire
    at-line : {p : ℕ} → Defining h p → get_or t₅ (wire_of h c p) 0 ≡ number_at s p 0
    at-line (by-input x b e) =
        by_cases (dec_lt x c.inputs)
        (λ l. rw (e, wire-input h c (omega arith) x l) (at-input x (omega (arith, is)))) λ l.
        let wire : M.read_wire c (x - c.inputs) ≡ 1 + r.inputs + r.latches + (x - r.inputs) = omega (arith, is) in
        let back : r.inputs + (x - r.inputs) ≡ x = omega (arith, is) in
        rw (e, wire-read h c (omega arith) x (omega arith) b, wire)
        (at_read (x - r.inputs) (omega (arith, is)) ∙ ap (λ (y : ℕ). number_at s (text_input_line h y) 0) back)
    at-line (by-latch l b e) =
        let wire : M.latch_wire c l ≡ 1 + r.inputs + l = omega (arith, is) in
        rw (e, wire-latch h c (omega arith) l b, wire) (at-latch l (omega (arith, is)))
    at-line (by-gate g b e) =
        let wire : M.gate_wire c g ≡ 1 + r.inputs + r.latches + read_count + g = omega (arith, is) in
        rw (e, wire-gate h c (omega arith) g, wire) (at-gate g (omega (arith, is)))

    wires : WireTable s c t₅
    unfolding defined_at
    wires =
        record {
          at_zero = ap (λ (x : ℕ). x / 2) at_zero;
          at-wire = λ w a b.
              let found = wire-both h r.m r.n r.initial_word r.unknown_start r.second_port (text-fits s r ready).inputs-enough w a b in
              let both = found.1 in
              let entry : get_or t₅ w 0 ≡ number_at s found.0 0 = ap (λ (x : ℕ). get_or t₅ x 0) (sym both.wire-is) ∙ at-line both.defines in
              rw (both.line-is, defining-defines h both.defines, entry);
        }

    of-text : (latches gates : ℕ) → Behind s (1 + h.inputs) latches → Behind s (1 + h.inputs + h.latches + h.outputs) gates
        → TableFor s r t₅ latches gates
    of-text latches gates b d =
        record { full = parts.gates.full; wires = wires; outputs = at-output; latches-behind = b; gates-behind = d }

  -- by counts that are the text's
  pub table-for : (k : Counts) → k ≡ h → Parts k → (latches gates : ℕ) → Behind s (1 + k.inputs) latches
      → Behind s (1 + k.inputs + k.latches + k.outputs) gates → TableFor s r t₅ latches gates
  table-for k e = rw e of-text
