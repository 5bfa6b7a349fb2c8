-- What the tests 11 and 13 leave of a text (RULES T11 and T13): each line due that defines a variable is found by it, and each code is a
-- constant or names a variable that is defined, for a gate's operand before its line. No contract cites this file.
use Prim.Native.Nat.{ℕ, ◌+◌, ◌/◌, ◌≤◌, ◌<◌}
use mathlib.Core.Path.{◌≡◌, refl, sym}
use mathlib.Core.Bool.{true, false}
use mathlib.Core.List.{List}
use mathlib.Core.Logic.{◌⊎◌, inl, inr, by_cases}
use native.Mathlib.Decide.{dec_lt}
use native.Mathlib.Omega.{arith}
use lib.Dec.{eqb}
use borrow.Author.Tests.{ne_eqb}
use Rattle.model.specs.Netlist.{Netlist}
use Rattle.model.proofs.Booleans.{either}
use Rattle.model.proofs.Search.{first_where-is, first-unique}
use Rattle.aiger_lines.specs.Parts.{counts_in, lines_due, text_latch_line, text_output_line, text_gate_line, numbers_on_line, part_at, defines, malformed_at}
use Rattle.aiger_lines.proofs.Parts.{well-defined}
use Rattle.aiger_definitions.specs.Definitions.{number_at, defined_at, defines_again, is_undefined, undefined_at}
use Rattle.aiger_definitions.proofs.Places.{defined-first, defined-before, latch-defined, output-defined, gate-defined}
use Rattle.aiger_netlist.specs.TextNetlist.{wire_of, defining_line, wire_of_variable}
use Rattle.aiger_netlist.specs.TextAig.{text_aig}
use Rattle.aiger_netlist.proofs.Lines.{Defining, part-latch, part-output, part-gate, defining, defining-due, defining-defines}

-- no line due has one of the faults
pub record WellDefined (s : List ℕ) : Type 0 where
  pub well-formed : (p : ℕ) → 1 ≤ p → p ≤ lines_due (counts_in s) → malformed_at s p ≡ false
  pub defined-once : (p : ℕ) → 1 ≤ p → p ≤ lines_due (counts_in s) → defines_again s p ≡ false
  pub none-undefined : (p : ℕ) → 1 ≤ p → p ≤ lines_due (counts_in s) → undefined_at s p ≡ false

-- the variable v is known before line p: it is the constant, or an earlier line defines it
pub data Known (s : List ℕ) (p v : ℕ) : Type 0 where
  constant : v ≡ 0 → Known s p v
  line : (q : ℕ) → q < p → Defining (counts_in s) q → v ≡ defined_at s q → Known s p v

-- a line that defines something above 0 is one that defines
defines-some : (s : List ℕ) (p : ℕ) → 1 ≤ defined_at s p → defines (part_at (counts_in s) p) ≡ true
unfolding defined_at
defines-some s p some = at (either (defines (part_at (counts_in s) p)))
  where
    at : (defines (part_at (counts_in s) p) ≡ true) ⊎ (defines (part_at (counts_in s) p) ≡ false) → defines (part_at (counts_in s) p) ≡ true
    at (inl e) = e
    at (inr e) = let none : 1 ≤ 0 = rw e at some in absurd (omega arith)

-- a code that is not undefined
known : (s : List ℕ) (p x : ℕ) → p ≤ lines_due (counts_in s) + 1 → is_undefined s p x ≡ false → Known s p (x / 2)
known s p x due e =
    by_cases (dec_lt x 2) (λ l. constant (omega arith)) λ l.
    let before = defined-before s p x e (omega arith) in
    line before.0 before.1
    (defining (counts_in s) before.0 (omega (arith, before.1)) (defines-some s before.0 (omega (arith, before.2))))
    (sym before.2)

module _ (s : List ℕ) (ok : WellDefined s) where
  -- what a line defines is above 0
  defined-some : {p : ℕ} → Defining (counts_in s) p → 1 ≤ defined_at s p
  unfolding defined_at malformed_at
  defined-some {p} d =
      let place = defining-due (counts_in s) d in
      let is = defining-defines (counts_in s) d in
      let literal = well-defined (counts_in s) (part_at (counts_in s) p) (numbers_on_line s p) (ok.well-formed p place.0 place.1) is in
      rw is (omega (arith, literal.0))

  -- and no other line defines it, so that the line is found by it
  defining-line : {p : ℕ} → Defining (counts_in s) p → defining_line s (defined_at s p) ≡ p
  unfolding defining_line
  defining-line {p} d =
      first-unique (first_where-is (λ q. eqb (defined_at s q) (defined_at s p)) (lines_due (counts_in s) + 1))
      (defined-first s (lines_due (counts_in s)) p (defined_at s p) ok.defined-once (defining-due (counts_in s) d).1 (defined-some d) refl)

  -- and has its wire
  pub wire-defined : (c : Netlist) {p : ℕ} → Defining (counts_in s) p → wire_of_variable s c (defined_at s p) ≡ wire_of (counts_in s) c p
  unfolding wire_of_variable
  wire-defined c {p} d =
      let some = ne_eqb (defined_at s p) 0 (λ e. let none : 1 ≤ 0 = rw e at (defined-some d) in omega arith) in
      rw (some, defining-line d)

  -- the codes of the text
  pub next_known : (l : ℕ) → l < (counts_in s).latches
      → Known s (lines_due (counts_in s) + 1) ((text_aig s).next l / 2)
  next_known l b =
      let p = text_latch_line (counts_in s) l in
      known s (lines_due (counts_in s) + 1) ((text_aig s).next l) (omega arith)
      (latch-defined s p (ok.none-undefined p (omega arith) (omega arith)) (part-latch (counts_in s) l b))

  pub output-known : (o : ℕ) → o < (counts_in s).outputs → Known s (lines_due (counts_in s) + 1) ((text_aig s).output o / 2)
  output-known o b =
      let p = text_output_line (counts_in s) o in
      known s (lines_due (counts_in s) + 1) ((text_aig s).output o) (omega arith)
      (output-defined s p (ok.none-undefined p (omega arith) (omega arith)) (part-output (counts_in s) o b))

  module _ (g : ℕ) (b : g < (counts_in s).gates) where
    operands : (is_undefined s (text_gate_line (counts_in s) g) (number_at s (text_gate_line (counts_in s) g) 1) ≡ false)
        × (is_undefined s (text_gate_line (counts_in s) g) (number_at s (text_gate_line (counts_in s) g) 2) ≡ false)
    operands =
        let p = text_gate_line (counts_in s) g in
        gate-defined s p (ok.none-undefined p (omega arith) (omega arith)) (part-gate (counts_in s) g)

    pub left-known : Known s (text_gate_line (counts_in s) g) (number_at s (text_gate_line (counts_in s) g) 1 / 2)
    left-known = known s (text_gate_line (counts_in s) g) (number_at s (text_gate_line (counts_in s) g) 1) (omega arith) operands.0

    pub right-known : Known s (text_gate_line (counts_in s) g) (number_at s (text_gate_line (counts_in s) g) 2 / 2)
    right-known = known s (text_gate_line (counts_in s) g) (number_at s (text_gate_line (counts_in s) g) 2) (omega arith) operands.1
