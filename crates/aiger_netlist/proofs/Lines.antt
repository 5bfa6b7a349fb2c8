-- Which line has which part, which lines define a variable, and the wires of what they define (specs/TextNetlist.antt, and Parts in
-- aiger_lines). No contract cites this file.
use Prim.Native.Nat.{ℕ, ◌-◌, ◌≤◌, ◌<◌}
use mathlib.Core.Path.{◌≡◌}
use mathlib.Core.Bool.{true, false≢true}
use mathlib.Core.Logic.{by_cases}
use native.Mathlib.Decide.{dec_lt}
use native.Mathlib.Omega.{arith}
use borrow.Author.Tests.{lt-ltb, le-ltb}
use Rattle.model.specs.Netlist.{Netlist, input_wire, latch_wire, read_wire, gate_wire}
use Rattle.aiger_lines.specs.Parts.{text_input_line, text_latch_line, text_output_line, text_gate_line, lines_due, part_at, defines}
use Rattle.aiger_lines.specs.declared.Counts.{Counts}
use Rattle.aiger_lines.specs.declared.Part.TheVariants.{Input, Latch, Output, Gate}
use Rattle.aiger_netlist.specs.TextNetlist.{wire_of}

-- the lines due that define a variable
pub data Defining (h : Counts) (p : ℕ) : Type 0 where
  by-input : (x : ℕ) → x < h.inputs → p ≡ text_input_line h x → Defining h p
  by-latch : (l : ℕ) → l < h.latches → p ≡ text_latch_line h l → Defining h p
  by-gate : (g : ℕ) → g < h.gates → p ≡ text_gate_line h g → Defining h p

module _ (h : Counts) where
  pub part-input : (x : ℕ) → x < h.inputs → part_at h (text_input_line h x) ≡ Input
  unfolding part_at
  part-input x b =
      rw (le-ltb (text_input_line h x) (text_input_line h 0) (omega arith), lt-ltb (text_input_line h x) (text_latch_line h 0) (omega arith))

  pub part-latch : (l : ℕ) → l < h.latches → part_at h (text_latch_line h l) ≡ Latch
  unfolding part_at
  part-latch l b =
      rw (
        le-ltb (text_latch_line h l) (text_input_line h 0) (omega arith),
        le-ltb (text_latch_line h l) (text_latch_line h 0) (omega arith),
        lt-ltb (text_latch_line h l) (text_output_line h 0) (omega arith),
      )

  pub part-output : (o : ℕ) → o < h.outputs → part_at h (text_output_line h o) ≡ Output
  unfolding part_at
  part-output o b =
      rw (
        le-ltb (text_output_line h o) (text_input_line h 0) (omega arith),
        le-ltb (text_output_line h o) (text_latch_line h 0) (omega arith),
        le-ltb (text_output_line h o) (text_output_line h 0) (omega arith),
        lt-ltb (text_output_line h o) (text_gate_line h 0) (omega arith),
      )

  pub part-gate : (g : ℕ) → part_at h (text_gate_line h g) ≡ Gate
  unfolding part_at
  part-gate g =
      rw (
        le-ltb (text_gate_line h g) (text_input_line h 0) (omega arith),
        le-ltb (text_gate_line h g) (text_latch_line h 0) (omega arith),
        le-ltb (text_gate_line h g) (text_output_line h 0) (omega arith),
        le-ltb (text_gate_line h g) (text_gate_line h 0) (omega arith),
      )

  -- these are all of them
  pub defining : (p : ℕ) → p ≤ lines_due h → defines (part_at h p) ≡ true → Defining h p
  unfolding part_at
  defining p due e =
      by_cases (dec_lt p (text_input_line h 0)) (λ l. absurd (false≢true (rw (lt-ltb p (text_input_line h 0) l) at e))) λ a.
      by_cases (dec_lt p (text_latch_line h 0)) (λ l. by-input (p - text_input_line h 0) (omega arith) (omega arith)) λ b.
      by_cases (dec_lt p (text_output_line h 0)) (λ l. by-latch (p - text_latch_line h 0) (omega arith) (omega arith)) λ c.
      by_cases (dec_lt p (text_gate_line h 0))
      (λ l. absurd (false≢true
      (rw (
        le-ltb p (text_input_line h 0) (omega arith),
        le-ltb p (text_latch_line h 0) (omega arith),
        le-ltb p (text_output_line h 0) (omega arith),
        lt-ltb p (text_gate_line h 0) l,
      ) at e)))
      (λ d. by-gate (p - text_gate_line h 0) (omega arith) (omega arith))

  -- and they are due, behind the header
  pub defining-due : {p : ℕ} → Defining h p → (1 ≤ p) × (p ≤ lines_due h)
  defining-due (by-input x b e) = (omega arith, omega arith)
  defining-due (by-latch l b e) = (omega arith, omega arith)
  defining-due (by-gate g b e) = (omega arith, omega arith)

  pub defining-defines : {p : ℕ} → Defining h p → defines (part_at h p) ≡ true
  defining-defines (by-input x b e) = rw (e, part-input x b)
  defining-defines (by-latch l b e) = rw (e, part-latch l b)
  defining-defines (by-gate g b e) = rw (e, part-gate g)

  -- the wires of what they define, where the netlist's inputs are the first of the text's
  module _ (c : Netlist) (within : c.inputs ≤ h.inputs) where
    pub wire-input : (x : ℕ) → x < c.inputs → wire_of h c (text_input_line h x) ≡ input_wire c x
    unfolding wire_of
    wire-input x b =
        let e : text_input_line h x - text_input_line h 0 ≡ x = omega arith in
        rw (lt-ltb (text_input_line h x) (text_input_line h c.inputs) (omega arith), e)

    pub wire-read : (x : ℕ) → c.inputs ≤ x → x < h.inputs → wire_of h c (text_input_line h x) ≡ read_wire c (x - c.inputs)
    unfolding wire_of
    wire-read x a b =
        let e : text_input_line h x - text_input_line h c.inputs ≡ x - c.inputs = omega arith in
        rw (
          le-ltb (text_input_line h x) (text_input_line h c.inputs) (omega arith),
          lt-ltb (text_input_line h x) (text_latch_line h 0) (omega arith),
          e,
        )

    pub wire-latch : (l : ℕ) → l < h.latches → wire_of h c (text_latch_line h l) ≡ latch_wire c l
    unfolding wire_of
    wire-latch l b =
        let e : text_latch_line h l - text_latch_line h 0 ≡ l = omega arith in
        rw (
          le-ltb (text_latch_line h l) (text_input_line h c.inputs) (omega arith),
          le-ltb (text_latch_line h l) (text_latch_line h 0) (omega arith),
          lt-ltb (text_latch_line h l) (text_output_line h 0) (omega arith),
          e,
        )

    pub wire-gate : (g : ℕ) → wire_of h c (text_gate_line h g) ≡ gate_wire c g
    unfolding wire_of
    wire-gate g =
        let e : text_gate_line h g - text_gate_line h 0 ≡ g = omega arith in
        rw (
          le-ltb (text_gate_line h g) (text_input_line h c.inputs) (omega arith),
          le-ltb (text_gate_line h g) (text_latch_line h 0) (omega arith),
          le-ltb (text_gate_line h g) (text_output_line h 0) (omega arith),
          e,
        )
