-- Tables of the first numbers of a text's lines: 0, then by wire the literal that its line defines, and behind the last wire that there
-- may be the outputs. By them codes are renumbered. Cited by the functions that make such a table and look a variable up in it.
use Rattle.std.specs.Prelude.{ℕ, ◌+◌, ◌-◌, ◌/◌, ◌≤◌, ◌≡◌, cond, List, eqb, ltb, get_or}
use Rattle.model.specs.Limits.{most_wires}
use Rattle.model.specs.Search.{first_where}
use Rattle.model.specs.Netlist.{Netlist, input_wire, latch_wire, read_wire, gate_wire, last_wire}
use Rattle.aiger_lines.specs.Parts.{counts_in, text_input_line, text_latch_line, text_gate_line}
use Rattle.aiger_lines.specs.declared.Counts.{Counts}
use Rattle.aiger_definitions.specs.Definitions.{defined_at}

-- the line that defines wire w: the inverse of `wire_of`
unfoldable pub line_of_wire : Counts → Netlist → ℕ → ℕ
line_of_wire h c w =
    cond (ltb w (latch_wire c 0)) (text_input_line h (w - input_wire c 0))
    (cond (ltb w (read_wire c 0)) (text_latch_line h (w - latch_wire c 0))
    (cond (ltb w (gate_wire c 0)) (text_input_line h (c.inputs + (w - read_wire c 0))) (text_gate_line h (w - gate_wire c 0))))

-- the variable at a wire
abbrev pub variable_at : List ℕ → ℕ → ℕ
variable_at table w = get_or table w 0 / 2

pub record WireTable (s : List ℕ) (c : Netlist) (table : List ℕ) : Type 0 where
  pub at_zero : variable_at table 0 ≡ 0
  pub at-wire : (w : ℕ) → 1 ≤ w → w ≤ last_wire c → variable_at table w ≡ defined_at s (line_of_wire (counts_in s) c w)

-- the first wire at which a table has the variable v
unfoldable pub wire_found : List ℕ → ℕ → ℕ
wire_found table v = first_where (λ w. eqb (variable_at table w) v) (most_wires + 1)
