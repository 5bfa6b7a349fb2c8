-- The and-inverter graph that an ASCII AIGER text says (the AIGER report of 2007; RULES I3), by its own variables. Cited by specs/Imported, and by what
-- is said of a file that is exported.
use Rattle.std.specs.Prelude.{ℕ, List}
use Rattle.aiger_graph.specs.Aig.{Aig}
use Rattle.aiger_lines.specs.Parts.{counts_in, text_input_line, text_latch_line, text_output_line, text_gate_line}
use Rattle.aiger_definitions.specs.Definitions.{number_at, defined_at}

abbrev pub text_aig : List ℕ → Aig
text_aig s =
    record {
      inputs = (counts_in s).inputs;
      latches = (counts_in s).latches;
      outputs = (counts_in s).outputs;
      input_variable = λ x. defined_at s (text_input_line (counts_in s) x);
      latch_variable = λ l. defined_at s (text_latch_line (counts_in s) l);
      next = λ l. number_at s (text_latch_line (counts_in s) l) 1;
      output = λ o. number_at s (text_output_line (counts_in s) o) 0;
      network =
          record {
            gates = (counts_in s).gates;
            own = λ g. defined_at s (text_gate_line (counts_in s) g);
            left = λ g. number_at s (text_gate_line (counts_in s) g) 1;
            right = λ g. number_at s (text_gate_line (counts_in s) g) 2;
          };
    }
