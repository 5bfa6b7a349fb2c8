-- The netlist that an ASCII AIGER text describes (RULES I6 to I8 and I12). The caller gives m, n, the start word, whether it is unknown, and how many
-- ports there are beside the first; the text's last inputs are the read bits of all ports, its outputs the codes behind the gates in the order of the
-- sheet: address, write data, of a second port address and RE, then WE, RE and P; each latch starts at 0. Variables become wires in the order
-- of their lines. Cited by `import_text`, aiger_import/specs/ImportCall, specs/ImportVerdict and specs/Imported.
use Rattle.std.specs.Prelude.{ℕ, suc, ◌+◌, ◌-◌, ◌*◌, cond, List, eqb, ltb}
use Rattle.model.specs.Search.{first_where}
use Rattle.model.specs.Netlist.{Netlist, input_wire, latch_wire, read_wire, gate_wire}
use Rattle.model.specs.Network.{renamed}
use Rattle.netlist.specs.RecordOf.{without_codes, up_to}
use Rattle.aiger_graph.specs.RecordAig.{control_output}
use Rattle.aiger_lines.specs.Parts.{counts_in, lines_due, text_input_line, text_latch_line, text_output_line, text_gate_line}
use Rattle.aiger_lines.specs.declared.Counts.{Counts}
use Rattle.aiger_definitions.specs.Definitions.{number_at, defined_at}

-- the sizes: the inputs that are not read bits, the latches and the gates of the header; with no codes
abbrev pub text_sizes : Counts → ℕ → ℕ → ℕ → ℕ → ℕ → Netlist
text_sizes h m n word unknown second = without_codes (h.inputs - suc second * n) h.latches h.gates m n word unknown second

-- the wire of what line p defines, in a netlist of the sizes c: an input, a read bit, a latch or a gate
unfoldable pub wire_of : Counts → Netlist → ℕ → ℕ
wire_of h c p =
    cond (ltb p (text_input_line h c.inputs)) (input_wire c (p - text_input_line h 0))
    (cond (ltb p (text_latch_line h 0)) (read_wire c (p - text_input_line h c.inputs))
    (cond (ltb p (text_output_line h 0)) (latch_wire c (p - text_latch_line h 0)) (gate_wire c (p - text_gate_line h 0))))

-- the line, of those due, that defines the variable v
unfoldable pub defining_line : List ℕ → ℕ → ℕ
defining_line s v = first_where (λ p. eqb (defined_at s p) v) (lines_due (counts_in s) + 1)

-- the wire of the variable v; the constant stays 0
unfoldable pub wire_of_variable : List ℕ → Netlist → ℕ → ℕ
wire_of_variable s c v = cond (eqb v 0) 0 (wire_of (counts_in s) c (defining_line s v))

-- the netlist of the sizes c, where `code p i` is the code for number i of line p. Outputs: m address codes, n write-data codes, of a second port m
-- address codes and RE, then WE, RE, P
unfoldable pub net_of_codes : Counts → Netlist → (ℕ → ℕ → ℕ) → Netlist
net_of_codes h c code =
    let control = control_output c.m c.n c.second_port in
    record {
      inputs = c.inputs;
      latches = c.latches;
      gates = c.gates;
      m = c.m;
      n = c.n;
      initial_word = c.initial_word;
      unknown_start = c.unknown_start;
      second_port = c.second_port;
      next = up_to c.latches (λ l. code (text_latch_line h l) 1);
      reset = λ l. 0;
      left = up_to c.gates (λ g. code (text_gate_line h g) 1);
      right = up_to c.gates (λ g. code (text_gate_line h g) 2);
      address = up_to c.m (λ t. code (text_output_line h t) 0);
      write_data = up_to c.n (λ t. code (text_output_line h (c.m + t)) 0);
      WE = code (text_output_line h control) 0;
      RE = code (text_output_line h (control + 1)) 0;
      P = code (text_output_line h (control + 2)) 0;
      address2 = up_to (c.second_port * c.m) (λ t. code (text_output_line h (c.m + c.n + t)) 0);
      RE2 = cond (ltb 0 c.second_port) (code (text_output_line h (c.m + c.n + c.m)) 0) 0;
    }

abbrev pub aag_net : List ℕ → ℕ → ℕ → ℕ → ℕ → ℕ → Netlist
aag_net s m n word unknown second =
    let c = text_sizes (counts_in s) m n word unknown second in
    net_of_codes (counts_in s) c (λ p i. renamed (wire_of_variable s c) (number_at s p i))
