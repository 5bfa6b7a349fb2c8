-- The record of a netlist, whose lists stand beside it (`net_of` goes the other way), and the record that is all zeros (RULES T43,
-- "a record that is returned beside them is all zeros"). Cited by `empty_net`, sheet_steps/specs/Records,
-- sheet_parse/specs/Files and aiger_netlist/specs/TextNetlist.
use Rattle.std.specs.Prelude.{ℕ, cond, List, [], ◌∷◌, ltb}
use Rattle.model.specs.Limits.{most_address_bits, most_data_bits}
use Rattle.model.specs.Netlist as M
use Rattle.model.specs.Gather.{gather}
use Rattle.literals.specs.declared.Code.{Code}
use Rattle.netlist.specs.declared.Netlist.{Netlist}

-- the record of a netlist: arrays of as many codes as there may be
abbrev pub code_entry : (ℕ → ℕ) → ℕ → List Code
code_entry f t = record { 0 = f t } ∷ []

unfoldable pub record_of : M.Netlist → Netlist
record_of c =
    record {
      inputs = c.inputs;
      latches = c.latches;
      gates = c.gates;
      m = c.m;
      n = c.n;
      initial_word = c.initial_word;
      unknown_start = c.unknown_start;
      second_port = c.second_port;
      address = gather most_address_bits (code_entry c.address);
      write_data = gather most_data_bits (code_entry c.write_data);
      we = record { 0 = c.WE };
      re = record { 0 = c.RE };
      p = record { 0 = c.P };
      address2 = gather most_address_bits (code_entry c.address2);
      re2 = record { 0 = c.RE2 };
    }

-- below a size what f says, and 0 past it. RULES T45: "the entries of the returned record past its sizes are 0"
abbrev pub up_to : ℕ → (ℕ → ℕ) → ℕ → ℕ
up_to size f x = cond (ltb x size) (f x) 0

-- a netlist of these sizes, with its start and its kind, and with no codes
abbrev pub without_codes : ℕ → ℕ → ℕ → ℕ → ℕ → ℕ → ℕ → ℕ → M.Netlist
without_codes inputs latches gates m n initial_word unknown_start second_port =
    record {
      inputs = inputs;
      latches = latches;
      gates = gates;
      m = m;
      n = n;
      initial_word = initial_word;
      unknown_start = unknown_start;
      second_port = second_port;
      next = λ l. 0;
      reset = λ l. 0;
      left = λ g. 0;
      right = λ g. 0;
      address = λ t. 0;
      write_data = λ t. 0;
      WE = 0;
      RE = 0;
      P = 0;
      address2 = λ t. 0;
      RE2 = 0;
    }

-- the record that is all zeros
abbrev pub no_netlist : M.Netlist
no_netlist = without_codes 0 0 0 0 0 0 0 0
