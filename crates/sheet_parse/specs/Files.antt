-- The netlist that the lines of a file give (RULES S5, S7, S13 and S14). The sizes stand in lines 1 and 2, and they alone say where
-- everything else stands. Cited by the functions that read a file, by the other specs here and those of sheet_tests, sheet_reader and
-- program_input, and by calls/specs/Starred.
use Rattle.std.specs.Prelude.{ℕ, ◌-◌, ◌*◌, ◌/◌, cond, List, [], ◌∷◌, ltb, length, get_or, take, drop}
use Rattle.model.specs.Limits.{line_bytes}
use Rattle.model.specs.Netlist.{Netlist}
use Rattle.netlist.specs.Places.{sizes_line, memory_line, latch_line, gate_line, address_line, data_line, second_address_line, second_enable_line, control_line}
use Rattle.netlist.specs.RecordOf.{no_netlist, up_to}
use Rattle.sheet_lines.specs.Letters.{second_port_of}
use Rattle.sheet_lines.specs.Lines.{line_of}
use Rattle.sheet_lines.specs.declared.ParsedLine.{ParsedLine}
use Rattle.sheet_lines.specs.declared.ParsedLine.TheVariants.{Misprint, Read}

-- RULES S1: "lines of 32 bytes"; the line at a place, the first being 1
abbrev pub line_count : List ℕ → ℕ
line_count file = length file / line_bytes

unfoldable pub line_in : List ℕ → ℕ → ParsedLine
line_in file p = line_of (take line_bytes (drop (line_bytes * (p - 1)) file))

-- the number in a column of a line, 0 to 2
abbrev pub column_of : ℕ → ParsedLine → ℕ
column_of column Misprint = 0
column_of column (Read k x y z e) = get_or (x ∷ y ∷ z ∷ []) column 0

-- 1 where its third field may be filled and is empty
abbrev pub empty_third : ParsedLine → ℕ
empty_third Misprint = 0
empty_third (Read k x y z e) = e

-- 1 where its letter says that there is a second port
abbrev pub second_port_in : ParsedLine → ℕ
second_port_in Misprint = 0
second_port_in (Read k x y z e) = second_port_of k

-- the netlist whose numbers stand in the given lines, at the places that the sizes s have
unfoldable pub net_of_lines : Netlist → (ℕ → ParsedLine) → Netlist
net_of_lines s line =
    record {
      inputs = column_of 0 (line sizes_line);
      latches = column_of 1 (line sizes_line);
      gates = column_of 2 (line sizes_line);
      m = column_of 0 (line memory_line);
      n = column_of 1 (line memory_line);
      initial_word = column_of 2 (line memory_line);
      unknown_start = empty_third (line memory_line);
      second_port = second_port_in (line memory_line);
      next = up_to s.latches (λ l. column_of 0 (line (latch_line s l)));
      reset = up_to s.latches (λ l. column_of 1 (line (latch_line s l)));
      left = up_to s.gates (λ g. column_of 0 (line (gate_line s g)));
      right = up_to s.gates (λ g. column_of 1 (line (gate_line s g)));
      address = up_to s.m (λ t. column_of 0 (line (address_line s t)));
      write_data = up_to s.n (λ t. column_of 0 (line (data_line s t)));
      WE = column_of 0 (line (control_line s));
      RE = column_of 1 (line (control_line s));
      P = column_of 2 (line (control_line s));
      address2 = up_to (s.second_port * s.m) (λ t. column_of 0 (line (second_address_line s t)));
      RE2 = cond (ltb 0 s.second_port) (column_of 0 (line (second_enable_line s))) 0;
    }

-- by the lines of a file, at first for the sizes alone: they stand in lines 1 and 2, whatever else there is
unfoldable pub sizes_in : List ℕ → Netlist
sizes_in file = net_of_lines no_netlist (line_in file)

unfoldable pub net_in : List ℕ → Netlist
net_in file = net_of_lines (sizes_in file) (line_in file)
