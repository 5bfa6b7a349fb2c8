-- The limits, by name (RULES W7 to W10, S1, S13 and T1). Cited by every test that holds a number to its limit.
use Rattle.std.specs.Prelude.{ℕ, ◌+◌, ◌*◌}

-- RULES W7: "each from 0 to 600"; RULES W9: "V is at most 600"
abbrev pub most_wires : ℕ
most_wires = 600

-- RULES W8: "m is from 1 to 12, the data width n from 1 to 32"
abbrev pub most_address_bits : ℕ
most_address_bits = 12

abbrev pub most_data_bits : ℕ
most_data_bits = 32

-- RULES W10: "from 0 to 255"
abbrev pub most_depth : ℕ
most_depth = 255

-- RULES S13: "627 at most"; L, A and the read bits are counted in V
abbrev pub most_lines : ℕ
most_lines = most_wires + 2 * most_address_bits + 3

-- RULES S1: "lines of 32 bytes"
abbrev pub line_bytes : ℕ
line_bytes = 32

-- RULES T1: "more than 20,064 bytes" are ragged
abbrev pub most_bytes : ℕ
most_bytes = line_bytes * most_lines
