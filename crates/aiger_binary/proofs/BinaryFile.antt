-- What a binary AIGER file (specs/BinaryText.antt) is read as: a header, a line with the next code of each latch, a line with each output, and behind
-- them each gate as two differences. Variables are numbered in order: inputs, latches, gates. No contract cites this file.
use Prim.Native.Nat.{ℕ, zero, suc, ◌+◌, ◌-◌, ◌*◌}
use mathlib.Core.Bool.{cond}
use mathlib.Core.List.{List, [], ◌∷◌}
use lib.Dec.{eqb}
use lib.ListN.{get_or}
use Rattle.decimal.specs.Digits.{line_feed}
use Rattle.aiger_lines.specs.Numbers.{words_at}
use Rattle.aiger_lines.specs.Parts.{numbers_behind, numbers_on_line, counts_of}
use Rattle.aiger_lines.specs.declared.Counts.{Counts}
use Rattle.aiger_graph.specs.Aig.{Aig}
use Rattle.aiger_difference.proofs.Decoding.{difference_at}
use Rattle.aiger_binary.specs.BinaryText.{aig}

-- the numbers of line 1 behind `aig`: the header's counts, M I L O A
abbrev pub binary_header : List ℕ → List ℕ
binary_header s = numbers_behind aig (words_at s 1)

unfoldable pub binary_counts : List ℕ → Counts
binary_counts s = counts_of (binary_header s)

-- the lines of next codes and of outputs
abbrev pub next_line : Counts → ℕ → ℕ
next_line h l = 2 + l

abbrev pub output_line : Counts → ℕ → ℕ
output_line h o = 2 + h.latches + o

-- what stands behind the first line; and behind the first p
unfoldable pub behind_line : List ℕ → List ℕ
behind_line [] = []
behind_line (x ∷ s) = cond (eqb x line_feed) s (behind_line s)

unfoldable pub behind_lines : ℕ → List ℕ → List ℕ
behind_lines zero s = s
behind_lines (suc p) s = behind_line (behind_lines p s)

-- the bytes of the gates
abbrev pub gate_bytes : Counts → List ℕ → List ℕ
gate_bytes h s = behind_lines (1 + h.latches + h.outputs) s

-- the variable of gate g; its larger code, and the other, from the differences
abbrev pub gate_variable : Counts → ℕ → ℕ
gate_variable h g = 1 + h.inputs + h.latches + g

abbrev pub larger_in : Counts → List ℕ → ℕ → ℕ
larger_in h s g = 2 * gate_variable h g - difference_at (gate_bytes h s) (2 * g)

abbrev pub smaller_in : Counts → List ℕ → ℕ → ℕ
smaller_in h s g = larger_in h s g - difference_at (gate_bytes h s) (2 * g + 1)

-- the graph that a file with these counts says, and that a file says
unfoldable pub aig_with : Counts → List ℕ → Aig
aig_with h s =
    record {
      inputs = h.inputs;
      latches = h.latches;
      outputs = h.outputs;
      input_variable = λ x. 1 + x;
      latch_variable = λ l. 1 + h.inputs + l;
      next = λ l. get_or (numbers_on_line s (next_line h l)) 0 0;
      output = λ o. get_or (numbers_on_line s (output_line h o)) 0 0;
      network = record { gates = h.gates; own = gate_variable h; left = larger_in h s; right = smaller_in h s };
    }

abbrev pub aig_in : List ℕ → Aig
aig_in s = aig_with (binary_counts s) s
