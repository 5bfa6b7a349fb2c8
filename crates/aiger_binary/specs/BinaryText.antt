-- How a graph is written as a binary AIGER file (RULES X3, X4 and X6): without symbols or comment, each difference in as few bytes as there are. That the file says
-- the graph is the law `read_as` in proofs/ReadBack.antt. Cited by the functions that write a part of a file, and by what is said of
-- a file that is exported.
use Rattle.std.specs.Prelude.{ℕ, ◌+◌, ◌-◌, ◌*◌, ◌^◌, ◌≤◌, ◌<◌, ◌≡◌, List, [], ◌∷◌, ◌++◌}
use Rattle.model.specs.Gather.{gather}
use Rattle.decimal.specs.Digits.{digits, space, line_feed}
use Rattle.aiger_lines.specs.Written.{numbers_text}
use Rattle.aiger_graph.specs.Aig.{Aig}
use Rattle.aiger_difference.specs.Difference.{difference_bytes}

-- the bytes of `aig`
abbrev pub aig : List ℕ
aig = 97 ∷ 105 ∷ 103 ∷ []

-- the header: `aig M I L O A`
abbrev pub header_counts : Aig → List ℕ
header_counts a = (a.inputs + a.latches + a.network.gates) ∷ a.inputs ∷ a.latches ∷ a.outputs ∷ a.network.gates ∷ []

unfoldable pub header_line : List ℕ → List ℕ
header_line counts = aig ++ space ∷ numbers_text counts ++ line_feed ∷ []

-- a line of one code
unfoldable pub code_line : ℕ → List ℕ
code_line x = digits x ++ line_feed ∷ []

-- a gate, of its own variable and its two codes, the larger first
unfoldable pub gate_text : ℕ → ℕ → ℕ → List ℕ
gate_text own larger smaller = difference_bytes (2 * own - larger) ++ difference_bytes (larger - smaller)

unfoldable pub aig_text : Aig → List ℕ
aig_text a =
    header_line (header_counts a)
    ++ gather a.latches (λ l. code_line (a.next l))
    ++ gather a.outputs (λ o. code_line (a.output o))
    ++ gather a.network.gates (λ g. gate_text (a.network.own g) (a.network.left g) (a.network.right g))

-- a graph that such a file has room for: variables in order, gates' codes too, and all numbers of 32 bits
pub record Writable (a : Aig) : Type 0 where
  pub input-in-order : (x : ℕ) → x < a.inputs → a.input_variable x ≡ 1 + x
  pub latch-in-order : (l : ℕ) → l < a.latches → a.latch_variable l ≡ 1 + a.inputs + l
  pub gate-in-order : (g : ℕ) → g < a.network.gates → a.network.own g ≡ 1 + a.inputs + a.latches + g
  pub left_below : (g : ℕ) → g < a.network.gates → a.network.left g < 2 * a.network.own g
  pub right-below : (g : ℕ) → g < a.network.gates → a.network.right g ≤ a.network.left g
  pub next-below : (l : ℕ) → l < a.latches → a.next l ≤ 2 * (a.inputs + a.latches + a.network.gates) + 1
  pub output-below : (o : ℕ) → o < a.outputs → a.output o ≤ 2 * (a.inputs + a.latches + a.network.gates) + 1
  pub codes-fit : 2 * (a.inputs + a.latches + a.network.gates) + 1 < 2 ^ 32
  pub outputs-fit : a.outputs < 2 ^ 32
