-- Netlists that agree below their sizes: entries past the sizes are ignored (RULES T39). Such netlists are accepted alike and have the
-- same numbers and the same runs (proofs/Agree.antt, SameNumbers, SameRuns). Cited where a netlist stands in lists that have something
-- past the sizes.
use Rattle.std.specs.Prelude.{ℕ, ◌<◌, ◌≡◌, List, [], ◌∷◌}
use Rattle.model.specs.Netlist.{Netlist, Start, given, unknown, start, IsPort, port}

-- the word that is given at the start; one beside an unknown start is ignored
unfoldable pub given_word : Start → ℕ
given_word (given word) = word
given_word unknown = 0

-- two netlists with the same sizes
abbrev pub sizes_of : Netlist → List ℕ
sizes_of c = c.inputs ∷ c.latches ∷ c.gates ∷ c.m ∷ c.n ∷ given_word (start c) ∷ c.unknown_start ∷ c.second_port ∷ []

abbrev pub SameSizes : Netlist → Netlist → Type 0
SameSizes c d = sizes_of c ≡ sizes_of d

-- the same sizes, and the same entries below them
pub record Agree (c d : Netlist) : Type 0 where
  pub sizes-same : SameSizes c d
  pub next-same : (l : ℕ) → l < c.latches → c.next l ≡ d.next l
  pub reset-same : (l : ℕ) → l < c.latches → c.reset l ≡ d.reset l
  pub left-same : (g : ℕ) → g < c.gates → c.left g ≡ d.left g
  pub right-same : (g : ℕ) → g < c.gates → c.right g ≡ d.right g
  pub address_same : (p : ℕ) → IsPort c p → (t : ℕ) → t < c.m → (port c p).address t ≡ (port d p).address t
  pub data-same : (t : ℕ) → t < c.n → c.write_data t ≡ d.write_data t
  pub WE-same : c.WE ≡ d.WE
  pub RE-same : (p : ℕ) → IsPort c p → (port c p).RE ≡ (port d p).RE
  pub P-same : c.P ≡ d.P
