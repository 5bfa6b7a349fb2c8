-- Tables of the wires: an entry for each, and for wire 0, the constants'. Cited by the functions that fill and read them: of what depends on a
-- read bit in `netlist_tests`, of a frame's values in `circuit_values` and the crates above it.
use Rattle.std.specs.Prelude.{ℕ, ◌+◌, ◌<◌, ◌≡◌, Bool, false, List, length, get_or}
use Rattle.model.specs.Limits.{most_wires}

-- what a table has of a wire, or of an input or a latch
abbrev pub entry : List Bool → ℕ → Bool
entry table w = get_or table w false

-- a table that has f of each wire before b
pub record HasBelow (b : ℕ) (f : ℕ → Bool) (table : List Bool) : Type 0 where
  pub size : length table ≡ most_wires + 1
  pub has : (w : ℕ) → w < b → entry table w ≡ f w

-- of every wire: none is past the table where sizes and codes are within their limits
abbrev pub HasAll : (ℕ → Bool) → List Bool → Type 0
HasAll = HasBelow (most_wires + 1)
