-- How tables and lists are filled from lines that follow each other. Cited by the functions that do so, and by no public contract.
use Rattle.std.specs.Prelude.{ℕ, ◌+◌, ◌-◌, ◌^◌, ◌≤◌, ◌<◌, ◌≡◌, cond, ◌&&◌, List, ltb, leb, length, get_or}
use Rattle.model.specs.Network.{renamed}
use Rattle.netlist.specs.NetOf.{first_at, second_at}
use Rattle.netlist.specs.RecordOf.{up_to}
use Rattle.aiger_lines.specs.Parts.{numbers_on_line}
use Rattle.aiger_lines.specs.Steps.{Behind}
use Rattle.aiger_definitions.specs.Definitions.{number_at}
use Rattle.aiger_codes.specs.WireTable.{wire_found}

-- `count` lines behind the first `line`, of which the first begins at byte `at`; none has more than five numbers
pub record LinesAhead (s : List ℕ) (line at count : ℕ) : Type 0 where
  pub some-line : 1 ≤ line
  pub small : line + count < 2 ^ 40
  pub behind : Behind s line at
  pub few-numbers : (x : ℕ) → x < count → length (numbers_on_line s (line + x + 1)) ≤ 5

-- the first number of the line that stands x lines behind the first `line`
unfoldable pub firsts_behind : List ℕ → ℕ → ℕ → ℕ
firsts_behind s line x = number_at s (line + x + 1) 0

unfoldable pub entry_of : List ℕ → ℕ → ℕ
entry_of table w = get_or table w 0

-- `count` entries from `first` on are f's, the others as they were
unfoldable pub put_from : ℕ → ℕ → (ℕ → ℕ) → (ℕ → ℕ) → ℕ → ℕ
put_from first count f old w = cond (leb first w && ltb w (first + count)) (f (w - first)) (old w)

-- a table of so many entries that has f of each
pub record TableFilled (size : ℕ) (f : ℕ → ℕ) (table : List ℕ) : Type 0 where
  pub full : length table ≡ size
  pub has : (w : ℕ) → w < size → get_or table w 0 ≡ f w

-- number i of the line that stands x lines behind the first `line`, as a code by a table
unfoldable pub codes_behind : List ℕ → ℕ → List ℕ → ℕ → ℕ → ℕ
codes_behind s line table i x = renamed (wire_found table) (number_at s (line + x + 1) i)

-- an unpacked list that holds no codes yet
pub record NoCodes (list : List ℕ) : Type 0 where
  pub full : length list ≡ 1200
  pub none : (x : ℕ) → get_or list x 0 ≡ 0

-- an unpacked list whose first `count` records are f and g, and the others 0
pub record ListFilled (count : ℕ) (f g : ℕ → ℕ) (list : List ℕ) : Type 0 where
  pub full : length list ≡ 1200
  pub firsts : (x : ℕ) → first_at list x ≡ up_to count f x
  pub seconds : (x : ℕ) → second_at list x ≡ up_to count g x
