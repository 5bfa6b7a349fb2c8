-- What the two unpacked lists hold, with the record or beside a verdict (RULES W16, W17). Cited by the functions that store a line, `read_sheet` and
-- `read_input`, and sheet_steps/specs/Steps, which passes on what holds.
use Rattle.std.specs.Prelude.{ℕ, ◌≡◌, List, length, Ok, Err}
use Rattle.refusals.specs.Verdict.{Verdict}
use Rattle.model.specs.Netlist.{Netlist}
use Rattle.netlist.specs.NetOf.{net_of}
use Rattle.netlist.specs.declared.Netlist as R

-- a record's arrays and unpacked lists of full length
pub record FullLength (r : R.Netlist) (latches gates : List ℕ) : Type 0 where
  pub address-codes : length r.address ≡ 12
  pub data-codes : length r.write_data ≡ 32
  pub second-codes : length r.address2 ≡ 12
  pub latch-codes : length latches ≡ 1200
  pub gate-codes : length gates ≡ 1200

-- a record and lists of full length that stand for the netlist c
pub record Holds (r : R.Netlist) (latches gates : List ℕ) (c : Netlist) : Type 0 where
  pub full : FullLength r latches gates
  pub net-is : net_of r latches gates ≡ c

-- lists that were lent to be used up: nothing is said of what they hold
abbrev pub Scratch : List ℕ → List ℕ → Type 0
Scratch latches gates = Unit {0}

-- what the lists hold beside a verdict: with the record they stand for c; after a refusal they are scratch
abbrev pub ListsBeside : Verdict → R.Netlist → List ℕ → List ℕ → Netlist → Type 0
ListsBeside (Ok _) r latches gates c = Holds r latches gates c
ListsBeside (Err e) r latches gates c = Scratch latches gates
