-- A law of records of full length (specs/Lists.antt). Cited by the functions that store a line.
use Prim.Native.Nat.{ℕ}
use mathlib.Core.Path.{◌≡◌, ◌∙◌}
use mathlib.Core.List.{List}
use lib.ListN.{length}
use Rattle.netlist.specs.declared.Netlist.{Netlist}
use Rattle.sheet_steps.specs.Lists.{FullLength}

-- a record whose arrays are as long as those of one of full length
pub full-kept : {r s : Netlist} {latches gates : List ℕ} → FullLength r latches gates → length s.address ≡ length r.address
    → length s.write_data ≡ length r.write_data → length s.address2 ≡ length r.address2 → FullLength s latches gates
full-kept full address words second =
    record {
      address-codes = address ∙ full.address-codes;
      data-codes = words ∙ full.data-codes;
      second-codes = second ∙ full.second-codes;
      latch-codes = full.latch-codes;
      gate-codes = full.gate-codes;
    }
