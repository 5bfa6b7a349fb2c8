-- A record and lists renumbered in place. Cited by `renumber`, `one_record` and `read_one_port`, and by no public contract.
use Rattle.std.specs.Prelude.{ℕ, ◌<◌, ◌≡◌, List, get_or}
use Rattle.refusals.specs.Verdict.{Passed}
use Rattle.model.specs.Agree.{Agree}
use Rattle.model.specs.OnePort.{one_code, one_port}
use Rattle.netlist.specs.NetOf.{net_of, alone}
use Rattle.netlist.specs.declared.Netlist.{Netlist}
use Rattle.sheet_steps.specs.declared.SheetAnswer.{SheetAnswer}
use Rattle.sheet_parse.specs.Files.{net_in}
use Rattle.sheet_one_port.specs.OnePortCall.{one_port_tests}

-- each entry of an unpacked list, by the sizes of a record
pub record RenumberedList (net : Netlist) (old new : List ℕ) : Type 0 where
  pub each : (x : ℕ) → x < 1200 → get_or new x 0 ≡ one_code (alone net) (get_or old x 0)

-- all that a record itself holds
abbrev pub RenumberedRecord : Netlist → Netlist → Type 0
RenumberedRecord old new = Agree (one_port (alone old)) (alone new)

-- a sheet's verdict, and its netlist with one port in the record and the lists
pub record ReadAsOne (file : List ℕ) (sheet : SheetAnswer) (latches gates : List ℕ) : Type 0 where
  pub verdict-is : sheet.verdict ≡ one_port_tests file
  pub agrees : one_port_tests file ≡ Passed → Agree (one_port (net_in file)) (net_of sheet.net latches gates)
