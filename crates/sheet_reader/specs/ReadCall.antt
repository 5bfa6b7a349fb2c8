-- What `read` returns and leaves in the lists that it is lent (RULES T45, "only the first L and the first A records of the lent
-- lists change", and T43, "a record that is returned beside them is all zeros"). Cited by `read` and `marrubigai_read`.
use Rattle.std.specs.Prelude.{ℕ, ◌≤◌, ◌≡◌, List, length}
use Rattle.refusals.specs.Verdict.{Verdict, Passed}
use Rattle.model.specs.Limits.{most_depth}
use Rattle.netlist.specs.declared.Netlist.{Netlist}
use Rattle.netlist_tests.specs.Record.{record_verdict}
use Rattle.sheet_parse.specs.Files.{net_in}
use Rattle.sheet_tests.specs.Sheet.{sheet_verdict}
use Rattle.sheet_text.specs.SheetText.{sheet_text}
use Rattle.sheet_steps.specs.Records.{record_beside}
use Rattle.call_lists.specs.declared.LatchEntry.{LatchEntry}
use Rattle.call_lists.specs.declared.GateEntry.{GateEntry}
use Rattle.call_lists.specs.Lent.{net_lent}
use Rattle.call_lists.specs.ListsBeside.{latches_beside, gates_beside}
use Rattle.call_unpacked.specs.Calls.{CallsEncode}

-- the verdict, the record and both lists, for lent lists `latches` and `gates`
unfoldable pub read_verdict : List ℕ → List LatchEntry → List GateEntry → Verdict
read_verdict file latches gates = sheet_verdict file (length latches) (length gates)

unfoldable pub read_record : List ℕ → List LatchEntry → List GateEntry → Netlist
read_record file latches gates = record_beside (read_verdict file latches gates) (net_in file)

unfoldable pub latches_after : List ℕ → List LatchEntry → List GateEntry → List LatchEntry
latches_after file latches gates = latches_beside (read_verdict file latches gates) (net_in file) latches

unfoldable pub gates_after : List ℕ → List LatchEntry → List GateEntry → List GateEntry
gates_after file latches gates = gates_beside (read_verdict file latches gates) (net_in file) gates

-- What holds of the record and the lists that `read` leaves where it refuses nothing: the file is their sheet, byte for byte. RULES A1: "A sheet is
-- accepted if it passes every test of sheets, and a record with its lists if it passes every test of records"; here both pass, and so demand 3 holds of
-- the numbers that the group calls over record and lists leave.
pub record SheetDelivered (file : List ℕ) (r : Netlist) (latches : List LatchEntry) (gates : List GateEntry) : Type 0 where
  pub is-sheet : file ≡ sheet_text (net_lent r latches gates)
  pub not-refused : record_verdict (net_lent r latches gates) (length latches) (length gates) ≡ Passed
  pub calls-encode : (k : ℕ) → k ≤ most_depth → CallsEncode (net_lent r latches gates) (length latches) (length gates) k
