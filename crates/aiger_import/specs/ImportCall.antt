-- What `marrubigai_import` answers and leaves in the lists that it is lent, for a text s with the caller's m, n, start and second port (RULES I6,
-- I10, I12 and T55; lists and record as where a sheet is read, T43 to T45). Cited by `import_text` and `marrubigai_import`.
use Rattle.std.specs.Prelude.{ℕ, List, length}
use Rattle.refusals.specs.Verdict.{Verdict}
use Rattle.model.specs.Netlist.{start_of}
use Rattle.model.specs.Agree.{given_word}
use Rattle.netlist.specs.declared.Netlist.{Netlist}
use Rattle.sheet_steps.specs.Records.{record_beside}
use Rattle.call_lists.specs.ListsBeside.{latches_beside, gates_beside}
use Rattle.call_lists.specs.Lent.{net_lent}
use Rattle.call_lists.specs.declared.LatchEntry.{LatchEntry}
use Rattle.call_lists.specs.declared.GateEntry.{GateEntry}
use Rattle.aiger_netlist.specs.TextNetlist.{aag_net}
use Rattle.aiger_netlist.specs.ImportVerdict.{import_verdict}
use Rattle.aiger_netlist.specs.Imported.{Imported}

-- RULES I11: the start word of the record, 0 where the start is unknown
abbrev pub imported_word : ℕ → ℕ → ℕ
imported_word word unknown = given_word (start_of word unknown)

-- the verdict, the record and both lists, for lent lists `latches` and `gates`
unfoldable pub import_verdict_for : List ℕ → ℕ → ℕ → ℕ → ℕ → ℕ → List LatchEntry → List GateEntry → Verdict
import_verdict_for s m n word unknown second latches gates = import_verdict s m n (imported_word word unknown) unknown second (length latches) (length gates)

unfoldable pub import_record : List ℕ → ℕ → ℕ → ℕ → ℕ → ℕ → List LatchEntry → List GateEntry → Netlist
import_record s m n word unknown second latches gates = record_beside (import_verdict_for s m n word unknown second latches gates) (aag_net s m n (imported_word word unknown) unknown second)

unfoldable pub import_latches : List ℕ → ℕ → ℕ → ℕ → ℕ → ℕ → List LatchEntry → List GateEntry → List LatchEntry
import_latches s m n word unknown second latches gates = latches_beside (import_verdict_for s m n word unknown second latches gates) (aag_net s m n (imported_word word unknown) unknown second) latches

unfoldable pub import_gates : List ℕ → ℕ → ℕ → ℕ → ℕ → ℕ → List LatchEntry → List GateEntry → List GateEntry
import_gates s m n word unknown second latches gates = gates_beside (import_verdict_for s m n word unknown second latches gates) (aag_net s m n (imported_word word unknown) unknown second) gates

-- what holds of the record r and the lists that are left where nothing is refused
abbrev pub TextDelivered : List ℕ → ℕ → ℕ → ℕ → ℕ → ℕ → Netlist → List LatchEntry → List GateEntry → Type 0
TextDelivered s m n word unknown second r latches gates = Imported s m n (imported_word word unknown) unknown second (net_lent r latches gates) (length latches) (length gates)
