-- What a call that writes a sheet back answers and leaves (RULES B3), and what the sheet is to the record and to `read` (RULES B4 to B6).
-- Cited by `write_sheet` and `marrubigai_write_sheet`.
use Rattle.std.specs.Prelude.{ℕ, ◌≤◌, ◌≡◌, List, length}
use Rattle.refusals.specs.Verdict.{Verdict, Passed}
use Rattle.model.specs.Netlist.{Netlist}
use Rattle.model.specs.Agree.{Agree}
use Rattle.refusals.specs.Tests.{◌then◌}
use Rattle.refusals.specs.Slices.{test_room, with_count, contents_after}
use Rattle.refusals.specs.declared.CountReply.{CountReply}
use Rattle.netlist_tests.specs.Record.{record_verdict}
use Rattle.call_lists.specs.declared.LatchEntry.{LatchEntry}
use Rattle.call_lists.specs.declared.GateEntry.{GateEntry}
use Rattle.call_lists.specs.Lent.{net_lent}
use Rattle.sheet_reader.specs.ReadCall.{read_verdict, read_record, latches_after, gates_after}
use Rattle.sheet_text.specs.SheetText.{sheet_text}

-- RULES B3: "the record with its lists, then 9" for the exact length, of lists that have latch_count and gate_count records and a buffer of
-- `room` bytes
unfoldable pub write_sheet_verdict : Netlist → ℕ → ℕ → ℕ → Verdict
write_sheet_verdict c latch_count gate_count room = record_verdict c latch_count gate_count then test_room (length (sheet_text c)) room

-- the answer, and what is in the buffer then
unfoldable pub write_sent : Netlist → ℕ → ℕ → ℕ → CountReply
write_sent c latch_count gate_count room = with_count (write_sheet_verdict c latch_count gate_count room) (length (sheet_text c))

unfoldable pub write_leaves : Netlist → ℕ → ℕ → List ℕ → List ℕ
write_leaves c latch_count gate_count old = contents_after (write_sheet_verdict c latch_count gate_count (length old)) (sheet_text c) old

-- the netlist that `read` makes of a file in lent lists
abbrev pub net_read : List ℕ → List LatchEntry → List GateEntry → Netlist
net_read file latches gates = net_lent (read_record file latches gates) (latches_after file latches gates) (gates_after file latches gates)

-- Of every record that passes its tests, of every sheet that is read, and of every two netlists with the same used entries (`Agree`)
pub record SheetWritten : Type 0 where
  -- RULES B4: "Reading it gives the same record and lists in all used entries", into lists with room
  pub read_back : (c : Netlist) (latch_count gate_count : ℕ) → record_verdict c latch_count gate_count ≡ Passed
      → (latches : List LatchEntry) (gates : List GateEntry) → c.latches ≤ length latches → c.gates ≤ length gates
      → (read_verdict (sheet_text c) latches gates ≡ Passed) × Agree c (net_read (sheet_text c) latches gates)
  -- RULES B5: "writing what was read gives the same bytes"; that no test of records refuses it is promised by `read`
  pub write-back : (file : List ℕ) (latches : List LatchEntry) (gates : List GateEntry) → read_verdict file latches gates ≡ Passed
      → sheet_text (net_read file latches gates) ≡ file
  -- RULES B6: "Two records with the same used entries give one sheet"
  pub one-sheet : (c d : Netlist) → Agree c d → sheet_text c ≡ sheet_text d
