-- What a call that exports a record answers and leaves (RULES X7). Cited by `export_binary` and aiger_export/specs/Exported.
use Rattle.std.specs.Prelude.{ℕ, List, eqb, ltb, length}
use Rattle.refusals.specs.Verdict.{Verdict}
use Rattle.model.specs.Netlist.{Netlist}
use Rattle.model.specs.Search.{first_where}
use Rattle.refusals.specs.Tests.{refuse_if, ◌then◌}
use Rattle.refusals.specs.Slices.{test_room, with_count, contents_after}
use Rattle.refusals.specs.declared.CountReply.{CountReply}
use Rattle.refusals.specs.declared.Refusal.TheVariants.{OutOfOrder, Reset}
use Rattle.netlist.specs.Places.{memory_line, latch_line}
use Rattle.netlist_tests.specs.Record.{record_verdict}
use Rattle.aiger_binary.specs.BinaryText.{aig_text}
use Rattle.aiger_ordered.specs.OrderedAig.{aig_of}

-- the file of a record
abbrev pub export_text : Netlist → List ℕ
export_text c = aig_text (aig_of c)

-- RULES T3: "a record with a second port that is to be exported"
abbrev pub test_single_port : Netlist → Verdict
test_single_port c = refuse_if (ltb 0 c.second_port) OutOfOrder memory_line

-- RULES T19: "the first latch with reset 1"
unfoldable pub test_resets : Netlist → Verdict
test_resets c = let l = first_where (λ l. eqb (c.reset l) 1) c.latches in refuse_if (ltb l c.latches) Reset (latch_line c l)

-- RULES X7: "the record with its lists, then 3, then 19"
unfoldable pub test_export : Netlist → ℕ → ℕ → Verdict
test_export c latch_count gate_count = record_verdict c latch_count gate_count then test_single_port c then test_resets c

-- RULES X7: "then 9", with a buffer of `room` bytes
unfoldable pub export_verdict : Netlist → ℕ → ℕ → ℕ → Verdict
export_verdict c latch_count gate_count room = test_export c latch_count gate_count then test_room (length (export_text c)) room

-- the answer, and what is in the buffer then
unfoldable pub export_sent : Netlist → ℕ → ℕ → ℕ → CountReply
export_sent c latch_count gate_count room = with_count (export_verdict c latch_count gate_count room) (length (export_text c))

unfoldable pub export_leaves : Netlist → ℕ → ℕ → List ℕ → List ℕ
export_leaves c latch_count gate_count old = contents_after (export_verdict c latch_count gate_count (length old)) (export_text c) old
