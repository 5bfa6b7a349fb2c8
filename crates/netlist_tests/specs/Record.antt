-- The tests of a record with its lists, in their order (RULES T54 and T39). That they pass exactly the accepted netlists is
-- the law `passes-accepted` in proofs/Acceptance.antt. Cited by the tests of this crate, by the calls over a record by
-- the reading of a sheet and by the import of a text.
use Rattle.std.specs.Prelude.{ℕ, Bool, ◌||◌, ltb}
use Rattle.refusals.specs.Verdict.{Verdict}
use Rattle.refusals.specs.Tests.{refuse_if, ◌then◌, in_order}
use Rattle.refusals.specs.declared.Refusal.{Refusal}
use Rattle.refusals.specs.declared.Refusal.TheVariants.{OutOfOrder, Size, CodeOutside, MemoryLoop, TiedAddress}
use Rattle.model.specs.Netlist.{Netlist}
use Rattle.netlist.specs.Places.{control_line, line_at}
use Rattle.netlist.specs.Faults.{size_fault, code_fault, tie_fault, loop_fault}
use Rattle.netlist.specs.declared.Line.{Line}

-- the line due at a place, tested for a fault
abbrev pub test_line : Netlist → Refusal → (Netlist → Line → Bool) → ℕ → Verdict
test_line c r fault p = refuse_if (fault c (line_at c p)) r p

-- all lines tested for a fault: the first that has it
unfoldable pub test_lines : Netlist → Refusal → (Netlist → Line → Bool) → Verdict
test_lines c r fault = in_order (test_line c r fault) (control_line c)

-- RULES T3: "a lent list shorter than its size", of lists that have latch_count and gate_count records: 3 in a record, and 9 (RULES T37) where the records
-- of a sheet are to be written there
abbrev pub lists_short : Netlist → ℕ → ℕ → Bool
lists_short c latch_count gate_count = ltb latch_count c.latches || ltb gate_count c.gates

-- RULES T54: "then 17, then 6"; of a sheet (RULES T53) and a text (RULES T55) too. RULES T17: "The place is the first such line"; RULES T6: "the first A or B
-- line concerned, else the R line, else the C line"
abbrev pub test_ports : Netlist → Verdict
test_ports c = test_lines c TiedAddress tie_fault then test_lines c MemoryLoop loop_fault

-- RULES T54: "4, then 3, then 5 in line order, then 17, then 6, each with the place that it would have in a sheet"
unfoldable pub record_verdict : Netlist → ℕ → ℕ → Verdict
record_verdict c latch_count gate_count =
    test_lines c Size size_fault
    then refuse_if (lists_short c latch_count gate_count) OutOfOrder 0
    then test_lines c CodeOutside code_fault
    then test_ports c
