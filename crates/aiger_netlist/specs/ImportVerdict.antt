-- Which texts an import refuses, and where (RULES T11 to T13, and T55: 11, 12, 13, then 4, 5, 17, 6 and 9). No text that passes 13 meets 5, so no
-- function tests it: the law `no-code-fault` in proofs/Codes.antt. Cited by `import_text`,
-- aiger_import/specs/ImportCall and specs/Imported.
use Rattle.std.specs.Prelude.{ℕ, suc, ◌+◌, ◌-◌, ◌*◌, ◌^◌, min, Bool, not, ◌||◌, List, eqb, ltb}
use Rattle.refusals.specs.Verdict.{Verdict}
use Rattle.refusals.specs.Tests.{refuse_if, ◌then◌, in_order}
use Rattle.refusals.specs.declared.Refusal.{Refusal}
use Rattle.refusals.specs.declared.Refusal.TheVariants.{Size, CodeOutside, NoRoom, NotAiger, Interface, Undefined}
use Rattle.netlist.specs.Faults.{size_fault, code_fault}
use Rattle.netlist_tests.specs.Record.{test_lines, test_ports, lists_short}
use Rattle.aiger_graph.specs.RecordAig.{control_output}
use Rattle.aiger_lines.specs.Parts.{counts_in, lines_due, malformed_at}
use Rattle.aiger_lines.specs.declared.Counts.{Counts}
use Rattle.aiger_definitions.specs.Definitions.{defines_again, undefined_at}
use Rattle.aiger_netlist.specs.TextNetlist.{aag_net}

-- a line's place, as far as 32 bits go (RULES T48)
abbrev pub place_of : ℕ → ℕ
place_of p = min p (2 ^ 32 - 1)

-- the first line due that has a fault
abbrev pub first_line : List ℕ → (List ℕ → ℕ → Bool) → Refusal → Verdict
first_line s fault r = in_order (λ p. refuse_if (fault s p) r (place_of p)) (lines_due (counts_in s))

-- RULES T11: the line is not well-formed, or defines a variable again
abbrev pub not_aiger : List ℕ → ℕ → Bool
not_aiger s p = malformed_at s p || defines_again s p

-- RULES T12: fewer inputs than read bits, or not as many outputs as the sheet has codes behind its gates
abbrev pub wrong_interface : Counts → ℕ → ℕ → ℕ → Bool
wrong_interface h m n second = ltb h.inputs (suc second * n) || not (eqb h.outputs (control_output m n second + 3))

-- the tests of the text by itself, and those of the netlist that it describes, with lists of so many latches and gates
unfoldable pub text_verdict : List ℕ → ℕ → ℕ → ℕ → Verdict
text_verdict s m n second =
    first_line s not_aiger NotAiger
    then refuse_if (wrong_interface (counts_in s) m n second) Interface 0
    then first_line s undefined_at Undefined

unfoldable pub import_verdict : List ℕ → ℕ → ℕ → ℕ → ℕ → ℕ → ℕ → ℕ → Verdict
import_verdict s m n word unknown second latch_room gate_room =
    text_verdict s m n second
    then test_lines (aag_net s m n word unknown second) Size size_fault
    then test_lines (aag_net s m n word unknown second) CodeOutside code_fault
    then test_ports (aag_net s m n word unknown second)
    then refuse_if (lists_short (aag_net s m n word unknown second) latch_room gate_room) NoRoom 0
