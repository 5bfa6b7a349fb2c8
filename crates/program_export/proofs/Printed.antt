-- Laws of specs/Printed.antt: what is printed by which tests refuse, and which refusals there are. Cited by `write_output`.
use Prim.Native.Nat.{ℕ, ◌≤◌}
use mathlib.Core.Path.{◌≡◌, refl, subst}
use mathlib.Core.Bool.{Bool, true, false}
use mathlib.Core.List.{List}
use mathlib.Core.Logic.{◌⊎◌, inl, inr}
use native.Mathlib.Omega.{arith}
use lib.Dec.{eqb, ltb}
use Rattle.std.specs.Prelude.{Ok, Err}
use Rattle.refusals.specs.Verdict.{Verdict, Passed, refuse}
use Rattle.refusals.specs.Refusal.{refusal_number}
use Rattle.refusals.specs.Tests.{refuse_if, ◌then◌}
use Rattle.refusals.specs.declared.Refusal.{Refusal}
use Rattle.refusals.specs.declared.Refusal.TheVariants.{OutOfOrder, Reset}
use Rattle.refusals.proofs.Tests.{passed_then}
use Rattle.model.specs.Netlist.{Netlist}
use Rattle.model.specs.Search.{first_where}
use Rattle.netlist.specs.Places.{memory_line, latch_line}
use Rattle.netlist_tests.specs.Record.{record_verdict}
use Rattle.netlist_tests.proofs.Acceptance.{passes-accepted}
use Rattle.sheet_parse.specs.Files.{net_in}
use Rattle.sheet_tests.proofs.Codes.{passed-sheet}
use Rattle.aiger_export.specs.ExportCall.{export_text, test_single_port, test_resets, test_export}
use Rattle.dimacs.specs.Text.{refusal_text}
use Rattle.program_input.specs.Input.{sheet_in, text_or_refusal}
use Rattle.program_input.proofs.Refusals.{Only, only-sheet}
use Rattle.program_export.specs.Printed.{export_tests, export_output, OnlyExportRefusals}

module _ (file : List ℕ) where
  -- the sheet is refused
  pub output-refused : {r : Refusal} {p : ℕ} → sheet_in file ≡ refuse r p → export_output file ≡ refusal_text (refusal_number r) p
  unfolding export_output export_tests text_or_refusal ◌then◌
  output-refused e = rw e

  -- or the tests of the export decide
  pub output-tested : sheet_in file ≡ Passed → export_output file ≡ text_or_refusal (test_export (net_in file) 600 600) (export_text (net_in file))
  unfolding export_output export_tests
  output-tested e = rw (e, passed_then (test_export (net_in file) 600 600))

-- a verdict that has no other refusal
abbrev Due : Refusal → Type 0
Due r = (refusal_number r ≤ 6) ⊎ ((refusal_number r ≡ 17) ⊎ (refusal_number r ≡ 19))

abbrev OnlyDue : Verdict → Type 0
OnlyDue (Ok _) = Unit {0}
OnlyDue (Err e) = Due e.0

due-if : (b : Bool) (r : Refusal) (p : ℕ) → Due r → OnlyDue (refuse_if b r p)
due-if true r p h = h
due-if false r p h = tt

due-then : (v w : Verdict) → OnlyDue v → OnlyDue w → OnlyDue (v then w)
unfolding ◌then◌
due-then (Ok _) w a b = b
due-then (Err e) w a b = a

due-of-only : (v : Verdict) → Only 6 v → OnlyDue v
due-of-only (Ok _) h = tt
due-of-only (Err e) (inl h) = inl h
due-of-only (Err e) (inr h) = inr (inl h)

-- behind the record's tests there are 3 and 19
due-export : (c : Netlist) → record_verdict c 600 600 ≡ Passed → OnlyDue (test_export c 600 600)
unfolding test_export test_resets ◌then◌
due-export c e =
    let l = first_where (λ l. eqb (c.reset l) 1) c.latches in
    rw e
    (due-then (test_single_port c) (test_resets c) (due-if (ltb 0 c.second_port) OutOfOrder memory_line (inl (omega arith)))
    (due-if (ltb l c.latches) Reset (latch_line c l) (inr (inr refl))))

pub only-due : OnlyExportRefusals
unfolding export_tests ◌then◌
only-due file r p e = subst OnlyDue e (by-sheet (sheet_in file) refl)
  where
    by-sheet : (v : Verdict) → sheet_in file ≡ v → OnlyDue (export_tests file)
    by-sheet (Ok _) h =
        rw h (due-export (net_in file) ((passes-accepted (net_in file) 600 600).1 (passed-sheet file 600 600 h)))
    by-sheet (Err e) h = rw h (subst OnlyDue h (due-of-only (sheet_in file) (only-sheet file)))
