-- Laws of specs/Printed.antt: what is printed by which tests refuse, and which refusals there are. Cited by `write_output`.
use Prim.Native.Nat.{ℕ, zero, suc, ◌≤◌}
use mathlib.Core.Path.{◌≡◌, refl, sym, ◌∙◌, ap, ap₂, subst}
use mathlib.Core.Bool.{Bool, true, false}
use mathlib.Core.List.{List}
use mathlib.Core.Logic.{◌⊎◌, inl, inr}
use native.Mathlib.Omega.{arith}
use lib.ListN.{length}
use Rattle.std.specs.Prelude.{Ok, Err}
use Rattle.refusals.specs.Verdict.{Verdict, Passed, refuse}
use Rattle.refusals.specs.Refusal.{refusal_number}
use Rattle.refusals.specs.Tests.{refuse_if, ◌then◌, in_order}
use Rattle.refusals.specs.Slices.{test_room, with_count, contents_after}
use Rattle.refusals.specs.declared.CountReply.{CountReply}
use Rattle.refusals.specs.declared.Refusal.{Refusal}
use Rattle.refusals.specs.declared.Refusal.TheVariants.{SecondPort}
use Rattle.refusals.proofs.Table.{refusal_number-some}
use Rattle.refusals.proofs.Slices.{room-enough}
use Rattle.model.specs.Netlist.{Netlist}
use Rattle.model.specs.Wrote.{Wrote}
use Rattle.netlist.specs.Places.{control_line, line_at}
use Rattle.netlist_tests.specs.Record.{test_line, test_lines}
use Rattle.dimacs.specs.Text.{refusal_text}
use Rattle.refusals.specs.Slices.{count_reply}
use Rattle.sheet_parse.specs.Files.{net_in}
use Rattle.sheet_tests.specs.Sheet.{file_verdict}
use Rattle.sheet_one_port.specs.SecondPort.{second_use, test_second}
use Rattle.sheet_one_port.specs.OnePortCall.{one_port_text, one_port_tests, one_port_verdict, one_port_sent, one_port_leaves}
use Rattle.sheet_one_port.proofs.OnePortCall.{room-for-all, tests-refused, tests-second, text-most}
use Rattle.program_input.specs.Input.{sheet_in, text_or_refusal}
use Rattle.program_input.proofs.Refusals.{Only, only-sheet}
use Rattle.program_one_port.specs.Printed.{one_port_output, OnlyOnePortRefusals}

-- a verdict that has no other refusal
abbrev OnlyDue : Verdict → Type 0
OnlyDue (Ok _) = Unit {0}
OnlyDue (Err e) = (refusal_number e.0 ≤ 6) ⊎ ((refusal_number e.0 ≡ 17) ⊎ (refusal_number e.0 ≡ 18))

due-of-only : (v : Verdict) → Only 6 v → OnlyDue v
due-of-only (Ok _) h = tt
due-of-only (Err e) (inl h) = inl h
due-of-only (Err e) (inr h) = inr (inl h)

due-then : (v w : Verdict) → OnlyDue v → OnlyDue w → OnlyDue (v then w)
unfolding ◌then◌
due-then (Ok _) w a b = b
due-then (Err e) w a b = a

due-if : (b : Bool) (p : ℕ) → OnlyDue (refuse_if b SecondPort p)
due-if true p = inr (inr refl)
due-if false p = tt

due-lines : (c : Netlist) (n : ℕ) → OnlyDue (in_order (test_line c SecondPort second_use) n)
unfolding in_order
due-lines c zero = tt
due-lines c (suc n) =
    due-then (in_order (test_line c SecondPort second_use) n) (test_line c SecondPort second_use (suc n)) (due-lines c n)
    (due-if (second_use c (line_at c (suc n))) (suc n))

due-second : (c : Netlist) → OnlyDue (test_second c)
unfolding test_lines
due-second c = due-lines c (control_line c)

pub only-due : OnlyOnePortRefusals
only-due file r p e = subst OnlyDue e (by-sheet (file_verdict file) refl)
  where
    by-sheet : (v : Verdict) → file_verdict file ≡ v → OnlyDue (one_port_tests file)
    by-sheet (Ok _) h = rw (tests-second file h) (due-second (net_in file))
    by-sheet (Err e) h = rw (tests-refused file h) (subst OnlyDue (room-for-all file ∙ h) (due-of-only (sheet_in file) (only-sheet file)))

-- what is sent back tells the verdict
sent-written : (v : Verdict) (n m : ℕ) → with_count Passed n ≡ with_count v m → (v ≡ Passed) × (n ≡ m)
unfolding with_count
sent-written (Ok _) n m e = (refl, ap (λ (x : CountReply). x.count) e)
sent-written (Err f) n m e = absurd (omega (arith, refusal_number-some f.0, ap (λ (x : CountReply). x.number) e))

sent-refused : (v : Verdict) (r : Refusal) (p m : ℕ) → with_count (refuse r p) 0 ≡ with_count v m
    → (text : List ℕ) → (text_or_refusal v text ≡ refusal_text (refusal_number r) p) × ((old : List ℕ) → contents_after v text old ≡ old)
unfolding with_count text_or_refusal contents_after
sent-refused (Ok _) r p m e text = absurd (omega (arith, refusal_number-some r, ap (λ (x : CountReply). x.number) e))
sent-refused (Err f) r p m e text =
    (ap₂ refusal_text (sym (ap (λ (y : CountReply). y.number) e)) (sym (ap (λ (y : CountReply). y.place) e)), λ old. refl)

module _ (file old : List ℕ) (room : 20064 ≤ length old) where
  -- there is room for every sheet
  verdict-tests : one_port_verdict file (length old) ≡ one_port_tests file
  unfolding one_port_verdict ◌then◌
  verdict-tests = by_tests (one_port_tests file) refl
    where
      by_tests : (v : Verdict) → one_port_tests file ≡ v → (one_port_tests file then test_room (length (one_port_text file)) (length old)) ≡ v
      by_tests (Ok _) e = rw e (room-enough (length (one_port_text file)) (length old) (omega (arith, text-most file e)))
      by_tests (Err f) e = rw e

  pub output-written : (n : ℕ) {new : List ℕ} → count_reply (Ok n) ≡ one_port_sent file (length old) → new ≡ one_port_leaves file old
      → Wrote (one_port_output file) old new n × (n ≤ 20064)
  unfolding count_reply one_port_sent one_port_leaves one_port_output text_or_refusal contents_after
  output-written n sent leaves =
      let told = sent-written (one_port_verdict file (length old)) n (length (one_port_text file)) sent in
      let passed = sym verdict-tests ∙ told.0 in
      (rw passed (record { counted = told.1; leaves = leaves ∙ rw told.0 }), omega (arith, told.1, text-most file passed))

  pub output-refused : (r : Refusal) (p : ℕ) {new : List ℕ} → count_reply (Err (record { 0 = r; 1 = p })) ≡ one_port_sent file (length old)
      → new ≡ one_port_leaves file old → (one_port_output file ≡ refusal_text (refusal_number r) p) × (new ≡ old)
  unfolding count_reply one_port_sent one_port_leaves one_port_output
  output-refused r p sent leaves =
      let told = sent-refused (one_port_verdict file (length old)) r p (length (one_port_text file)) sent (one_port_text file) in
      (rw (← verdict-tests) told.0, leaves ∙ told.1 old)
