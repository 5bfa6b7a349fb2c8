-- Which refusals an input can meet (RULES P6), and a sheet: those that their tests have, and 9 not, as 600 records are enough for every sheet that
-- passes the others. Cited by `read_input`, and by what prints of a sheet alone.
use Prim.Native.Nat.{ℕ, zero, suc, ◌+◌, ◌≤◌}
use mathlib.Core.Path.{◌≡◌, refl, sym, ◌∙◌, subst}
use mathlib.Core.Bool.{Bool, true, false, not, ◌||◌}
use mathlib.Core.List.{List}
use mathlib.Core.Logic.{◌⊎◌, inl, inr}
use lib.Dec.{ltb}
use lib.ListN.{drop}
use native.Mathlib.Omega.{arith}
use Rattle.std.specs.Prelude.{Ok, Err}
use Rattle.refusals.specs.Verdict.{Verdict, Passed}
use Rattle.model.specs.Limits.{most_depth}
use Rattle.model.specs.Netlist.{Netlist}
use Rattle.refusals.specs.Refusal.{refusal_number}
use Rattle.refusals.specs.Tests.{refuse_if, ◌then◌, in_order}
use Rattle.refusals.specs.declared.Refusal.{Refusal}
use Rattle.refusals.specs.declared.Refusal.TheVariants.{Ragged, Misprint, OutOfOrder, Size, CodeOutside, MemoryLoop, Depth, NoRoom, TiedAddress}
use Rattle.netlist.specs.Faults.{size_fault, code_fault, tie_fault, loop_fault}
use Rattle.netlist.specs.Places.{line_at, control_line}
use Rattle.netlist.specs.declared.Line.{Line}
use Rattle.netlist_tests.specs.Record.{test_line, test_lines, lists_short, test_ports}
use Rattle.netlist_tests.proofs.Acceptance.{lists-long}
use Rattle.sheet_lines.specs.Lines.{as_wanted, value_of}
use Rattle.sheet_lines.specs.Depth.{depth_field, field_verdict, depth_verdict}
use Rattle.sheet_lines.specs.declared.ParsedLine.{ParsedLine}
use Rattle.sheet_lines.specs.declared.ParsedLine.TheVariants as ParsedLine
use Rattle.sheet_steps.specs.Due.{is_due}
use Rattle.sheet_steps.specs.LineFaults.{faults_at}
use Rattle.sheet_parse.specs.Files.{line_in, line_count, net_in}
use Rattle.sheet_parse.specs.FileTests.{ragged, test_read, test_line_in}
use Rattle.sheet_tests.specs.Sheet.{end_verdict, file_verdict, sheet_verdict}
use Rattle.sheet_tests.proofs.Codes.{accepted-in}
use Rattle.program_input.specs.Input.{sheet_in, OnlyInputRefusals}
use Rattle.program_input.proofs.Replies.{depth-decides, sheet-decides}

-- a refusal of 1 to `most` or 17; and a verdict that has no other
abbrev Due : ℕ → Refusal → Type 0
Due most r = (refusal_number r ≤ most) ⊎ (refusal_number r ≡ 17)

abbrev pub Only : ℕ → Verdict → Type 0
Only most (Ok _) = Unit {0}
Only most (Err e) = Due most e.0

only_if : (most : ℕ) (b : Bool) (r : Refusal) (p : ℕ) → Due most r → Only most (refuse_if b r p)
only_if most true r p h = h
only_if most false r p h = tt

only_then : (most : ℕ) (v w : Verdict) → Only most v → (v ≡ Passed → Only most w) → Only most (v then w)
unfolding ◌then◌
only_then most (Ok _) w a b = b refl
only_then most (Err e) w a b = a

only-in-order : (most : ℕ) (test : ℕ → Verdict) → ((p : ℕ) → Only most (test p)) → (n : ℕ) → Only most (in_order test n)
unfolding in_order
only-in-order most test h zero = tt
only-in-order most test h (suc n) = only_then most (in_order test n) (test (suc n)) (only-in-order most test h n) (λ e. h (suc n))

only-depth : (s : List ℕ) → Only 7 (depth_verdict s)
unfolding depth_verdict field_verdict
only-depth s =
    let f = depth_field s in
    only_then 7 (refuse_if (not (as_wanted 1 f)) Misprint 0) (refuse_if (ltb most_depth (value_of f)) Depth 0)
    (only_if 7 (not (as_wanted 1 f)) Misprint 0 (inl (omega arith)))
    (λ e. only_if 7 (ltb most_depth (value_of f)) Depth 0 (inl (omega arith)))

-- of a sheet, 1 to 6 and 17
only-lines : (c : Netlist) (r : Refusal) (fault : Netlist → Line → Bool) → Due 6 r → Only 6 (test_lines c r fault)
unfolding test_lines
only-lines c r fault h = only-in-order 6 (test_line c r fault) (λ p. only_if 6 (fault c (line_at c p)) r p h) (control_line c)

only-port : (c : Netlist) → Only 6 (test_ports c)
only-port c =
    only_then 6 (test_lines c TiedAddress tie_fault) (test_lines c MemoryLoop loop_fault)
    (only-lines c TiedAddress tie_fault (inr refl)) (λ e. only-lines c MemoryLoop loop_fault (inl (omega arith)))

only-line : (c : Netlist) (file : List ℕ) (p : ℕ) → Only 6 (test_line_in c file p)
unfolding test_line_in test_read faults_at
only-line c file p = by-line (line_in file p)
  where
    by-line : (line : ParsedLine) → Only 6 (test_read c p line)
    by-line ParsedLine.Misprint = only_if 6 true Misprint p (inl (omega arith))
    by-line (ParsedLine.Read kind x y z e) =
        let wrong = ltb (control_line c) p || not (is_due (line_at c p) kind) in
        only_then 6 (refuse_if wrong OutOfOrder p) (faults_at c (line_at c p) p) (only_if 6 wrong OutOfOrder p (inl (omega arith)))
        (λ e. only_then 6 (refuse_if (size_fault c (line_at c p)) Size p) (refuse_if (code_fault c (line_at c p)) CodeOutside p)
        (only_if 6 (size_fault c (line_at c p)) Size p (inl (omega arith)))
        (λ e. only_if 6 (code_fault c (line_at c p)) CodeOutside p (inl (omega arith))))

module _ (file : List ℕ) where
  lines : Verdict
  lines = in_order (test_line_in (net_in file) file) (line_count file)

  only_end : Only 6 (end_verdict (net_in file) (line_count file))
  unfolding end_verdict
  only_end =
      let missing = ltb (line_count file) (control_line (net_in file)) in
      only_then 6 (refuse_if missing OutOfOrder (line_count file + 1)) (test_ports (net_in file))
      (only_if 6 missing OutOfOrder (line_count file + 1) (inl (omega arith))) (λ e. only-port (net_in file))

  only-file : Only 6 (file_verdict file)
  unfolding file_verdict lines
  only-file =
      only_then 6 (refuse_if (ragged file) Ragged 0) (lines then end_verdict (net_in file) (line_count file))
      (only_if 6 (ragged file) Ragged 0 (inl (omega arith)))
      (λ e. only_then 6 lines (end_verdict (net_in file) (line_count file))
      (only-in-order 6 (test_line_in (net_in file) file) (only-line (net_in file) file) (line_count file)) (λ e. only_end))

  long-enough : file_verdict file ≡ Passed → lists_short (net_in file) 600 600 ≡ false
  long-enough e =
      let fit = (accepted-in file e).limits.sizes in
      (lists-long (net_in file) 600 600).1 (omega (arith, fit.latches-fit), omega (arith, fit.gates-fit))

  pub only-sheet : Only 6 (sheet_in file)
  unfolding sheet_verdict
  only-sheet =
      only_then 6 (file_verdict file) (refuse_if (lists_short (net_in file) 600 600) NoRoom 0) only-file
      (λ e. rw (long-enough e) tt)

-- and no other of an input
only-more : (v : Verdict) → Only 6 v → Only 7 v
only-more (Ok _) h = tt
only-more (Err e) (inl h) = inl (omega arith)
only-more (Err e) (inr h) = inr h

pub only-refusals : OnlyInputRefusals
only-refusals s r p e = by-depth (depth_verdict s) refl
  where
    by-depth : (v : Verdict) → depth_verdict s ≡ v → Due 7 r
    by-depth (Ok _) h = subst (Only 7) (sym (sheet-decides s h) ∙ e) (only-more (sheet_in (drop 11 s)) (only-sheet (drop 11 s)))
    by-depth (Err f) h = subst (Only 7) (sym (depth-decides s h) ∙ e) (subst (Only 7) h (only-depth s))
