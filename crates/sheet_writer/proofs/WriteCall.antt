-- Laws of specs/WriteCall.antt: what the sheet is to the record and to `read`. Cited by `write_sheet`.
use Prim.Native.Nat.{ℕ}
use mathlib.Core.Path.{◌≡◌, sym, ◌∙◌}
use mathlib.Core.List.{List}
use lib.ListN.{length}
use Rattle.refusals.specs.Verdict.{Passed}
use Rattle.model.specs.Netlist.{Netlist, IsPort}
use Rattle.model.specs.Agree.{Agree}
use Rattle.model.proofs.Agree.{latches-same, gates-same, m-same, n-same, second-same}
use Rattle.refusals.specs.Slices.{contents_after}
use Rattle.netlist_tests.proofs.Acceptance.{passes-accepted}
use Rattle.sheet_steps.specs.Records.{record_beside}
use Rattle.sheet_parse.specs.Files.{net_in}
use Rattle.sheet_tests.specs.Sheet.{sheet_verdict}
use Rattle.sheet_tests.proofs.Codes.{passed-sheet, passed-file}
use Rattle.call_lists.specs.declared.LatchEntry.{LatchEntry}
use Rattle.call_lists.specs.declared.GateEntry.{GateEntry}
use Rattle.call_lists.specs.Delivered.{delivered}
use Rattle.call_lists.specs.ListsBeside.{latches_beside, gates_beside}
use Rattle.sheet_reader.specs.ReadCall.{read_verdict, read_record, latches_after, gates_after}
use Rattle.sheet_reader.proofs.Delivery.{agree}
use Rattle.sheet_text.specs.SheetText.{sheet_text}
use Rattle.sheet_writer.specs.WriteCall.{net_read, SheetWritten}
use Rattle.sheet_text.proofs.SheetText.{agrees-read, one-sheet}
use Rattle.sheet_writer.proofs.ReadBack.{sheet-passes}
use Rattle.sheet_text.proofs.WriteBack.{written_back}

-- agreement goes on
agree_then : (c d e : Netlist) → Agree c d → Agree d e → Agree c e
agree_then c d e p q =
    record {
      sizes-same = p.sizes-same ∙ q.sizes-same;
      next-same = λ l h. p.next-same l h ∙ q.next-same l (rw (← latches-same c d p) h);
      reset-same = λ l h. p.reset-same l h ∙ q.reset-same l (rw (← latches-same c d p) h);
      left-same = λ g h. p.left-same g h ∙ q.left-same g (rw (← gates-same c d p) h);
      right-same = λ g h. p.right-same g h ∙ q.right-same g (rw (← gates-same c d p) h);
      address_same = λ x here t h. p.address_same x here t h ∙ q.address_same x (port-of x here) t (rw (← m-same c d p) h);
      data-same = λ t h. p.data-same t h ∙ q.data-same t (rw (← n-same c d p) h);
      WE-same = p.WE-same ∙ q.WE-same;
      RE-same = λ x here. p.RE-same x here ∙ q.RE-same x (port-of x here);
      P-same = p.P-same ∙ q.P-same;
    }
  where
    port-of : (x : ℕ) → IsPort c x → IsPort d x
    port-of x here = (here.0, rw (← second-same c d p) here.1)

-- what is read into lent lists agrees with what the file says
module _ (file : List ℕ) (latches : List LatchEntry) (gates : List GateEntry) where
  agrees-lent : sheet_verdict file (length latches) (length gates) ≡ Passed → Agree (net_in file) (net_read file latches gates)
  unfolding read_verdict read_record latches_after gates_after record_beside latches_beside gates_beside contents_after delivered
  agrees-lent passed =
      let fits = passed-sheet file (length latches) (length gates) passed in
      rw passed (agree (net_in file) fits.0 latches gates fits.1 fits.2)

pub sheet-written : SheetWritten
unfolding read_verdict
sheet-written =
    record {
      read_back =
          λ c latch_count gate_count tested latches gates long-latches long-gates.
          let accepted = ((passes-accepted c latch_count gate_count).0 tested).0 in
          let passed = sheet-passes c accepted (length latches) (length gates) long-latches long-gates in (
            passed,
            agree_then c (net_in (sheet_text c)) (net_read (sheet_text c) latches gates) (agrees-read c accepted.limits) (agrees-lent (sheet_text c) latches gates passed),
          );
      write-back =
          λ file latches gates passed.
          sym (one-sheet (net_in file) (net_read file latches gates) (agrees-lent file latches gates passed))
          ∙ written_back file (passed-file file (length latches) (length gates) passed);
      one-sheet = one-sheet;
    }
