-- What `read` returns and leaves (specs/ReadCall.antt), from what stands in its own unpacked lists; and what holds of what it
-- leaves. Cited by `read`.
use Prim.Native.Nat.{ℕ}
use mathlib.Core.Path.{◌≡◌, sym, ◌∙◌, ap}
use mathlib.Core.List.{List}
use lib.ListN.{length}
use Rattle.refusals.specs.Verdict.{Passed}
use Rattle.refusals.specs.Refusal.{reply_of}
use Rattle.refusals.proofs.Table.{reply-passed}
use Rattle.model.specs.Acceptance.{PathTheorem}
use Rattle.model.proofs.Dependence.{paths}
use Rattle.sheet_steps.specs.declared.SheetAnswer.{SheetAnswer}
use Rattle.sheet_steps.proofs.Records.{verdict-is, record_is}
use Rattle.sheet_parse.specs.Files.{net_in}
use Rattle.sheet_tests.specs.Sheet.{sheet_verdict}
use Rattle.sheet_tests.specs.Codes.{CodesRead}
use Rattle.sheet_tests.proofs.Codes.{passed-sheet, passed-file}
use Rattle.sheet_text.proofs.SheetText.{one-sheet}
use Rattle.sheet_text.proofs.WriteBack.{written_back}
use Rattle.call_lists.specs.declared.LatchEntry.{LatchEntry}
use Rattle.call_lists.specs.declared.GateEntry.{GateEntry}
use Rattle.call_unpacked.proofs.Calls.{calls-encode}
use Rattle.sheet_reader.specs.ReadCall.{read_verdict, read_record, latches_after, gates_after, SheetDelivered}
use Rattle.sheet_reader.proofs.Delivery.{Fits, new_latches, new_gates, agrees, none-refused, latches-are, gates-are}

module _ (file : List ℕ) (latches : List LatchEntry) (gates : List GateEntry) where
  pub sheet-fits : Fits (sheet_verdict file (length latches) (length gates)) (net_in file) latches gates
  sheet-fits =
      record {
        accepted = λ e. (passed-sheet file (length latches) (length gates) e).0;
        latches-long = λ e. (passed-sheet file (length latches) (length gates) e).1;
        gates-long = λ e. (passed-sheet file (length latches) (length gates) e).2;
      }

  -- what `read` promises, together
  abbrev pub Reads : SheetAnswer → List LatchEntry → List GateEntry → Type 0
  Reads sheet new_latches new_gates =
      (reply_of sheet.verdict ≡ reply_of (read_verdict file latches gates))
      × ((sheet.net ≡ read_record file latches gates)
      × ((new_latches ≡ latches_after file latches gates)
      × ((new_gates ≡ gates_after file latches gates)
      × (((reply_of sheet.verdict).number ≡ 0 → SheetDelivered file sheet.net new_latches new_gates)
      × PathTheorem))))

  module _ (sheet : SheetAnswer) (latch_list gate_list : List ℕ)
      (codes : CodesRead file (length latches) (length gates) sheet latch_list gate_list) where
    -- an accepted sheet is that of its record and lists, of which demand 3 holds
    sheet-delivered : sheet_verdict file (length latches) (length gates) ≡ Passed
        → SheetDelivered file sheet.net (new_latches latches gates sheet-fits sheet latch_list gate_list codes)
        (new_gates latches gates sheet-fits sheet latch_list gate_list codes)
    sheet-delivered e =
        let same = agrees latches gates sheet-fits sheet latch_list gate_list codes e in
        let fine = none-refused latches gates sheet-fits sheet latch_list gate_list codes e in
        record {
          is-sheet = sym (written_back file (passed-file file (length latches) (length gates) e)) ∙ one-sheet (net_in file) _ same;
          not-refused = fine;
          calls-encode = λ k most. calls-encode _ _ _ k fine most;
        }

    pub reads : Reads sheet (new_latches latches gates sheet-fits sheet latch_list gate_list codes)
        (new_gates latches gates sheet-fits sheet latch_list gate_list codes)
    unfolding read_verdict read_record latches_after gates_after
    reads = (
      ap reply_of (verdict-is codes),
      (
        record_is codes,
        (
          latches-are latches gates sheet-fits sheet latch_list gate_list codes,
          (
            gates-are latches gates sheet-fits sheet latch_list gate_list codes,
            (λ q. sheet-delivered (sym (verdict-is codes) ∙ reply-passed sheet.verdict q), paths),
          ),
        ),
      ),
    )
