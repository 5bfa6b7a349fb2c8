-- What `marrubigai_import` promises (aiger_import/specs/ImportCall), from the outcome of the covered function below it. Cited by the exported
-- function.
use Prim.Native.Nat.{ℕ}
use mathlib.Core.Path.{◌≡◌, sym, ◌∙◌}
use mathlib.Core.List.{List}
use lib.ListN.{length}
use Rattle.refusals.specs.Verdict.{Passed}
use Rattle.refusals.proofs.Table.{reply-passed}
use Rattle.sheet_steps.specs.declared.SheetAnswer.{SheetAnswer}
use Rattle.sheet_steps.specs.Steps.{Outcome}
use Rattle.sheet_steps.proofs.Records.{verdict-is, record_is}
use Rattle.call_lists.specs.declared.LatchEntry.{LatchEntry}
use Rattle.call_lists.specs.declared.GateEntry.{GateEntry}
use Rattle.sheet_reader.proofs.Delivery.{Fits, new_latches, new_gates, agrees, latches-are, gates-are, latches-length, gates-length}
use Rattle.call_replies.specs.declared.SheetReply.{SheetReply}
use Rattle.call_replies.specs.Replies.{sheet_numbers}
use Rattle.aiger_lines.specs.Written.{TextAsWritten}
use Rattle.aiger_lines.proofs.Written.{read-as-written}
use Rattle.aiger_netlist.specs.TextNetlist.{aag_net}
use Rattle.aiger_netlist.specs.ImportVerdict.{import_verdict}
use Rattle.aiger_netlist.proofs.Verdict.{import-passed}
use Rattle.aiger_netlist.proofs.Imported.{imported}
use Rattle.aiger_import.specs.ImportCall.{imported_word, import_verdict_for, import_record, import_latches, import_gates, TextDelivered}

module _ (s : List ℕ) (m n word unknown second : ℕ) (latches : List LatchEntry) (gates : List GateEntry) where
  pub text-fits : Fits (import_verdict s m n (imported_word word unknown) unknown second (length latches) (length gates)) (aag_net s m n (imported_word word unknown) unknown second) latches gates
  text-fits =
      record {
        accepted = λ e. (import-passed s m n (imported_word word unknown) unknown second (length latches) (length gates) e).accepted;
        latches-long = λ e. (import-passed s m n (imported_word word unknown) unknown second (length latches) (length gates) e).latches-long;
        gates-long = λ e. (import-passed s m n (imported_word word unknown) unknown second (length latches) (length gates) e).gates-long;
      }

  -- what the exported function promises, together
  abbrev pub Answers : SheetReply → List LatchEntry → List GateEntry → Type 0
  Answers reply new_latches new_gates =
      (reply ≡ sheet_numbers (import_verdict_for s m n word unknown second latches gates) (import_record s m n word unknown second latches gates))
      × ((new_latches ≡ import_latches s m n word unknown second latches gates)
      × ((new_gates ≡ import_gates s m n word unknown second latches gates)
      × ((reply.number ≡ 0 → TextDelivered s m n word unknown second reply.net new_latches new_gates)
      × TextAsWritten)))

  module _ (sheet : SheetAnswer) (latch_list gate_list : List ℕ)
      (outcome : Outcome sheet latch_list gate_list (import_verdict s m n (imported_word word unknown) unknown second (length latches) (length gates)) (aag_net s m n (imported_word word unknown) unknown second)) where
    delivered : import_verdict s m n (imported_word word unknown) unknown second (length latches) (length gates) ≡ Passed
        → TextDelivered s m n word unknown second sheet.net (new_latches latches gates text-fits sheet latch_list gate_list outcome)
        (new_gates latches gates text-fits sheet latch_list gate_list outcome)
    delivered e =
        imported s m n (imported_word word unknown) unknown second _ _ _
        (rw (latches-length latches gates text-fits sheet latch_list gate_list outcome, gates-length latches gates text-fits sheet latch_list gate_list outcome) e)
        (agrees latches gates text-fits sheet latch_list gate_list outcome e)

    pub answers : Answers (sheet_numbers sheet.verdict sheet.net) (new_latches latches gates text-fits sheet latch_list gate_list outcome)
        (new_gates latches gates text-fits sheet latch_list gate_list outcome)
    unfolding sheet_numbers import_verdict_for import_record import_latches import_gates
    answers = (
      rw (verdict-is outcome, record_is outcome),
      (
        latches-are latches gates text-fits sheet latch_list gate_list outcome,
        (
          gates-are latches gates text-fits sheet latch_list gate_list outcome,
          (λ q. delivered (sym (verdict-is outcome) ∙ reply-passed sheet.verdict q), read-as-written),
        ),
      ),
    )
