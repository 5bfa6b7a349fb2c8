-- Laws of specs/Printed.antt: what is printed by the verdict, and of what was read of a text. No contract cites this file.
use Prim.Native.Nat.{ℕ, ◌≤◌, ◌<◌}
use mathlib.Core.Path.{◌≡◌, refl, ap₂}
use mathlib.Core.Bool.{Bool, true, false, cond, ◌&&◌}
use mathlib.Core.List.{List, []}
use lib.Dec.{eqb, ltb}
use lib.ListN.{length, take}
use lib.Seq.{take_all}
use borrow.Author.Tests.{le-ltb, lt-ltb}
use Rattle.refusals.specs.Verdict.{Passed, refuse}
use Rattle.refusals.specs.Refusal.{refusal_number}
use Rattle.refusals.specs.declared.Refusal.{Refusal}
use Rattle.dimacs.specs.Text.{refusal_text}
use Rattle.text_words.specs.Words.{lines_of}
use Rattle.aiger_netlist.specs.TextNetlist.{aag_net}
use Rattle.aiger_netlist.specs.ImportVerdict.{import_verdict}
use Rattle.aiger_import.specs.ImportCall.{imported_word}
use Rattle.sheet_text.specs.SheetText.{sheet_text}
use Rattle.program_input.specs.Input.{text_or_refusal}
use Rattle.program_import.specs.Printed.{import_text, stops_at_end, import_text_cut, most_text, import_output}

-- no text is cut whose import does not stop
uncut : (more : Bool) (xs : List ℕ) → cond (more && false) [] xs ≡ xs
uncut true xs = refl
uncut false xs = refl

module _ (more : Bool) (s : List ℕ) (m n word unknown second : ℕ) where
  pub printed-passed : import_verdict s m n (imported_word word unknown) unknown second 600 600 ≡ Passed
      → import_text_cut more s m n word unknown second ≡ sheet_text (aag_net s m n (imported_word word unknown) unknown second)
  unfolding import_text_cut stops_at_end import_text text_or_refusal
  printed-passed e = rw e (uncut more (sheet_text (aag_net s m n (imported_word word unknown) unknown second)))

  pub printed-refused : (r : Refusal) (p : ℕ) → import_verdict s m n (imported_word word unknown) unknown second 600 600 ≡ refuse r p
      → import_text_cut more s m n word unknown second
      ≡ cond (more && (eqb (refusal_number r) 11 && ltb (length (lines_of s)) p)) [] (refusal_text (refusal_number r) p)
  unfolding import_text_cut stops_at_end import_text text_or_refusal
  printed-refused r p e = rw e

module _ (s : List ℕ) (m n word unknown second : ℕ) where
  -- what is read whole, and what is not
  pub output-whole : length s ≤ most_text → import_output s m n word unknown second ≡ import_text_cut false s m n word unknown second
  unfolding import_output
  output-whole h =
      ap₂ (λ (b : Bool) (t : List ℕ). import_text_cut b t m n word unknown second) (le-ltb most_text (length s) h) (take_all most_text s h)

  pub output-cut : most_text < length s → import_output s m n word unknown second ≡ import_text_cut true (take most_text s) m n word unknown second
  unfolding import_output
  output-cut h = ap₂ (λ (b : Bool) (t : List ℕ). import_text_cut b t m n word unknown second) (lt-ltb most_text (length s) h) refl
