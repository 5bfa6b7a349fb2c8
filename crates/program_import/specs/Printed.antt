-- What `import_aag` prints for a text s with its caller's numbers (RULES P3, P20 and P23), that its room suffices, and that 5 does not occur. Cited
-- by `write_output`.
use Rattle.std.specs.Prelude.{ℕ, ◌≤◌, ◌≡◌, Bool, false, cond, ◌&&◌, List, [], ◌++◌, eqb, ltb, length, take, Ok, Err}
use Rattle.refusals.specs.Verdict.{Verdict, Passed}
use Rattle.model.specs.Limits.{most_wires}
use Rattle.refusals.specs.Refusal.{refusal_number}
use Rattle.refusals.specs.declared.Refusal.TheVariants.{CodeOutside}
use Rattle.text_words.specs.Words.{lines_of}
use Rattle.netlist.specs.Faults.{code_fault}
use Rattle.netlist_tests.specs.Record.{test_lines}
use Rattle.aiger_netlist.specs.TextNetlist.{aag_net}
use Rattle.aiger_netlist.specs.ImportVerdict.{text_verdict, import_verdict}
use Rattle.aiger_import.specs.ImportCall.{imported_word}
use Rattle.sheet_text.specs.SheetText.{sheet_text}
use Rattle.program_input.specs.Input.{text_or_refusal}

-- the netlist's sheet, or the refusal; lists of 600 records each are the program's own
unfoldable pub import_text : List ℕ → ℕ → ℕ → ℕ → ℕ → ℕ → List ℕ
import_text s m n word unknown second =
    text_or_refusal (import_verdict s m n (imported_word word unknown) unknown second most_wires most_wires) (sheet_text (aag_net s m n (imported_word word unknown) unknown second))

-- whether an import stops at a line that the text does not have whole: 11 at a place behind its last line
unfoldable pub stops_at_end : List ℕ → Verdict → Bool
stops_at_end s (Ok _) = false
stops_at_end s (Err e) = eqb (refusal_number e.0) 11 && ltb (length (lines_of s)) e.1

-- what is printed of the text s, which is cut from a longer one where there is `more`: nothing, where what stands behind s could change it
unfoldable pub import_text_cut : Bool → List ℕ → ℕ → ℕ → ℕ → ℕ → ℕ → List ℕ
import_text_cut more s m n word unknown second =
    cond (more && stops_at_end s (import_verdict s m n (imported_word word unknown) unknown second most_wires most_wires)) [] (import_text s m n word unknown second)

-- RULES P23: the first 4 MiB of what is read are judged
abbrev pub most_text : ℕ
most_text = 4194304

unfoldable pub import_output : List ℕ → ℕ → ℕ → ℕ → ℕ → ℕ → List ℕ
import_output s m n word unknown second = import_text_cut (ltb most_text (length s)) (take most_text s) m n word unknown second

-- so it is what would be printed of the whole text, however it goes on: what stands behind them changes nothing, but where nothing is printed
abbrev pub PrefixSuffices : Type 0
PrefixSuffices = (s rest : List ℕ) (m n word unknown second : ℕ) → length s ≤ most_text
    → stops_at_end s (import_verdict s m n (imported_word word unknown) unknown second most_wires most_wires) ≡ false
    → import_text (s ++ rest) m n word unknown second ≡ import_text s m n word unknown second

-- the lists of 600 records are long enough: the verdict is that of an import into lists of any greater length, so that 9 does not occur
abbrev pub ImportRoomSuffices : Type 0
ImportRoomSuffices = (s : List ℕ) (m n word unknown second latch_room gate_room : ℕ) → most_wires ≤ latch_room → most_wires ≤ gate_room
    → import_verdict s m n word unknown second most_wires most_wires ≡ import_verdict s m n word unknown second latch_room gate_room

-- RULES T55: "No text that passes 13 meets 5"
abbrev pub NoCodeOutside : Type 0
NoCodeOutside = (s : List ℕ) (m n word unknown second : ℕ) → text_verdict s m n second ≡ Passed → test_lines (aag_net s m n word unknown second) CodeOutside code_fault ≡ Passed
