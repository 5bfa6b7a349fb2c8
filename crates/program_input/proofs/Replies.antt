-- Laws of specs/Input.antt: which test decides, what an input that is not refused has shown, and what is printed for it. No contract cites this file.
use Prim.Native.Nat.{ℕ, ◌-◌}
use mathlib.Core.Path.{◌≡◌, refl, sym, ◌∙◌, ap, subst}
use mathlib.Core.List.{List}
use native.Mathlib.Omega.{arith}
use lib.ListN.{length, take, drop, length-drop}
use lib.Seq.{take_all}
use Rattle.std.specs.Prelude.{Ok, Err}
use Rattle.refusals.specs.Verdict.{Verdict, Passed, refuse}
use Rattle.model.specs.Netlist.{Netlist}
use Rattle.model.proofs.Claim.{encodes}
use Rattle.refusals.specs.Refusal.{reply_of}
use Rattle.refusals.specs.Tests.{◌then◌}
use Rattle.refusals.specs.declared.Refusal.{Refusal}
use Rattle.refusals.proofs.Table.{reply-passed}
use Rattle.refusals.proofs.Tests.{passed_then, then-passes}
use Rattle.netlist.specs.NetOf.{net_of}
use Rattle.dimacs.specs.Text.{refusal_text}
use Rattle.sheet_lines.specs.Depth.{depth_verdict, depth_line}
use Rattle.sheet_lines.proofs.Depth.{passed-most}
use Rattle.sheet_steps.specs.Lists.{Holds, ListsBeside}
use Rattle.sheet_parse.specs.Files.{net_in}
use Rattle.sheet_tests.proofs.Codes.{passed-sheet, passed-file}
use Rattle.sheet_text.specs.SheetText.{input_text}
use Rattle.sheet_text.proofs.WriteBack.{written_back}
use Rattle.sheet_text.proofs.DepthText.{depth-text}
use Rattle.program_input.specs.declared.Input.{Input}
use Rattle.program_input.specs.Input.{sheet_in, input_verdict, input_answer, InputTaken, InputEncoded, text_or_refusal, text_for}

-- the depth is refused
pub depth-decides : (s : List ℕ) {r : Refusal} {p : ℕ} → depth_verdict s ≡ refuse r p → input_verdict s ≡ refuse r p
unfolding input_verdict ◌then◌
depth-decides s e = rw e

-- or the sheet decides
pub sheet-decides : (s : List ℕ) → depth_verdict s ≡ Passed → input_verdict s ≡ sheet_in (drop 11 s)
unfolding input_verdict
sheet-decides s h = rw h (passed_then _)

-- the part of an input behind its eleventh byte
pub behind-depth : (s : List ℕ) → take (length s - 11) (drop 11 s) ≡ drop 11 s
behind-depth s = take_all (length s - 11) (drop 11 s) (rw length-drop (omega arith))

-- an input that is not refused: its depth and its sheet have passed their tests
pub input-taken : (s : List ℕ) (r : Input) (latches gates : List ℕ) → r ≡ input_answer s
    → ListsBeside (input_verdict s) r.net latches gates (net_in (drop 11 s)) → r.number ≡ 0 → InputTaken s r latches gates
unfolding input_answer input_verdict
input-taken s r latches gates e lists none =
    let passed : input_verdict s ≡ Passed = reply-passed _ (sym (ap (λ (i : Input). i.number) e) ∙ none) in
    let parts = (then-passes (depth_verdict s) (sheet_in (drop 11 s))).0 passed in
    let held : Holds r.net latches gates (net_in (drop 11 s)) =
    subst (λ (v : Verdict). ListsBeside v r.net latches gates (net_in (drop 11 s))) passed lists in
    let accepted = (passed-sheet (drop 11 s) 600 600 parts.1).0 in
    let depth : r.depth ≡ (depth_line s).depth = ap (λ (i : Input). i.depth) e ∙ rw passed in
    record {
      passed = passed;
      net-is = held.net-is;
      accepted = accepted;
      depth_is = depth;
      depth-most = omega (arith, depth, passed-most s parts.0);
    }

-- demand 3 of it
pub input-encoded : {s : List ℕ} {r : Input} {latches gates : List ℕ} → InputTaken s r latches gates → InputEncoded s r latches gates
unfolding input_verdict input_text
input-encoded {s} t =
    let parts = (then-passes (depth_verdict s) (sheet_in (drop 11 s))).0 t.passed in
    record {
      is-input = rw (t.net-is, t.depth_is, written_back (drop 11 s) (passed-file (drop 11 s) 600 600 parts.1)) (depth-text s parts.0);
      accepted = rw t.net-is t.accepted;
      encodes = rw t.net-is (encodes (net_in (drop 11 s)) t.accepted);
    }

-- what is printed for an input that is taken
pub taken-text : (text : Netlist → ℕ → List ℕ) {s : List ℕ} {r : Input} {latches gates : List ℕ} → InputTaken s r latches gates
    → text_for text s ≡ text (net_of r.net latches gates) r.depth
unfolding text_for text_or_refusal
taken-text text t = rw (t.passed, t.net-is, t.depth_is)

-- and for one that is refused
refusal-of : (v : Verdict) (text : List ℕ) → ((reply_of v).number ≡ 0 → ⊥) → text_or_refusal v text ≡ refusal_text (reply_of v).number (reply_of v).place
unfolding text_or_refusal
refusal-of (Ok _) text h = absurd (h refl)
refusal-of (Err e) text h = refl

pub refused-text : (text : Netlist → ℕ → List ℕ) (s : List ℕ) (r : Input) → r ≡ input_answer s → (r.number ≡ 0 → ⊥)
    → text_for text s ≡ refusal_text r.number r.place
unfolding text_for input_answer
refused-text text s r e h =
    let number = ap (λ (i : Input). i.number) e in
    let place = ap (λ (i : Input). i.place) e in
    refusal-of (input_verdict s) _ (λ none. h (number ∙ none)) ∙ rw (number, place)
