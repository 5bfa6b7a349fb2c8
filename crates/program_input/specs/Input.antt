-- What the program makes of its input (RULES P1, "a depth line of eleven bytes, .. then the sheet", P4, "The depth is tested
-- first", and P6), and what is printed for it (RULES P3). Cited by the functions of `program_input`, and by what prints.
use Rattle.std.specs.Prelude.{ℕ, ◌≤◌, ◌≡◌, List, ◌⊎◌, drop, Ok, Err}
use Rattle.refusals.specs.Verdict.{Verdict, Passed, refuse}
use Rattle.model.specs.Limits.{most_wires, most_depth}
use Rattle.model.specs.Acceptance.{Accepted}
use Rattle.model.specs.Netlist as M
use Rattle.model.specs.Claim.{Encodes}
use Rattle.refusals.specs.Refusal.{refusal_number, reply_of}
use Rattle.refusals.specs.Tests.{◌then◌, if_passed}
use Rattle.refusals.specs.declared.Refusal.{Refusal}
use Rattle.netlist.specs.NetOf.{net_of}
use Rattle.netlist.specs.declared.Netlist.{Netlist}
use Rattle.dimacs.specs.Text.{refusal_text}
use Rattle.sheet_lines.specs.Depth.{depth_verdict, depth_line}
use Rattle.sheet_steps.specs.Records.{record_beside}
use Rattle.sheet_parse.specs.Files.{net_in}
use Rattle.sheet_tests.specs.Sheet.{sheet_verdict}
use Rattle.sheet_text.specs.SheetText.{input_text}
use Rattle.program_input.specs.declared.Input.{Input}

-- a sheet's verdict, for lists of 600 records
abbrev pub sheet_in : List ℕ → Verdict
sheet_in file = sheet_verdict file most_wires most_wires

-- an input's. RULES P4: "The depth is tested first", then the sheet behind it
unfoldable pub input_verdict : List ℕ → Verdict
input_verdict s = depth_verdict s then sheet_in (drop 11 s)

-- a verdict's number and place, with the depth, 0 at a refusal, and a record beside them
abbrev pub with_depth_and_record : Verdict → ℕ → Netlist → Input
with_depth_and_record v k net =
    record { number = (reply_of v).number; place = (reply_of v).place; depth = if_passed v k 0; net = net }

-- what is answered with verdict v, depth k and netlist c: the depth and the record are all zeros at a refusal
abbrev pub input_beside : Verdict → ℕ → M.Netlist → Input
input_beside v k c = with_depth_and_record v k (record_beside v c)

unfoldable pub input_answer : List ℕ → Input
input_answer s = input_beside (input_verdict s) (depth_line s).depth (net_in (drop 11 s))

-- an input s that is not refused: what stands in the record and the lists is the sheet's netlist, which is accepted; and the depth is the depth line's
pub record InputTaken (s : List ℕ) (r : Input) (latches gates : List ℕ) : Type 0 where
  pub passed : input_verdict s ≡ Passed
  pub net-is : net_of r.net latches gates ≡ net_in (drop 11 s)
  pub accepted : Accepted (net_in (drop 11 s))
  pub depth_is : r.depth ≡ (depth_line s).depth
  pub depth-most : r.depth ≤ most_depth

-- demand 3 of such an input: it is its depth and the sheet of record and lists, byte for byte, and these are accepted and encoded at every depth
pub record InputEncoded (s : List ℕ) (r : Input) (latches gates : List ℕ) : Type 0 where
  pub is-input : s ≡ input_text r.depth (net_of r.net latches gates)
  pub accepted : Accepted (net_of r.net latches gates)
  pub encodes : (k : ℕ) → Encodes (net_of r.net latches gates) k

-- what a program prints for an input: its text of the sheet's netlist and the depth, or the refusal (RULES P3)
unfoldable pub text_or_refusal : Verdict → List ℕ → List ℕ
text_or_refusal (Ok _) text = text
text_or_refusal (Err e) text = refusal_text (refusal_number e.0) e.1

unfoldable pub text_for : (M.Netlist → ℕ → List ℕ) → List ℕ → List ℕ
text_for text s = text_or_refusal (input_verdict s) (text (net_in (drop 11 s)) (depth_line s).depth)

-- RULES P6: "Only 1 to 7 and 17 occur in `frames`"
abbrev pub OnlyInputRefusals : Type 0
OnlyInputRefusals = (s : List ℕ) (r : Refusal) (p : ℕ) → input_verdict s ≡ refuse r p → (refusal_number r ≤ 7) ⊎ (refusal_number r ≡ 17)
