-- Laws of specs/OnePortCall.antt: what is written is read as a netlist with one port and the same runs. Cited by `convert`.
use Prim.Native.Nat.{ℕ, ◌≤◌}
use mathlib.Core.Path.{◌≡◌, refl, sym, ◌∙◌}
use mathlib.Core.List.{List}
use mathlib.Core.Logic.{by_cases}
use native.Mathlib.Nat.{le_refl}
use native.Mathlib.Decide.{ℕ_discrete}
use native.Mathlib.Omega.{arith}
use lib.ListN.{length}
use Rattle.std.specs.Prelude.{Ok, Err}
use Rattle.refusals.specs.Verdict.{Verdict, Passed, refuse}
use Rattle.model.specs.Netlist.{Netlist}
use Rattle.model.specs.Acceptance.{Accepted}
use Rattle.model.specs.Agree.{Agree}
use Rattle.model.specs.Limits.{most_bytes}
use Rattle.model.proofs.Agree.{accepted-same}
use Rattle.model.specs.OnePort.{one_port, SameRuns}
use Rattle.model.proofs.OnePort.{one-accepted, same_runs, same-runs-single, same-runs-agree}
use Rattle.refusals.specs.Tests.{◌then◌}
use Rattle.refusals.specs.declared.Refusal.{Refusal}
use Rattle.refusals.proofs.Tests.{refused-not-passed, first_passes, rest-passes}
use Rattle.netlist_tests.proofs.Acceptance.{lists-long}
use Rattle.call_unpacked.proofs.Calls.{lines-most}
use Rattle.sheet_steps.specs.declared.SheetAnswer.{SheetAnswer}
use Rattle.sheet_parse.specs.Files.{net_in}
use Rattle.sheet_tests.specs.Sheet.{file_verdict, sheet_verdict}
use Rattle.sheet_tests.proofs.Codes.{accepted-in, sheet-refused, sheet-passed, passed-file}
use Rattle.sheet_text.specs.SheetText.{sheet_text}
use Rattle.sheet_text.proofs.SheetText.{agrees-read, one-sheet, length-sheet_text}
use Rattle.sheet_writer.proofs.ReadBack.{sheet-passes}
use Rattle.sheet_text.proofs.WriteBack.{written_back}
use Rattle.sheet_one_port.specs.SecondPort.{test_second}
use Rattle.sheet_one_port.specs.OnePortCall.{one_port_text, one_port_tests, OnePortTheorem}
use Rattle.sheet_one_port.specs.Renumbered.{ReadAsOne}
use Rattle.sheet_one_port.proofs.SecondPort.{second-unused, single-passes}
use Rattle.sheet_one_port.proofs.OneCode.{agree-single}

-- a netlist that is accepted and does not use a second port: so is it with one port, with the same runs
module _ (c : Netlist) (ok : Accepted c) (passed : test_second c ≡ Passed) where
  two : (c.second_port ≡ 0 → ⊥) → c.second_port ≡ 1
  two some = omega (arith, ok.limits.sizes.kind_fits)

  pub accepted-one : Accepted (one_port c)
  accepted-one =
      by_cases (ℕ_discrete c.second_port 0)
      (λ none. accepted-same c (one_port c) (agree-single c none) ok)
      (λ some. one-accepted ok (second-unused c (two some) passed))

  pub runs-one : SameRuns c (one_port c)
  runs-one =
      by_cases (ℕ_discrete c.second_port 0)
      (λ none. same-runs-agree (same-runs-single c none) (agree-single c none))
      (λ some. same_runs ok (second-unused c (two some) passed))

-- 600 records are enough for every sheet
pub room-for-all : (file : List ℕ) → sheet_verdict file 600 600 ≡ file_verdict file
room-for-all file = by-verdict (file_verdict file) refl
  where
    by-verdict : (v : Verdict) → file_verdict file ≡ v → sheet_verdict file 600 600 ≡ v
    by-verdict (Ok _) e =
        let sizes = (accepted-in file e).limits.sizes in
        sheet-passed file 600 600 e ((lists-long (net_in file) 600 600).1 (sizes.latches-fit, sizes.gates-fit))
    by-verdict (Err f) e = sheet-refused file 600 600 e

module _ (file : List ℕ) where
  -- the tests in their order
  pub tests-refused : {r : Refusal} {p : ℕ} → file_verdict file ≡ refuse r p → one_port_tests file ≡ refuse r p
  unfolding one_port_tests ◌then◌
  tests-refused e = rw e

  pub tests-second : file_verdict file ≡ Passed → one_port_tests file ≡ test_second (net_in file)
  unfolding one_port_tests ◌then◌
  tests-second e = rw e

  -- what is read where something is refused
  pub read-refused : {sheet : SheetAnswer} {latches gates : List ℕ} {r : Refusal} {p : ℕ} → sheet.verdict ≡ refuse r p → one_port_tests file ≡ refuse r p
      → ReadAsOne file sheet latches gates
  read-refused told e = record { verdict-is = told ∙ sym e; agrees = λ passed. absurd (refused-not-passed (sym e ∙ passed)) }

  -- the text is that of every netlist that agrees
  pub text_same : {d : Netlist} → Agree (one_port (net_in file)) d → one_port_text file ≡ sheet_text d
  unfolding one_port_text
  text_same {d} q = one-sheet (one_port (net_in file)) d q

module _ (file : List ℕ) (passed : one_port_tests file ≡ Passed) where
  pub passed-sheet : file_verdict file ≡ Passed
  unfolding one_port_tests
  passed-sheet = first_passes _ _ passed

  pub accepted-text : Accepted (one_port (net_in file))
  unfolding one_port_tests
  accepted-text = accepted-one (net_in file) (accepted-in file passed-sheet) (rest-passes _ _ passed)

  runs-text : SameRuns (net_in file) (one_port (net_in file))
  unfolding one_port_tests
  runs-text = runs-one (net_in file) (accepted-in file passed-sheet) (rest-passes _ _ passed)

  -- the longest sheet is long enough
  pub text-most : length (one_port_text file) ≤ most_bytes
  unfolding one_port_text
  text-most = omega (arith, length-sheet_text (one_port (net_in file)) accepted-text.limits, lines-most (one_port (net_in file)) accepted-text.limits.sizes)

pub one-port-theorem : OnePortTheorem
unfolding one_port_text
one-port-theorem =
    record {
      unchanged = λ file passed none. (
        single-passes (net_in file) none,
        sym (one-sheet (net_in file) (one_port (net_in file)) (agree-single (net_in file) none)) ∙ written_back file passed,
      );
      accepted = λ file passed.
          let one = one_port (net_in file) in
          passed-file (sheet_text one) one.latches one.gates
          (sheet-passes one (accepted-text file passed) one.latches one.gates (le_refl _) (le_refl _));
      read_as = λ file passed. agrees-read (one_port (net_in file)) (accepted-text file passed).limits;
      same_runs = λ file passed.
          let one = one_port (net_in file) in
          same-runs-agree (runs-text file passed) (agrees-read one (accepted-text file passed).limits);
    }
