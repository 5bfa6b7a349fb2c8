-- What the conversion of a sheet answers and leaves (RULES O1 to O4), and what the sheet written is to the one that was handed in (RULES O5).
-- Cited by `convert` and `marrubigai_one_port`, and by what `one_port` prints.
use Rattle.std.specs.Prelude.{ℕ, ◌≡◌, List, length}
use Rattle.refusals.specs.Verdict.{Verdict, Passed}
use Rattle.model.specs.Agree.{Agree}
use Rattle.model.specs.OnePort.{one_port, SameRuns}
use Rattle.refusals.specs.Tests.{◌then◌}
use Rattle.refusals.specs.Slices.{test_room, with_count, contents_after}
use Rattle.refusals.specs.declared.CountReply.{CountReply}
use Rattle.sheet_parse.specs.Files.{net_in}
use Rattle.sheet_tests.specs.Sheet.{file_verdict}
use Rattle.sheet_text.specs.SheetText.{sheet_text}
use Rattle.sheet_one_port.specs.SecondPort.{test_second}

-- the sheet with one port
unfoldable pub one_port_text : List ℕ → List ℕ
one_port_text file = sheet_text (one_port (net_in file))

-- RULES O4: "the sheet by T53, but for 9, then 18"
unfoldable pub one_port_tests : List ℕ → Verdict
one_port_tests file = file_verdict file then test_second (net_in file)

-- RULES O4: "then 9, against the exact length", of a buffer of `room` bytes
unfoldable pub one_port_verdict : List ℕ → ℕ → Verdict
one_port_verdict file room = one_port_tests file then test_room (length (one_port_text file)) room

-- the answer, and what is in the buffer then
unfoldable pub one_port_sent : List ℕ → ℕ → CountReply
one_port_sent file room = with_count (one_port_verdict file room) (length (one_port_text file))

unfoldable pub one_port_leaves : List ℕ → List ℕ → List ℕ
one_port_leaves file old = contents_after (one_port_verdict file (length old)) (one_port_text file) old

-- Of every sheet that passes its own tests
pub record OnePortTheorem : Type 0 where
  -- RULES O3: "A sheet with one port passes unchanged"
  pub unchanged : (file : List ℕ) → file_verdict file ≡ Passed → (net_in file).second_port ≡ 0
      → (test_second (net_in file) ≡ Passed) × (one_port_text file ≡ file)
  -- RULES O5: what is written passes every test of a sheet, is read as the netlist without its second port, and has the runs of the sheet that
  -- was handed in
  pub accepted : (file : List ℕ) → one_port_tests file ≡ Passed → file_verdict (one_port_text file) ≡ Passed
  pub read_as : (file : List ℕ) → one_port_tests file ≡ Passed → Agree (one_port (net_in file)) (net_in (one_port_text file))
  pub same_runs : (file : List ℕ) → one_port_tests file ≡ Passed → SameRuns (net_in file) (net_in (one_port_text file))
