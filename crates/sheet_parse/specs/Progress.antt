-- How far a file is read: what is there before the first line, and what one answer more does. Cited by the functions that go through a
-- file line by line, by those that lend them lists, and by `no_codes`.
use Rattle.std.specs.Prelude.{ℕ, Bool, true, false, List, replicate, Ok, Err}
use Rattle.refusals.specs.Verdict.{Verdict, Passed, refuse}
use Rattle.model.specs.Netlist.{Netlist}
use Rattle.netlist.specs.RecordOf.{no_netlist}
use Rattle.sheet_steps.specs.Records.{sheet_answer}
use Rattle.sheet_steps.specs.Steps.{step_net, step_verdict}
use Rattle.sheet_steps.specs.declared.SheetAnswer.{SheetAnswer}
use Rattle.sheet_parse.specs.LineAnswers.{line_answer, lines_read_of}
use Rattle.sheet_parse.specs.declared.LineAfter.{LineAfter}
use Rattle.sheet_parse.specs.declared.LineAnswer.{LineAnswer}
use Rattle.sheet_parse.specs.declared.LineAnswer.TheVariants as Answer
use Rattle.sheet_parse.specs.declared.Progress.{Progress}

-- before the first line: 600 records of two codes each, all 0, and a record that is all zeros
unfoldable pub no_codes : List ℕ
no_codes = replicate 1200 0

unfoldable pub no_progress : Progress
no_progress = record { more = true; sheet = sheet_answer Passed no_netlist }

-- behind a line there may be one more where it has passed
abbrev pub passes : Verdict → Bool
passes (Ok _) = true
passes (Err e) = false

abbrev pub progress_with : SheetAnswer → Progress
progress_with sheet = record { more = passes sheet.verdict; sheet = sheet }

-- the answer about the line at place p, for the netlist c of the lines before it: its verdict, the netlist then, and whether there
-- may be one line more
abbrev pub answer_verdict : Netlist → LineAnswer → ℕ → Verdict
answer_verdict c (Answer.Line kind x y z e) p = step_verdict c kind x y z e p
answer_verdict c (Answer.Refused r q) p = refuse r q
answer_verdict c Answer.NoLine p = Passed

abbrev pub answer_net : Netlist → LineAnswer → ℕ → Netlist
answer_net c (Answer.Line kind x y z e) p = step_net c kind x y z e p
answer_net c (Answer.Refused r q) p = c
answer_net c Answer.NoLine p = c

abbrev pub more_after : LineAnswer → Verdict → Bool
more_after (Answer.Line kind x y z e) v = passes v
more_after (Answer.Refused r q) v = passes v
more_after Answer.NoLine v = false

-- the answer about the line behind the first `line`, with how many are read then
abbrev pub no_line_after : ℕ → LineAfter
no_line_after line = record { line = Answer.NoLine; lines_read = line }

abbrev pub line_after : List ℕ → ℕ → LineAfter
line_after file line = record { line = line_answer file line; lines_read = lines_read_of file line }
