-- `sheet_loop::read_lines`: its loop, a turn for each answer of the reader.
use Rattle.std.proofs.Common.{◌≡◌}
use Rattle.sheet_parse.proofs.InProgress.{InProgress, answers_left}
use Rattle.sheet_loop.proofs.read_lines.Given as goal

-- the reader is one of the file, and its lines so far are in the record and the lists
abbrev pub invariant-loop-progress : goal.invariant-loop-progress
invariant-loop-progress l = record {
  same_file : l.reader.file.now ≡ l.file;
  so_far : InProgress l.file l.reader.line l.progress l.latches l.gates;
}

-- how many answers are left, at most
abbrev pub decreases-loop-progress : goal.decreases-loop-progress
decreases-loop-progress l = answers_left l.file l.reader.line l.progress
