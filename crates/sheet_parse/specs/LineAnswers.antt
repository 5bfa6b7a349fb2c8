-- What is answered of the lines of a file one by one (RULES L2): the line behind those that are read, a refusal of it with its place, or
-- that there is none. Cited by `line_after` and its parts, sheet_parse/specs/NextLine and `marrubigai_next_line`.
use Rattle.std.specs.Prelude.{ℕ, ◌+◌, ◌*◌, Bool, cond, ◌&&◌, List, leb, ltb, length}
use Rattle.model.specs.Limits.{line_bytes, most_lines}
use Rattle.refusals.specs.Refusal.{refusal_number}
use Rattle.refusals.specs.declared.Refusal.TheVariants as Refusal
use Rattle.sheet_lines.specs.Letters.{letter_of}
use Rattle.sheet_lines.specs.declared.ParsedLine.{ParsedLine}
use Rattle.sheet_lines.specs.declared.ParsedLine.TheVariants.{Misprint, Read}
use Rattle.sheet_parse.specs.declared.LineAnswer.{LineAnswer}
use Rattle.sheet_parse.specs.declared.LineAnswer.TheVariants.{Line, Refused, NoLine}
use Rattle.sheet_parse.specs.declared.LineReply.{LineReply}
use Rattle.sheet_parse.specs.Files.{line_in}

-- whether there is a line behind the first `line`: 32 bytes of the file, and no sheet has more than 627 lines (RULES S13)
unfoldable pub has_line : List ℕ → ℕ → Bool
has_line file line = ltb line most_lines && leb (line_bytes * line + line_bytes) (length file)

-- a line at a place as an answer: a misprinted one is refused, the place being the line (RULES T2)
abbrev pub answer_of : ParsedLine → ℕ → LineAnswer
answer_of Misprint place = Refused Refusal.Misprint place
answer_of (Read kind first second third empty) place = Line kind first second third empty

-- the answer, and how many lines are read with it: one more, be it misprinted or not, and no more where there is none
unfoldable pub line_answer : List ℕ → ℕ → LineAnswer
line_answer file line = cond (has_line file line) (answer_of (line_in file (line + 1)) (line + 1)) NoLine

-- an answer in the rules' numbers: a refusal's number and place, the line's letter and its numbers, and how many lines are read with it; where it
-- is refused, and where there is none, letter and fields are 0
abbrev pub without_fields : ℕ → ℕ → ℕ → LineReply
without_fields number place line =
    record { number = number; place = place; letter = 0; first = 0; second = 0; third = 0; empty = 0; line = line }

unfoldable pub line_sent : LineAnswer → ℕ → LineReply
line_sent (Line kind first second third empty) line =
    record { number = 0; place = 0; letter = letter_of kind; first = first; second = second; third = third; empty = empty; line = line }
line_sent (Refused refusal place) line = without_fields (refusal_number refusal) place line
line_sent NoLine line = without_fields 0 0 line

unfoldable pub lines_read_of : List ℕ → ℕ → ℕ
lines_read_of file line = cond (has_line file line) (line + 1) line
