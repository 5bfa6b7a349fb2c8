-- A reader's file and line number, line by line (RULES S10, "carries the file and its line number", and L2). Cited by `next_line`.
use Rattle.sheet_parse.specs.LineAnswers.{line_answer, lines_read_of}
use Rattle.sheet_parse.specs.declared.SheetReader.{SheetReader}
use Rattle.sheet_parse.specs.declared.NextLine.{NextLine}

-- behind the next line, in the same file
abbrev pub moved_on : SheetReader → SheetReader
moved_on r = record { file = r.file; line = lines_read_of r.file.now r.line }

-- what is answered of the line behind those that are read, and the reader behind it
abbrev pub next_line : SheetReader → NextLine
next_line r = record { line = line_answer r.file.now r.line; reader = moved_on r }
