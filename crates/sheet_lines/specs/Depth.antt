-- The depth line, the first eleven bytes of the input (RULES P1 and P4). Cited by `read_depth`
-- and its parts, program_input/specs/Input and calls/specs/Starred.
use Rattle.std.specs.Prelude.{ℕ, not, cond, ◌&&◌, List, eqb, leb, ltb, length, get_or, take}
use Rattle.refusals.specs.Verdict.{Verdict}
use Rattle.model.specs.Limits.{most_depth}
use Rattle.refusals.specs.Tests.{refuse_if, ◌then◌, if_passed}
use Rattle.refusals.specs.declared.Refusal.TheVariants.{Misprint, Depth}
use Rattle.decimal.specs.Digits.{line_feed}
use Rattle.sheet_fields.specs.Fields.{field_of}
use Rattle.sheet_fields.specs.declared.Field.{Field}
use Rattle.sheet_fields.specs.declared.Field.TheVariants.{Misprinted}
use Rattle.sheet_lines.specs.Lines.{as_wanted, value_of}
use Rattle.sheet_lines.specs.declared.DepthLine.{DepthLine}

-- RULES P1: "the depth in a field of ten columns .. and a line feed"; an input of fewer than eleven bytes has no such field
unfoldable pub depth_field : List ℕ → Field
depth_field s = cond (leb 11 (length s) && eqb (get_or s 10 0) line_feed) (field_of (take 10 s)) Misprinted

-- RULES P4: "at place 0: its form is 2, .. then its value is 7"; a number, and at most 255
unfoldable pub field_verdict : Field → Verdict
field_verdict f = refuse_if (not (as_wanted 1 f)) Misprint 0 then refuse_if (ltb most_depth (value_of f)) Depth 0

unfoldable pub depth_verdict : List ℕ → Verdict
depth_verdict s = field_verdict (depth_field s)

-- a verdict with the depth in a field beside it, 0 at a refusal (RULES L1)
unfoldable pub with_depth : Verdict → Field → DepthLine
with_depth v f = record { verdict = v; depth = if_passed v (value_of f) 0 }

unfoldable pub depth_line : List ℕ → DepthLine
depth_line s = with_depth (depth_verdict s) (depth_field s)
