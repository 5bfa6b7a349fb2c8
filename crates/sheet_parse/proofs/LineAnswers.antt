-- Laws of specs/LineAnswers.antt: where there is a line, and the three answers. No contract cites this file.
use Prim.Native.Nat.{ℕ, ◌+◌, ◌*◌, ◌≤◌, ◌<◌}
use mathlib.Core.Path.{◌≡◌, sym, ◌∙◌}
use mathlib.Core.Bool.{true, false, false≢true}
use mathlib.Core.List.{List}
use mathlib.Core.Logic.{by_cases}
use native.Mathlib.Decide.{dec_lt}
use native.Mathlib.Omega.{arith}
use borrow.Author.Tests.{ltb-true, leb-true, lt-ltb, le-leb}
use lib.Dec.{leb, ltb}
use lib.ListN.{length}
use Rattle.model.proofs.Booleans.{and-true}
use Rattle.refusals.specs.declared.Refusal.TheVariants as Refusal
use Rattle.sheet_lines.specs.declared.Kind.{Kind}
use Rattle.sheet_lines.specs.declared.ParsedLine.TheVariants.{Misprint, Read}
use Rattle.sheet_parse.specs.declared.LineAnswer.TheVariants.{Line, Refused}
use Rattle.sheet_parse.specs.Files.{line_count, line_in}
use Rattle.sheet_parse.specs.LineAnswers.{has_line, answer_of, line_answer, lines_read_of}
use Rattle.sheet_parse.specs.Progress.{no_line_after, line_after}
use Rattle.sheet_parse.proofs.Files.{WholeLines}

module _ (file : List ℕ) (line : ℕ) where
  -- a line that is there is one of the first 627, and its 32 bytes are the file's
  pub line-there : has_line file line ≡ true → (line < 627) × (32 * line + 32 ≤ length file)
  unfolding has_line
  line-there h =
      let both = (and-true (ltb line 627) (leb (32 * line + 32) (length file))).0 h in
      (ltb-true line 627 both.0, leb-true (32 * line + 32) (length file) both.1)

  -- behind the last line of a file of whole lines there is none
  pub line-none : has_line file line ≡ false → WholeLines file → line ≤ line_count file → line ≡ line_count file
  unfolding has_line
  line-none h whole within =
      by_cases (dec_lt line (line_count file))
      (λ less. absurd (false≢true (sym h ∙ rw (
        lt-ltb line 627 (omega (arith, whole.whole, whole.most)),
        le-leb (32 * line + 32) (length file) (omega (arith, whole.whole)),
      ))))
      (λ more. omega arith)

  -- the answers
  pub after_none : has_line file line ≡ false → line_after file line ≡ no_line_after line
  unfolding line_answer lines_read_of
  after_none h = rw h

  pub after-there : has_line file line ≡ true
      → line_after file line ≡ record { line = answer_of (line_in file (line + 1)) (line + 1); lines_read = line + 1 }
  unfolding line_answer lines_read_of
  after-there h = rw h

  pub after-misprint : has_line file line ≡ true → line_in file (line + 1) ≡ Misprint
      → line_after file line ≡ record { line = Refused Refusal.Misprint (line + 1); lines_read = line + 1 }
  unfolding line_answer lines_read_of
  after-misprint h e = rw (h, e)

  pub after_read : has_line file line ≡ true → (k : Kind) (a b c u : ℕ) → line_in file (line + 1) ≡ Read k a b c u
      → line_after file line ≡ record { line = Line k a b c u; lines_read = line + 1 }
  unfolding line_answer lines_read_of
  after_read h k a b c u e = rw (h, e)
