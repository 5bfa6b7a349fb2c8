-- `answer_lines::read_value` meets its contract: no number, 0, or a number whose sign is put into the table.

use mathlib.Core.Path.{sym, ◌∙◌}
use Rattle.decimal.proofs.Signed.{read_back}
use Rattle.answer_lines.proofs.Values.{word_fits, word-zero, word-nonzero}
use Rattle.answer_lines.proofs.Lines.{number-zero, number-some}
use Rattle.answer_lines.proofs.read_value.Goals as goal

pub returns-then-z-eq0 : goal.returns-then-z-eq0
returns-then-z-eq0 c =
    let word = c.args.word.now in
    let e = sym c.read_clause_number.ensures ∙ c.in-Some.is in
    number-zero c.in-Some.z e (word-zero word c.in-Some.z e c.if-z-eq0.true)

pub returns : goal.returns
returns c =
    let word = c.args.word.now in
    let e = sym c.read_clause_number.ensures ∙ c.in-Some.is in
    number-some c.in-Some.z e (word-nonzero c.in-Some.z c.if-z-eq0.false) (rw (read_back c.in-Some.z (word_fits word c.in-Some.z e)) at c.mark.ensures)
