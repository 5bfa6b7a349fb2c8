-- `program_import::line_end` meets its contract.

use native.Mathlib.Omega.{arith}
use borrow.Author.Tests.{eq-eqb, ne_eqb}
use Rattle.decimal.specs.Digits.{line_feed}
use Rattle.text_words.specs.Words.{parts_after}
use Rattle.program_import.proofs.line_end.Goals as goal

pub returns-then-x-eq10 : goal.returns-then-x-eq10
unfolding parts_after
returns-then-x-eq10 c = (rw (eq-eqb c.args.x line_feed c.if-x-eq10.true), omega arith)

pub returns : goal.returns
unfolding parts_after
returns c = (rw (ne_eqb c.args.x line_feed c.if-x-eq10.false), omega arith)
