-- `clause_writer::put_mark` meets its contract.

use lib.IntN.{pos}
use borrow.Author.Rules.{rules}
use Rattle.model.proofs.Wrote.{wrote_one}
use Rattle.clause_writer.proofs.put_mark.Goals as goal

pub returns : goal.returns
returns c = (wrote_one (pos 0) c.args.out.now c.requires, search rules)
