-- `clause_writer::put_minus_one` meets its contract.

use lib.IntN.{negsuc}
use borrow.Author.Rules.{rules}
use Rattle.model.proofs.Wrote.{wrote_one}
use Rattle.clause_writer.proofs.put_minus_one.Goals as goal

pub returns : goal.returns
returns c = (wrote_one (negsuc 0) c.args.out.now c.requires, search rules)
