-- `clause_writer::put_lit` meets its contract.

use borrow.Author.Rules.{rules}
use mir.Syntax.{w32}
use mir.ValLaws.{to_z-of_z}
use Rattle.literals.proofs.Literal.{kept-literal_at, fits}
use Rattle.model.proofs.Wrote.{wrote_one}
use Rattle.clause_writer.proofs.put_lit.Goals as goal

pub returns : goal.returns
returns c =
    let a = c.args.a in
    rw (to_z-of_z w32 a.0 (fits a.0 c.requires.0.bounded), kept-literal_at a.0)
    (wrote_one a.0 _ c.requires.1, search rules)
