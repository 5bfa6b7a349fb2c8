-- `clause_writer::put_literal` meets its contract: a constant is not written.

use Rattle.model.specs.Numbers.{kept_of}
use Rattle.literals.specs.Lit.{literal_of}
use Rattle.model.proofs.Wrote.{wrote_nothing}
use borrow.Author.Rules.{rules}
use Rattle.clause_writer.proofs.Wrote.{number-is-lit}
use Rattle.clause_writer.proofs.put_literal.Goals as goal

pub put_lit-requires : goal.put_lit-requires
put_lit-requires c = search (rules, number-is-lit)

pub returns-in-True : goal.returns-in-True
unfolding literal_of kept_of
returns-in-True c = rw c.in-True.is (wrote_nothing _, search rules)

pub returns-in-False : goal.returns-in-False
unfolding literal_of kept_of
returns-in-False c = rw c.in-False.is (wrote_nothing _, search rules)

pub returns-in-Number : goal.returns-in-Number
unfolding literal_of
returns-in-Number c = rw c.in-Number.is c.put_lit.ensures
