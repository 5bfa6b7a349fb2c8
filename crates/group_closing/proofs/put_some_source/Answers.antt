-- `group_closing::put_some_source` meets its contract: left out where ¬RE or Z is true.

use mathlib.Core.Path.{◌∙◌}
use borrow.Author.Rules.{rules}
use Rattle.model.specs.Clauses.{some_source}
use Rattle.model.specs.Variables.{closing_literals}
use Rattle.clause_variables.specs.PortOf.{port_of}
use Rattle.clause_variables.proofs.Room.{numbered}
use Rattle.clause_writer.proofs.Wrote.{clause-left-out, has_true-behind}
use Rattle.group_closing.proofs.put_some_source.Goals as goal

pub in_frame-read_enable-requires : goal.in_frame-read_enable-requires
unfolding port_of
in_frame-read_enable-requires c = search (rules, numbered)

pub returns-then-is_true : goal.returns-then-is_true
unfolding some_source closing_literals port_of
returns-then-is_true c =
    let re = rw c.frame_base.ensures at c.in_frame-read_enable.ensures.literal in
    let some = rw (c.is_true.ensures, c.is_true-2.ensures, c.negated-idle.ensures.literal, re, c.none_since-none_since.ensures.literal) at c.if-is_true.true in
    (clause-left-out _ _ (has_true-behind _ _ _ ∙ rw some), search rules)

pub returns : goal.returns
unfolding some_source closing_literals port_of
returns c =
    let re = rw c.frame_base.ensures at c.in_frame-read_enable.ensures.literal in
    rw (c.negated-idle.ensures.literal, re, c.none_since-none_since.ensures.literal) at c.put_source_clause.ensures
