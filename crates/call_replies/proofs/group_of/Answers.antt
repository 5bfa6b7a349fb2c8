-- `call_replies::group_of` meets its contract: each arm knows its kind.

use borrow.Author.Tests.{ne_eqb}
use Rattle.call_replies.specs.Replies.{group_of}
use Rattle.call_replies.proofs.group_of.Goals as goal

pub returns-in-0 : goal.returns-in-0
unfolding group_of
returns-in-0 c = rw c.in-0.is

pub returns-in-1 : goal.returns-in-1
unfolding group_of
returns-in-1 c = rw c.in-1.is

pub returns-in-2 : goal.returns-in-2
unfolding group_of
returns-in-2 c = rw c.in-2.is

pub returns-in-3 : goal.returns-in-3
unfolding group_of
returns-in-3 c = rw c.in-3.is

pub returns-in_default : goal.returns-in_default
unfolding group_of
returns-in_default c =
    let kind = c.args.kind in
    let none = c.in_default.in_default-own.rest in
    simp (ne_eqb kind 0 none.0.0.0.1, ne_eqb kind 1 none.0.0.1, ne_eqb kind 2 none.0.1, ne_eqb kind 3 none.1)
