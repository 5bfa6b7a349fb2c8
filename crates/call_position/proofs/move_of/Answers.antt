-- `call_position::move_of` meets its contract: each arm knows its number.

use borrow.Author.Tests.{ne_eqb}
use Rattle.call_position.specs.Moves.{move_of}
use Rattle.call_position.proofs.move_of.Goals as goal

pub returns-in-0 : goal.returns-in-0
unfolding move_of
returns-in-0 c = rw c.in-0.is

pub returns-in-1 : goal.returns-in-1
unfolding move_of
returns-in-1 c = rw c.in-1.is

pub returns-in-2 : goal.returns-in-2
unfolding move_of
returns-in-2 c = rw c.in-2.is

pub returns-in_default : goal.returns-in_default
unfolding move_of
returns-in_default c =
    let way = c.args.way in
    let none = c.in_default.in_default-own.rest in
    simp (ne_eqb way 0 none.0.0.1, ne_eqb way 1 none.0.1, ne_eqb way 2 none.1)
