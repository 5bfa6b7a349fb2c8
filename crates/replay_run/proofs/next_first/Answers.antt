-- `replay_run::next_first` meets its contract.

use borrow.Author.Tests.{eq-eqb, ne_eqb}
use Rattle.replay_run.specs.Runs.{next_first}
use Rattle.replay_run.proofs.next_first.Goals as goal

pub returns-then-broken : goal.returns-then-broken
unfolding next_first
returns-then-broken c =
    rw c.if-broken.true

pub returns-then-first-i : goal.returns-then-first-i
unfolding next_first
returns-then-first-i c =
    rw (c.if-broken.false, eq-eqb _ _ c.if-first-i.true)

pub returns : goal.returns
unfolding next_first
returns c =
    rw (c.if-broken.false, ne_eqb _ _ c.if-first-i.false)
