-- `program_replay::is_broken` meets its contract.

use native.Mathlib.Omega.{arith}
use borrow.Author.Tests.{eq-eqb, ne_eqb}
use Rattle.program_replay.specs.Printed.{is_broken}
use Rattle.program_replay.proofs.is_broken.Goals as goal

pub returns-then-reply-eq0 : goal.returns-then-reply-eq0
unfolding is_broken
returns-then-reply-eq0 c =
    rw (eq-eqb c.args.reply.number 0 (omega arith))

pub returns : goal.returns
unfolding is_broken
returns c =
    rw (ne_eqb c.args.reply.number 0 (λ h. omega arith))
