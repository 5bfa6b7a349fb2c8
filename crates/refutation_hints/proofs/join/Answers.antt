-- `refutation_hints::join` meets its contract.

use mathlib.Core.Path.{sym}
use native.Mathlib.Omega.{arith}
use borrow.Author.Tests.{eq-eqb, ne_eqb}
use Rattle.refutation_hints.proofs.Marks.{zero-joined_code, joined_code-zero, joined_code-same, joined_code-other}
use Rattle.refutation_hints.proofs.join.Goals as goal

pub returns-then-mark-turn : goal.returns-then-mark-turn
returns-then-mark-turn c = rw (eq-eqb c.args.mark c.args.turn c.if-mark-turn.true) (sym (joined_code-zero c.args.outcome))

pub returns-then-outcome-eq0 : goal.returns-then-outcome-eq0
returns-then-outcome-eq0 c =
    rw (ne_eqb c.args.mark c.args.turn c.if-mark-turn.false, c.if-outcome-eq0.true) (sym (zero-joined_code c.args.slot))

pub returns-then-outcome-slot : goal.returns-then-outcome-slot
returns-then-outcome-slot c =
    rw (ne_eqb c.args.mark c.args.turn c.if-mark-turn.false, c.if-outcome-slot.true) (sym (joined_code-same c.args.slot))

pub returns : goal.returns
returns c =
    rw (ne_eqb c.args.mark c.args.turn c.if-mark-turn.false)
    (sym (joined_code-other c.args.outcome c.args.slot c.if-outcome-eq0.false (λ h. omega (arith, h, c.requires)) c.if-outcome-slot.false))
