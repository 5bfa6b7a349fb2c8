-- `call_position::test_base` meets its contract.

use mathlib.Core.Path.{sym, ◌∙◌}
use borrow.Author.Tests.{eq-eqb, ne_eqb}
use Rattle.model.specs.Variables.{base}
use Rattle.netlist.specs.NetOf.{alone}
use Rattle.call_position.specs.Positions.{test_base}
use Rattle.call_position.proofs.test_base.Goals as goal

pub returns-then-position-frame_base : goal.returns-then-position-frame_base
unfolding test_base
returns-then-position-frame_base c =
    rw (eq-eqb c.args.position.base (base (alone c.args.net) c.args.position.frame) (c.if-position-frame_base.true ∙ c.frame_base.ensures))

pub returns : goal.returns
unfolding test_base
returns c =
    rw (ne_eqb c.args.position.base (base (alone c.args.net) c.args.position.frame) (λ e. c.if-position-frame_base.false (e ∙ sym c.frame_base.ensures)))
