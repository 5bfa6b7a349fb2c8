-- `call_position::answer_literal` meets its contract.

use mir.Syntax.{w32}
use mir.ValLaws.{to_z-of_z}
use Rattle.literals.proofs.Literal.{fits}
use Rattle.call_position.specs.Literals.{with_literal}
use Rattle.call_position.proofs.answer_literal.Goals as goal

pub returns : goal.returns
unfolding with_literal
returns c =
    let z = c.number_of.result in
    rw (to_z-of_z w32 z (fits z c.number_of.ensures.bounded), c.number_of.ensures.number)
