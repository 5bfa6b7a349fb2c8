-- `circuit_values::of_port` meets its contract.

use borrow.Author.Tests.{eq-eqb, ne_eqb}
use Rattle.circuit_values.proofs.of_port.Goals as goal

pub returns-then-number-eq1 : goal.returns-then-number-eq1
returns-then-number-eq1 c = rw (eq-eqb _ 1 c.if-number-eq1.true)

pub returns : goal.returns
returns c = rw (ne_eqb _ 1 c.if-number-eq1.false)
