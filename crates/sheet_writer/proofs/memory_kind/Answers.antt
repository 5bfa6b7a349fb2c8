-- `sheet_writer::memory_kind` meets its contract.

use borrow.Author.Tests.{eq-eqb, ne_eqb}
use Rattle.sheet_writer.proofs.memory_kind.Goals as goal

pub returns-then-second_port-eq0 : goal.returns-then-second_port-eq0
returns-then-second_port-eq0 c = rw (eq-eqb c.args.second_port 0 c.if-second_port-eq0.true)

pub returns : goal.returns
returns c = rw (ne_eqb c.args.second_port 0 c.if-second_port-eq0.false)
