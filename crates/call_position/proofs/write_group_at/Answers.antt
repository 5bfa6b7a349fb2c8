-- `call_position::write_group_at` meets its contract.

use Rattle.call_position.proofs.write_group_at.Goals as goal

pub returns : goal.returns
returns c = record { answer = rw (c.count_numbers.ensures, c.group_at.ensures.answer, c.group_of.ensures); borrowed = rw c.group_of.ensures at c.group_at.ensures.borrowed }
