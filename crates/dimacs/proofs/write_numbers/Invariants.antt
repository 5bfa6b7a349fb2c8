-- `dimacs::write_numbers` meets its contract. The loop's invariant: the text of the first numbers is written.

use lib.ListN.{take}
use Rattle.model.specs.Wrote.{Wrote}
use Rattle.dimacs.specs.Text.{clause_text}
use Rattle.dimacs.proofs.write_numbers.Given as goal

abbrev pub invariant-loop-z : goal.invariant-loop-z
invariant-loop-z l = Wrote (clause_text (take l.z-index l.numbers)) l.initial.out l.out l.at
