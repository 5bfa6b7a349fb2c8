-- `aiger_lines::read_numbers` meets its contract. The loop's invariant is `Reading`.

use Prim.Native.Nat.{◌-◌}
use lib.ListN.{length}
use Rattle.aiger_lines.proofs.Reading.{Reading}
use Rattle.aiger_lines.proofs.read_numbers.Given as goal

abbrev pub invariant-loop-x : goal.invariant-loop-x
invariant-loop-x l = Reading l.line l.values l.count l.at

abbrev pub decreases-loop-x : goal.decreases-loop-x
decreases-loop-x l = length l.line - l.at
