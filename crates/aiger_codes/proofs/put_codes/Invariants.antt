-- `aiger_codes::put_codes` meets its contract. The loop's invariant: x lines are read, and their codes are in the list.

use Prim.Native.Nat.{◌+◌}
use Rattle.aiger_lines.specs.Steps.{Behind}
use Rattle.aiger_codes.specs.Filling.{codes_behind, ListFilled}
use Rattle.aiger_codes.proofs.put_codes.Given as goal

abbrev pub invariant-loop-x : goal.invariant-loop-x
invariant-loop-x l =
    Behind l.text (l.line + l.x) l.next × ListFilled l.x (codes_behind l.text l.line l.table 1) (codes_behind l.text l.line l.table 2) l.list
