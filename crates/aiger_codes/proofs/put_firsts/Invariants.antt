-- `aiger_codes::put_firsts` meets its contract. The loop's invariant: x lines are read, and their first numbers are in the table.

use Prim.Native.Nat.{◌+◌}
use Rattle.aiger_lines.specs.Steps.{Behind}
use Rattle.aiger_codes.specs.Filling.{firsts_behind, entry_of, put_from, TableFilled}
use Rattle.aiger_codes.proofs.put_firsts.Given as goal

abbrev pub invariant-loop-x : goal.invariant-loop-x
invariant-loop-x l =
    Behind l.text (l.line + l.x) l.next ×
    TableFilled 661 (put_from l.first l.x (firsts_behind l.text l.line) (entry_of l.initial.table)) l.table
