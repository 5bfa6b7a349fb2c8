-- `aiger_lines::find` meets its contract. The loop's invariant: the byte stands as far behind i as is still to be found.

use Prim.Native.Nat.{◌+◌}
use mathlib.Core.Path.{◌≡◌}
use lib.ListN.{drop}
use Rattle.aiger_lines.specs.Steps.{span_to}
use Rattle.aiger_lines.proofs.find.Given as goal

abbrev pub invariant-loop-i : goal.invariant-loop-i
invariant-loop-i l = l.i + span_to l.end (drop l.i l.text) ≡ l.at + span_to l.end (drop l.at l.text)
