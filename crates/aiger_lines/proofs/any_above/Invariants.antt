-- `aiger_lines::any_above` meets its contract. The loop's invariant: the numbers that are left have one above the limit where all have.

use mathlib.Core.Path.{◌≡◌}
use lib.ListN.{drop}
use Rattle.aiger_lines.specs.Parts.{any_above}
use Rattle.aiger_lines.specs.Steps.{numbers_held}
use Rattle.aiger_lines.proofs.any_above.Given as goal

abbrev pub invariant-loop-x : goal.invariant-loop-x
invariant-loop-x l = any_above l.fn.limit (drop l.x-index (numbers_held l.fn.numbers)) ≡ any_above l.fn.limit (numbers_held l.fn.numbers)
