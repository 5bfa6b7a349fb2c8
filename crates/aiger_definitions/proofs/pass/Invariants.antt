-- `aiger_definitions::pass` meets its contract. The loop's invariant: the lines passed were looked at, and the next begins at `at`.

use mathlib.Core.Path.{◌≡◌}
use Rattle.aiger_lines.specs.Parts.{counts_in}
use Rattle.aiger_lines.specs.Steps.{Behind}
use Rattle.aiger_definitions.proofs.Passes.{Passed}
use Rattle.aiger_definitions.proofs.pass.Given as goal

abbrev pub invariant-loop-line : goal.invariant-loop-line
invariant-loop-line l =
    Passed l.look l.text l.lines l.base l.line l.marks l.found × Behind l.text l.line l.at × (l.counts ≡ counts_in l.text)
