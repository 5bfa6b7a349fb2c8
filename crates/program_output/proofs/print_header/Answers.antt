-- `program_output::print_header` meets its contract: the two counts are the definition's.

use Prim.Native.Nat.{◌+◌}
use mathlib.Core.Path.{◌∙◌}
use mathlib.Core.List.{[]}
use native.Mathlib.Omega.{arith}
use Rattle.netlist.proofs.NetOf.{sizes-lists, base-lists}
use Rattle.program_output.specs.Printed.{formula_header}
use Rattle.program_output.proofs.print_header.Goals as goal

pub frame_base-variables-requires : goal.frame_base-variables-requires
frame_base-variables-requires c =
    let p = c.requires in (sizes-lists _ _ _ [] [] p.0.limits.sizes, omega (arith, p.1))

pub returns : goal.returns
unfolding formula_header
returns c =
    let counted = c.clause_count-clauses.ensures in
    let based = c.frame_base-variables.ensures ∙ base-lists c.args.net c.args.latches.now c.args.gates.now (c.args.depth + 1) in
    rw (based, counted) at c.print_counts.ensures
