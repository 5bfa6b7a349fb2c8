-- `program_output::print_counts` meets its contract.

use native.Mathlib.Omega.{arith}
use Rattle.dimacs.proofs.Text.{header_text-most}
use Rattle.program_output.proofs.print_counts.Goals as goal

pub write_header-requires : goal.write_header-requires
write_header-requires c =
    omega (arith, c.requires, header_text-most c.args.variables c.args.clauses c.ranges.variables.fits c.ranges.clauses.fits)

pub returns : goal.returns
returns c =
    let w = c.write_header.ensures in
    (w, omega (arith, w.counted, header_text-most c.args.variables c.args.clauses c.ranges.variables.fits c.ranges.clauses.fits))
