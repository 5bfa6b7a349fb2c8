-- `dimacs::put_header` meets its contract: its test is the header's exact length.

use native.Mathlib.Omega.{arith}
use Rattle.decimal.proofs.Digits.{length-digits-ten}
use Rattle.dimacs.specs.Text.{header_text}
use Rattle.dimacs.proofs.Text.{length-header_text}
use Rattle.dimacs.proofs.PrintCalls.{written, not_written}
use Rattle.dimacs.proofs.put_header.Goals as goal

pub overflow_add-digit_count : goal.overflow_add-digit_count
overflow_add-digit_count c =
    omega (arith, c.digit_count.ensures, length-digits-ten c.args.variables c.ranges.variables.fits)

pub overflow_add-digit_count-2 : goal.overflow_add-digit_count-2
overflow_add-digit_count-2 c =
    omega
    (arith, c.digit_count-2.ensures, c.digit_count.ensures, length-digits-ten c.args.variables c.ranges.variables.fits, length-digits-ten c.args.clauses c.ranges.clauses.fits)

pub returns-then-out-digit_count : goal.returns-then-out-digit_count
returns-then-out-digit_count c =
    not_written (header_text c.args.variables c.args.clauses) c.args.out.now
    (omega (arith, length-header_text c.args.variables c.args.clauses))

pub write_header-requires : goal.write_header-requires
write_header-requires c =
    omega (arith, length-header_text c.args.variables c.args.clauses)

pub returns : goal.returns
returns c =
    written (header_text c.args.variables c.args.clauses) c.args.out.now c.write_header.new.out c.write_header.result c.write_header.auto.out c.write_header.ensures
