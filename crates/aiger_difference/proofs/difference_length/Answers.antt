-- `aiger_difference::difference_length` meets its contract.

use mathlib.Core.Path.{sym, ap}
use native.Mathlib.Omega.{arith}
use lib.ListN.{length}
use Rattle.aiger_difference.proofs.Difference.{bytes-single, zeros-bytes}
use Rattle.aiger_difference.proofs.difference_length.Goals as goal

pub returns-then-x-eq0 : goal.returns-then-x-eq0
returns-then-x-eq0 c = sym (ap length (bytes-single c.args.x (omega arith)))

pub returns : goal.returns
returns c = sym (zeros-bytes c.args.x (omega arith) c.ranges.x.fits)
