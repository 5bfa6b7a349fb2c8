-- `dimacs::number_fits` meets its contract: no number has more than eleven bytes.

use mathlib.Core.Path.{sym}
use native.Mathlib.Omega.{arith}
use borrow.Author.Tests.{le-leb}
use lib.ListN.{length}
use Rattle.decimal.specs.Digits.{signed_digits}
use Rattle.decimal.proofs.Signed.{length-signed_digits}
use Rattle.dimacs.proofs.number_fits.Goals as goal

pub returns-then-room-ge11 : goal.returns-then-room-ge11
returns-then-room-ge11 c =
    sym (le-leb (length (signed_digits c.args.z)) c.args.room (omega (arith, length-signed_digits c.args.z c.ranges.z)))
