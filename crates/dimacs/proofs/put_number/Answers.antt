-- `dimacs::put_number` meets its contract: `number_fits` tests the exact length.

use mathlib.Core.Path.{sym, ◌∙◌}
use borrow.Author.Tests.{leb-true, leb-false}
use lib.IntN.{ℤ}
use lib.ListN.{length}
use Rattle.decimal.specs.Digits.{signed_digits}
use Rattle.decimal.proofs.Signed.{read_back}
use Rattle.dimacs.proofs.Text.{number-printed}
use Rattle.dimacs.proofs.PrintCalls.{filled, not-filled}
use Rattle.dimacs.proofs.put_number.Goals as goal

pub returns-then-number_fits : goal.returns-then-number_fits
returns-then-number_fits c =
    let z : ℤ = c.args.z in
    let e = read_back z c.ranges.z in
    let fits = sym c.number_fits.ensures ∙ c.if-number_fits.true in
    let put = filled (signed_digits z) c.args.out.now c.fill_number.new.out c.fill_number.result
    (leb-true (length (signed_digits z)) (length c.args.out.now) (rw e at fits)) (rw e at c.fill_number.ensures) in
    record { answer = put.answer; borrowed = put.borrowed; printed = number-printed }

pub returns : goal.returns
returns c =
    let z : ℤ = c.args.z in
    let short = sym c.number_fits.ensures ∙ c.if-number_fits.false in
    let kept = not-filled (signed_digits z) c.args.out.now
    (leb-false (length (signed_digits z)) (length c.args.out.now) (rw (read_back z c.ranges.z) at short)) in
    record { answer = kept.answer; borrowed = kept.borrowed; printed = number-printed }
