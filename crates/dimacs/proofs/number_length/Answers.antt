-- `dimacs::number_length` meets its contract: sign and digits, at most eleven bytes.

use Prim.Native.Nat.{ℕ, ◌+◌}
use mathlib.Core.Path.{◌≡◌, ap, ◌∙◌}
use native.Mathlib.Omega.{arith}
use lib.ListN.{length}
use Rattle.decimal.specs.Digits.{digits, signed_digits}
use Rattle.decimal.proofs.Signed.{read_back, length-signed_digits}
use Rattle.text_writer.specs.Signed.{parts_of}
use Rattle.text_writer.specs.declared.Parts.{Parts}
use Rattle.text_writer.proofs.Signed.{length-parts}
use Rattle.dimacs.proofs.number_length.Goals as goal
use Rattle.dimacs.proofs.number_length.Goals.{After-digit_count}

-- sign and digits are the number
counted : (c : After-digit_count) → c.parts_of-parts.result.sign + c.digit_count.result ≡ length (signed_digits c.args.z)
counted c =
    let z = c.args.z in
    let parts_are : c.parts_of-parts.result ≡ parts_of z = c.parts_of-parts.ensures ∙ ap parts_of (read_back z c.ranges.z) in
    ap (λ (n : ℕ). c.parts_of-parts.result.sign + n) c.digit_count.ensures ∙ ap (λ (p : Parts). p.sign + length (digits p.value)) parts_are ∙ rw (length-parts z)

pub overflow_add-result : goal.overflow_add-result
overflow_add-result c =
    omega (arith, counted (goal.at.overflow_add-result c).After-digit_count, length-signed_digits c.args.z c.ranges.z)

pub returns : goal.returns
returns c =
    omega (arith, counted (goal.at.returns c).After-digit_count, length-signed_digits c.args.z c.ranges.z)
