-- `invariant_start::number_starts` meets its contract.

use mathlib.Core.Path.{◌≡◌, sym, ap, ◌∙◌}
use Rattle.decimal.proofs.Signed.{read_back}
use Rattle.text_writer.specs.Signed.{parts_of}
use Rattle.text_writer.specs.declared.Parts.{Parts}
use Rattle.invariant_start.proofs.Numbers.{number-zero, number-parts}
use Rattle.invariant_start.proofs.number_starts.Goals as goal

pub returns-then-parts-eq0 : goal.returns-then-parts-eq0
returns-then-parts-eq0 c =
    let is : c.parts_of-parts.result ≡ parts_of c.args.z = rw (read_back c.args.z c.ranges.z) at c.parts_of-parts.ensures in
    let value = ap (λ (p : Parts). p.value) is in
    c.bit_starts.ensures ∙ number-zero _ c.args.z (sym value ∙ c.if-parts-eq0.true)

pub returns : goal.returns
returns c =
    let is : c.parts_of-parts.result ≡ parts_of c.args.z = rw (read_back c.args.z c.ranges.z) at c.parts_of-parts.ensures in
    let value = ap (λ (p : Parts). p.value) is in
    c.bit_starts-2.ensures ∙ rw is (number-parts _ c.args.z)
