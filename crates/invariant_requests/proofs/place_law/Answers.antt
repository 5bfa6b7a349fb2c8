-- `invariant_requests::place_law` meets its contract: a number's parts say whether it ends a clause, and which term it is behind the step.

use mathlib.Core.Path.{◌≡◌, sym, ap, ◌∙◌}
use native.Mathlib.Omega.{arith}
use Rattle.decimal.proofs.Signed.{read_back}
use Rattle.text_writer.specs.declared.Parts.{Parts}
use Rattle.text_writer.specs.Signed.{parts_of}
use Rattle.invariant_axioms.specs.Laws.{place_law}
use Rattle.invariant_axioms.proofs.Parts.{ends, goes_on, sign-most}
use Rattle.invariant_requests.proofs.place_law.Goals as goal

pub returns-then-parts-eq0 : goal.returns-then-parts-eq0
unfolding place_law
returns-then-parts-eq0 c =
    let is : c.parts_of-parts.result ≡ parts_of c.args.z = rw (read_back c.args.z c.ranges.z) at c.parts_of-parts.ensures in
    c.pick.ensures
    ∙ rw (
      c.no_law-then-parts-eq0.ensures,
      c.no_law.ensures,
      c.same-then-parts-eq0.ensures,
      c.same.ensures,
      c.true_term.ensures,
      c.term-next_none.ensures.0,
      c.term-found.ensures.0,
      c.term-none.ensures.0,
      ends c.args.z (sym (ap (λ (p : Parts). p.value) is) ∙ c.if-parts-eq0.true),
    )

pub overflow_add-after : goal.overflow_add-after
overflow_add-after c =
    let is : c.parts_of-parts.result ≡ parts_of c.args.z = rw (read_back c.args.z c.ranges.z) at c.parts_of-parts.ensures in
    record { fits = omega (arith, c.bit_term.ensures.1, ap (λ (p : Parts). p.sign) is, sign-most c.args.z) }

pub returns : goal.returns
unfolding place_law
returns c =
    let is : c.parts_of-parts.result ≡ parts_of c.args.z = rw (read_back c.args.z c.ranges.z) at c.parts_of-parts.ensures in
    c.pick-2.ensures
    ∙ rw (
      c.no_law-2.ensures,
      c.same-2.ensures,
      c.where_false.ensures,
      c.where_true.ensures,
      c.bit_term.ensures.0,
      is,
      c.term-next_found.ensures.0,
      c.term-next_none.ensures.0,
      c.term-found.ensures.0,
      c.term-none.ensures.0,
      goes_on c.args.z (λ e. c.if-parts-eq0.false (ap (λ (p : Parts). p.value) is ∙ e)),
    )
