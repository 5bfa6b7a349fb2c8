-- `invariant_requests::circuit_law` meets its contract.

use mathlib.Core.Path.{◌∙◌}
use Rattle.netlist.specs.NetOf.{net_of}
use Rattle.invariant_axioms.specs.Laws.{constant_law, fail_law}
use Rattle.invariant_requests.proofs.circuit_law.Goals as goal

pub returns : goal.returns
unfolding constant_law fail_law net_of
returns c =
    c.pick.ensures
    ∙ rw (
      c.where_true.ensures,
      c.next_law.ensures,
      c.latch_law.ensures,
      c.where_false.ensures,
      c.term-fails.ensures.0,
      c.code_term-p.ensures,
      c.true_term-yes.ensures,
      c.false_term-no.ensures,
      c.requires.1,
    )
