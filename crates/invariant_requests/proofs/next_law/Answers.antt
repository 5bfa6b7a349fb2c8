-- `invariant_requests::next_law` meets its contract.

use native.Mathlib.Omega.{arith}
use mathlib.Core.Path.{◌∙◌}
use borrow.Author.Tests.{lt-ltb, le-ltb}
use Rattle.netlist.specs.NetOf.{net_of}
use Rattle.invariant_axioms.specs.Laws.{next_law}
use Rattle.invariant_terms.specs.StateBits.{state_count}
use Rattle.invariant_requests.proofs.next_law.Goals as goal

pub bounds-latches-l : goal.bounds-latches-l
unfolding net_of
bounds-latches-l c =
    omega arith

pub returns-then-l-net : goal.returns-then-l-net
unfolding next_law net_of state_count
returns-then-l-net c =
    c.same.ensures ∙ rw (c.bit_term.ensures.0, c.code_term-next.ensures, c.requires.1, lt-ltb c.args.l c.args.net.latches c.if-l-net.true)

pub returns : goal.returns
unfolding next_law net_of state_count
returns c =
    c.no_law.ensures ∙ rw (le-ltb c.args.l c.args.net.latches (omega arith))
