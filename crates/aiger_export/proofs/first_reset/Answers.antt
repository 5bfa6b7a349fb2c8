-- `aiger_export::first_reset` meets its contract. The loop's invariant: none of the first l latches has reset 1.

use mathlib.Core.Path.{◌≡◌}
use native.Mathlib.Omega.{arith}
use lib.Dec.{eqb}
use borrow.Author.Tests.{eq-eqb}
use Rattle.model.proofs.Search.{first_where-is, first-unique}
use Rattle.netlist.specs.NetOf.{second_at}
use Rattle.aiger_export.proofs.first_reset.Goals as goal

pub returns-then-latches-at-eq1 : goal.returns-then-latches-at-eq1
returns-then-latches-at-eq1 c =
    first-unique
    (record { within = omega arith; none_before = c.loop-l.invariant; holds-there = λ l. eq-eqb _ 1 c.if-latches-at-eq1.true })
    (first_where-is (λ l. eqb (second_at c.args.latches.now l) 1) c.args.count)

pub returns : goal.returns
returns c =
    let all : c.loop-l.l ≡ c.args.count = omega arith in
    first-unique
    (record { within = omega arith; none_before = rw all at c.loop-l.invariant; holds-there = λ l. absurd (omega arith) })
    (first_where-is (λ l. eqb (second_at c.args.latches.now l) 1) c.args.count)
