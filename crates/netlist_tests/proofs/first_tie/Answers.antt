-- `netlist_tests::first_tie` meets its contract. The loop's invariant: none of the first t codes is tied.

use mathlib.Core.Path.{◌≡◌, sym, ◌∙◌}
use native.Mathlib.Omega.{arith}
use Rattle.model.proofs.Search.{first_where-is, first-unique}
use Rattle.netlist.specs.NetOf.{code_of}
use Rattle.netlist.specs.Faults.{is_tied}
use Rattle.netlist_tests.proofs.first_tie.Goals as goal

pub returns-then-is_tied : goal.returns-then-is_tied
returns-then-is_tied c =
    first-unique
    (record {
      within = omega arith;
      none_before = c.loop-t.invariant;
      holds-there = λ l. sym c.is_tied.ensures ∙ c.if-is_tied.true;
    })
    (first_where-is (is_tied (code_of c.args.address)) c.args.m)

pub returns : goal.returns
returns c =
    let all : c.loop-t.t ≡ c.args.m = omega arith in
    first-unique
    (record { within = omega arith; none_before = rw all at c.loop-t.invariant; holds-there = λ l. absurd (omega arith) })
    (first_where-is (is_tied (code_of c.args.address)) c.args.m)
