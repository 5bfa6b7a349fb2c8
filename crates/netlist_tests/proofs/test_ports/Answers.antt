-- `netlist_tests::test_ports` meets its contract: where the test for ties passes, that for memory loops decides.

use mathlib.Core.Path.{sym, ◌∙◌}
use mathlib.Core.List.{[]}
use Rattle.std.proofs.lemmas.Result.{err_from_is_err_and}
use Rattle.refusals.specs.Tests.{◌then◌}
use Rattle.netlist.proofs.NetOf.{sizes-lists}
use Rattle.netlist_tests.proofs.Lists.{test-ties-lists}
use Rattle.netlist_tests.proofs.test_ports.Goals as goal

pub test_ties-requires : goal.test_ties-requires
test_ties-requires c = sizes-lists c.args.net [] c.args.gates.now [] [] c.requires.sizes

pub returns-in_err-test_ties : goal.returns-in_err-test_ties
unfolding ◌then◌
returns-in_err-test_ties c =
    let p = err_from_is_err_and c.from_residual.result c.from_residual.ensures.1 in
    rw (p.1, p.2, sym (test-ties-lists c.args.net [] c.args.gates.now) ∙ sym c.in_err-test_ties.ensures)

pub returns : goal.returns
unfolding ◌then◌
returns c = rw (sym (test-ties-lists c.args.net [] c.args.gates.now) ∙ sym c.in_ok-test_ties.ensures) c.test_loops.ensures
