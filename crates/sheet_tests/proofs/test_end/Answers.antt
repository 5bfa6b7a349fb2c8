-- `sheet_tests::test_end` meets its contract: without line 3 a line is missing in any case.

use mathlib.Core.Path.{sym, ◌∙◌}
use mathlib.Core.List.{[]}
use native.Mathlib.Omega.{arith}
use Rattle.netlist.specs.NetOf.{net_of}
use Rattle.netlist.proofs.NetOf.{sizes-lists}
use Rattle.sheet_tests.proofs.Verdicts.{end-missing, end_whole}
use Rattle.sheet_tests.proofs.test_end.Goals as goal

pub returns-then-count-lt3 : goal.returns-then-count-lt3
returns-then-count-lt3 c =
    sym (end-missing (net_of c.args.net [] c.args.gates.now) c.args.count (omega arith))

pub control_line-requires : goal.control_line-requires
control_line-requires c =
    sizes-lists c.args.net [] c.args.gates.now [] [] (c.requires.1.sizes c.if-count-lt3.false)

pub returns-then-count-control_line : goal.returns-then-count-control_line
unfolding net_of
returns-then-count-control_line c =
    sym (end-missing (net_of c.args.net [] c.args.gates.now) c.args.count (omega (arith, c.control_line.ensures)))

pub test_ports-requires : goal.test_ports-requires
unfolding net_of
test_ports-requires c = c.requires.1.limits (omega (arith, c.control_line.ensures))

pub returns : goal.returns
unfolding net_of
returns c =
    c.test_ports.ensures ∙ sym (end_whole (net_of c.args.net [] c.args.gates.now) c.args.count (omega (arith, c.control_line.ensures)))
