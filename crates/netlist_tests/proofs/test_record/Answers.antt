-- `netlist_tests::test_record` meets its contract: each test is passed on where it refuses, and what it passes the next one may assume.

use mathlib.Core.Path.{◌≡◌, sym, ◌∙◌}
use mathlib.Core.List.{[]}
use Rattle.std.proofs.lemmas.Result.{err_from_is_err_and}
use Rattle.refusals.specs.Verdict.{Passed}
use Rattle.refusals.specs.Tests.{◌then◌}
use Rattle.refusals.specs.declared.Refusal.TheVariants.{Size, CodeOutside}
use Rattle.model.specs.Acceptance.{SizesFit}
use Rattle.netlist.specs.NetOf.{net_of, alone}
use Rattle.netlist.specs.Faults.{size_fault, code_fault}
use Rattle.netlist_tests.specs.Record.{test_lines, record_verdict}
use Rattle.netlist.proofs.NetOf.{sizes-lists, limits-without-latches}
use Rattle.netlist.proofs.Faults.{sizes-fit, codes-fit}
use Rattle.netlist_tests.proofs.Lists.{test-sizes-lists, test-ports-latches}
use Rattle.netlist_tests.proofs.Record.{test_lines-passes}
use Rattle.netlist_tests.proofs.test_record.Goals as goal
use Rattle.netlist_tests.proofs.test_record.Goals.{In_ok-test_sizes}

-- what the test of sizes says of the record with its lists
sizes : (c : In_ok-test_sizes)
    → test_lines (net_of c.args.net c.args.latches.now c.args.gates.now) Size size_fault ≡ Passed
sizes c = sym (test-sizes-lists c.args.net c.args.latches.now c.args.gates.now) ∙ sym c.in_ok-test_sizes.ensures

-- sizes that the test passes are within their limits
sizes-passed : (c : In_ok-test_sizes) → SizesFit (alone c.args.net)
sizes-passed c =
    sizes-lists c.args.net c.args.latches.now c.args.gates.now [] [] ((sizes-fit _).0 ((test_lines-passes _ Size size_fault).0 (sizes c)))

pub test_sizes-requires : goal.test_sizes-requires
test_sizes-requires c = tt

pub returns-in_err-test_sizes : goal.returns-in_err-test_sizes
unfolding record_verdict ◌then◌
returns-in_err-test_sizes c =
    let p = err_from_is_err_and c.from_residual.result c.from_residual.ensures.1 in
    rw (p.1, p.2, sym (test-sizes-lists c.args.net c.args.latches.now c.args.gates.now) ∙ sym c.in_err-test_sizes.ensures)

pub returns-then-latch_count-net : goal.returns-then-latch_count-net
unfolding net_of record_verdict ◌then◌
returns-then-latch_count-net c = rw (sizes (goal.at.returns-then-latch_count-net c).In_ok-test_sizes, c.if-latch_count-net.true)

pub test_codes-requires : goal.test_codes-requires
test_codes-requires c = sizes-passed (goal.at.test_codes-requires c).In_ok-test_sizes

pub returns-in_err-test_codes : goal.returns-in_err-test_codes
unfolding net_of record_verdict ◌then◌
returns-in_err-test_codes c =
    let p = err_from_is_err_and c.from_residual-in_err-test_codes.result c.from_residual-in_err-test_codes.ensures.1 in
    rw (p.1, p.2, sizes (goal.at.returns-in_err-test_codes c).In_ok-test_sizes, c.if-latch_count-net.false, sym c.in_err-test_codes.ensures)

pub test_ports-requires : goal.test_ports-requires
test_ports-requires c =
    limits-without-latches c.args.net c.args.latches.now c.args.gates.now
    (record {
      sizes = sizes-lists c.args.net [] [] c.args.latches.now c.args.gates.now (sizes-passed (goal.at.test_ports-requires c).In_ok-test_sizes);
      codes = (codes-fit _).0 ((test_lines-passes _ CodeOutside code_fault).0 (sym c.in_ok-test_codes.ensures));
    })

pub returns : goal.returns
unfolding net_of record_verdict ◌then◌
returns c =
    rw (sizes (goal.at.returns c).In_ok-test_sizes, c.if-latch_count-net.false, sym c.in_ok-test_codes.ensures)
    (c.test_ports.ensures ∙ test-ports-latches c.args.net c.args.latches.now c.args.gates.now)
