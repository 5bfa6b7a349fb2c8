-- `netlist_tests::test_ties` meets its contract: where the first port has no tie, a second port decides.

use mathlib.Core.Path.{sym}
use native.Mathlib.Nat.{add-zero}
use native.Mathlib.Omega.{arith}
use borrow.Author.Tests.{lt-ltb, le-ltb}
use Rattle.std.proofs.lemmas.Result.{err_from_is_err_and}
use Rattle.refusals.specs.Tests.{◌then◌}
use Rattle.netlist.specs.NetOf.{net_of, alone}
use Rattle.netlist_tests.proofs.Ties.{ties-by-ports}
use Rattle.netlist_tests.proofs.test_ties.Goals as goal

pub overflow_add-line : goal.overflow_add-line
unfolding net_of
overflow_add-line c = omega (arith, c.requires)

pub overflow_add-line-2 : goal.overflow_add-line-2
unfolding net_of
overflow_add-line-2 c = omega (arith, c.requires)

pub test_address-requires : goal.test_address-requires
unfolding net_of
test_address-requires c = (omega (arith, c.requires), omega (arith, c.requires))

pub returns-in_err-test_address : goal.returns-in_err-test_address
unfolding net_of ◌then◌
returns-in_err-test_address c =
    let p = err_from_is_err_and c.from_residual.result c.from_residual.ensures.1 in
    rw (p.1, p.2, ties-by-ports (alone c.args.net), add-zero, sym c.in_err-test_address.ensures)

pub overflow_add-line-then-net-gt0 : goal.overflow_add-line-then-net-gt0
unfolding net_of
overflow_add-line-then-net-gt0 c = omega (arith, c.requires)

pub overflow_add-line-then-net-gt0-2 : goal.overflow_add-line-then-net-gt0-2
unfolding net_of
overflow_add-line-then-net-gt0-2 c = omega (arith, c.requires)

pub test_address-requires-then-net-gt0 : goal.test_address-requires-then-net-gt0
unfolding net_of
test_address-requires-then-net-gt0 c =
    let fit = c.requires in
    (omega (arith, fit), omega (arith, fit))

pub returns-then-net-gt0 : goal.returns-then-net-gt0
unfolding net_of ◌then◌
returns-then-net-gt0 c =
    rw (
      ties-by-ports (alone c.args.net),
      add-zero,
      sym c.in_ok-test_address.ensures,
      lt-ltb _ _ c.if-net-gt0.true,
    )
    (rw add-zero c.test_address-then-net-gt0.ensures)

pub returns : goal.returns
unfolding net_of ◌then◌
returns c =
    rw (
      ties-by-ports (alone c.args.net),
      add-zero,
      sym c.in_ok-test_address.ensures,
      le-ltb _ _ c.if-net-gt0.false,
    )
