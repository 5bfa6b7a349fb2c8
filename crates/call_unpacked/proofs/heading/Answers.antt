-- `call_unpacked::heading` meets its contract: each answer is that of the first test that refuses.

use Prim.Native.Nat.{◌+◌, ◌≤◌}
use mathlib.Core.Path.{sym, ◌∙◌}
use native.Mathlib.Omega.{arith}
use borrow.Author.Rules.{rules}
use mathlib.Core.List.{[]}
use Rattle.std.proofs.lemmas.Result.{err_from_is_err_and}
use Rattle.model.specs.Acceptance.{Accepted}
use Rattle.netlist.specs.NetOf.{net_of}
use Rattle.netlist.proofs.NetOf.{sizes-lists, base-lists}
use Rattle.call_unpacked.specs.Calls.{heading_reply, with_heading, heading_verdict, heading_sent}
use Rattle.call_unpacked.proofs.Calls.{depth-shown}
use Rattle.call_unpacked.proofs.heading.Goals as goal
use Rattle.call_unpacked.proofs.heading.Goals.{In_ok-test_depth}

pub returns-in_err-test_depth : goal.returns-in_err-test_depth
unfolding heading_reply with_heading heading_sent heading_verdict
returns-in_err-test_depth c =
    let p = err_from_is_err_and c.from_residual.result c.from_residual.ensures.1 in
    rw (p.1, p.2, sym c.in_err-test_depth.ensures)

-- what the tests have shown
shown : (c : In_ok-test_depth) →
    Accepted (net_of c.args.net c.args.latches.now c.args.gates.now) × (c.args.depth ≤ 255)
shown c = depth-shown _ _ _ _ (sym c.in_ok-test_depth.ensures)

pub overflow_add-depth : goal.overflow_add-depth
overflow_add-depth c = let most = (shown c).1 in search rules

pub frame_base-variables-requires : goal.frame_base-variables-requires
frame_base-variables-requires c = (sizes-lists _ _ _ [] [] (shown c).0.limits.sizes, omega (arith, (shown c).1))

pub clause_count-requires : goal.clause_count-requires
clause_count-requires c = shown (goal.at.clause_count-requires c).In_ok-test_depth

pub returns : goal.returns
unfolding heading_reply with_heading heading_sent heading_verdict
returns c =
    rw (sym c.in_ok-test_depth.ensures, c.frame_base-variables.ensures ∙ base-lists c.args.net c.args.latches.now c.args.gates.now (c.args.depth + 1), c.clause_count.ensures)
