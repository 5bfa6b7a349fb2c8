-- `aiger_tests::has_other_outputs` meets its contract: what is compared is the same less the outputs of one port.

use Prim.Native.Nat.{◌+◌, ◌-◌, ◌*◌, ◌≤◌}
use mathlib.Core.Logic.{by_cases}
use native.Mathlib.Decide.{ℕ_discrete}
use native.Mathlib.Nat.{mul-le-mul_right}
use native.Mathlib.Omega.{arith}
use borrow.Author.Tests.{eq-eqb, ne_eqb}
use Rattle.aiger_graph.specs.RecordAig.{control_output}
use Rattle.aiger_tests.proofs.has_other_outputs.Goals as goal

pub returns-then-found-single : goal.returns-then-found-single
returns-then-found-single c =
    rw (ne_eqb c.args.outputs (control_output c.args.m c.args.n c.args.second_port + 3) (λ e. omega arith))

pub overflow_mul-second : goal.overflow_mul-second
overflow_mul-second c =
    let most : c.args.second_port * (c.args.m + 1) ≤ 4294967295 * (c.args.m + 1) = mul-le-mul_right (c.args.m + 1) (omega arith) in
    omega arith

pub returns : goal.returns
returns c =
    let due = control_output c.args.m c.args.n c.args.second_port + 3 in
    let found = c.args.outputs - (c.args.m + c.args.n + 3) in
    let second = c.args.second_port * (c.args.m + 1) in
    by_cases (ℕ_discrete c.args.outputs due) (λ e. rw (eq-eqb c.args.outputs due e, eq-eqb found second (omega arith)))
    (λ e. rw (ne_eqb c.args.outputs due e, ne_eqb found second (λ k. e (omega arith))))
