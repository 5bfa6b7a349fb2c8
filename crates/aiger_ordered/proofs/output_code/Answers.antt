-- `aiger_ordered::output_code` meets its contract: the tests put the output among those of its kind.

use Prim.Native.Nat.{◌+◌, ◌*◌}
use mathlib.Core.Path.{◌≡◌}
use native.Mathlib.Nat.{zero-mul}
use native.Mathlib.Omega.{arith}
use borrow.Author.Tests.{lt-ltb, le-ltb, eq-eqb, ne_eqb}
use Rattle.netlist.specs.NetOf.{net_of, code_of}
use Rattle.netlist.specs.declared.Netlist.{Netlist}
use Rattle.aiger_graph.specs.RecordAig.{control_output, output_of}
use Rattle.aiger_ordered.proofs.output_code.Goals as goal

-- the outputs of a second port are none
none : (net : Netlist) → net.second_port ≡ 0 → net.second_port * (net.m + 1) ≡ 0
none net single = rw single (zero-mul (net.m + 1))

pub overflow_add-control : goal.overflow_add-control
unfolding net_of
overflow_add-control c = omega arith

pub bounds-net-at : goal.bounds-net-at
unfolding net_of
bounds-net-at c = omega arith

pub returns-then-output-data : goal.returns-then-output-data
unfolding net_of code_of output_of
returns-then-output-data c = rw (lt-ltb c.args.output c.args.net.m (omega arith))

pub bounds-net-at-then-output-control : goal.bounds-net-at-then-output-control
unfolding net_of
bounds-net-at-then-output-control c = omega arith

pub returns-then-output-control : goal.returns-then-output-control
unfolding net_of code_of output_of
returns-then-output-control c = rw (le-ltb c.args.output c.args.net.m (omega arith), lt-ltb c.args.output (c.args.net.m + c.args.net.n) (omega arith))

pub returns-then-output-control-2 : goal.returns-then-output-control-2
unfolding net_of code_of output_of
returns-then-output-control-2 c =
    let control = control_output c.args.net.m c.args.net.n c.args.net.second_port in
    let single = none c.args.net c.requires.2 in
    rw (
      le-ltb c.args.output c.args.net.m (omega arith),
      le-ltb c.args.output (c.args.net.m + c.args.net.n) (omega arith),
      le-ltb c.args.output control (omega (arith, single)),
      eq-eqb c.args.output control (omega (arith, single)),
    )

pub returns-then-output-control-3 : goal.returns-then-output-control-3
unfolding net_of code_of output_of
returns-then-output-control-3 c =
    let control = control_output c.args.net.m c.args.net.n c.args.net.second_port in
    let single = none c.args.net c.requires.2 in
    rw (
      le-ltb c.args.output c.args.net.m (omega arith),
      le-ltb c.args.output (c.args.net.m + c.args.net.n) (omega arith),
      le-ltb c.args.output control (omega (arith, single)),
      ne_eqb c.args.output control (λ e. omega (arith, single)),
      eq-eqb c.args.output (control + 1) (omega (arith, single)),
    )

pub returns : goal.returns
unfolding net_of code_of output_of
returns c =
    let control = control_output c.args.net.m c.args.net.n c.args.net.second_port in
    let single = none c.args.net c.requires.2 in
    rw (
      le-ltb c.args.output c.args.net.m (omega arith),
      le-ltb c.args.output (c.args.net.m + c.args.net.n) (omega arith),
      le-ltb c.args.output control (omega (arith, single)),
      ne_eqb c.args.output control (λ e. omega (arith, single)),
      ne_eqb c.args.output (control + 1) (λ e. omega (arith, single)),
    )
