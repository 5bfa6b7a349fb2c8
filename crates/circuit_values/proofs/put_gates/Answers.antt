-- `circuit_values::put_gates` meets its contract. The loop's invariant: the table has every wire before gate g.

use mathlib.Core.Path.{◌≡◌}
use mathlib.Core.List.{[]}
use native.Mathlib.Omega.{arith}
use Rattle.netlist.specs.NetOf.{net_of}
use Rattle.netlist.proofs.NetOf.{sizes-lists}
use Rattle.circuit_values.proofs.WireTable.{below-fewer, worked-none, worked-next}
use Rattle.circuit_values.proofs.put_gates.Goals as goal

pub first_gate_wire-requires : goal.first_gate_wire-requires
first_gate_wire-requires c = sizes-lists c.args.net [] c.args.gates.now [] [] c.requires.sizes

pub loop-g-init : goal.loop-g-init
unfolding net_of
loop-g-init c = worked-none _ _

pub bounds-gates-g : goal.bounds-gates-g
unfolding net_of
bounds-gates-g c = omega (arith, c.requires.sizes)

pub code_value-left-requires : goal.code_value-left-requires
unfolding net_of
code_value-left-requires c = omega (arith, c.requires.sizes, c.requires.codes.left-fits c.loop-g.g (omega arith))

pub bounds-gates-g-in-loop-g : goal.bounds-gates-g-in-loop-g
unfolding net_of
bounds-gates-g-in-loop-g c = omega (arith, c.requires.sizes)

pub code_value-right-requires : goal.code_value-right-requires
unfolding net_of
code_value-right-requires c = omega (arith, c.requires.sizes, c.requires.codes.right-fits c.loop-g.g (omega arith))

pub bounds-values-first : goal.bounds-values-first
unfolding net_of
bounds-values-first c = omega (arith, c.requires.sizes, c.index-first.ensures, c.first_gate_wire.ensures)

pub loop-g-preserved : goal.loop-g-preserved
unfolding net_of
loop-g-preserved c =
    worked-next c.requires (omega arith) c.loop-g.invariant
    (omega (arith, c.index-first.ensures, c.first_gate_wire.ensures)) c.code_value-left.ensures c.code_value-right.ensures

pub returns : goal.returns
unfolding net_of
returns c =
    λ v gates q.
    let all : c.loop-g.g ≡ c.args.net.gates = omega arith in
    below-fewer (omega arith) (c.loop-g.invariant v gates q)
