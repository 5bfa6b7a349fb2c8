-- `netlist_tests::depends_on_read` meets its contract. The loop's invariant: the table has the sweep over the first g gates.

use Prim.Native.Nat.{◌+◌, ◌/◌, ◌<◌}
use mathlib.Core.Path.{◌≡◌, refl, ap}
use mathlib.Core.List.{[]}
use native.Mathlib.Omega.{arith}
use Rattle.model.specs.Netlist.{gate_wire}
use Rattle.model.specs.Circuit.{sweep, is_read, either_wire, depends_on_read}
use Rattle.netlist.specs.NetOf.{net_of}
use Rattle.netlist.proofs.NetOf.{sizes-lists}
use Rattle.netlist_tests.proofs.Dependence.{table-set, table_same, sweep-next}
use Rattle.netlist_tests.proofs.depends_on_read.Goals as goal

pub read_bits-flags-requires : goal.read_bits-flags-requires
read_bits-flags-requires c = sizes-lists c.args.net [] c.args.gates.now [] [] c.requires.sizes

pub first_gate_wire-requires : goal.first_gate_wire-requires
first_gate_wire-requires c = sizes-lists c.args.net [] c.args.gates.now [] [] c.requires.sizes

pub loop-g-init : goal.loop-g-init
unfolding net_of sweep is_read
loop-g-init c = table_same (λ w. refl) c.read_bits-flags.ensures

pub bounds-gates-g : goal.bounds-gates-g
unfolding net_of
bounds-gates-g c = omega (arith, c.requires.sizes)

pub bounds-gates-g-in-loop-g : goal.bounds-gates-g-in-loop-g
unfolding net_of
bounds-gates-g-in-loop-g c = omega (arith, c.requires.sizes)

pub bounds-flags-left : goal.bounds-flags-left
unfolding net_of
bounds-flags-left c = omega (arith, c.wire_index-left.ensures, c.requires.codes.left-fits c.loop-g.g (omega arith), c.requires.sizes)

pub bounds-flags-right : goal.bounds-flags-right
unfolding net_of
bounds-flags-right c = omega (arith, c.wire_index-right.ensures, c.requires.codes.right-fits c.loop-g.g (omega arith), c.requires.sizes)

pub bounds-flags-first : goal.bounds-flags-first
unfolding net_of
bounds-flags-first c = omega (arith, c.index-first.ensures, c.first_gate_wire.ensures, c.requires.sizes)

pub loop-g-preserved : goal.loop-g-preserved
unfolding net_of either_wire
loop-g-preserved c =
    let d = net_of c.args.net [] c.args.gates.now in
    let g = c.loop-g.g in
    let q = c.loop-g.invariant in
    let own : c.index-first.result + g ≡ gate_wire d g = omega (arith, c.index-first.ensures, c.first_gate_wire.ensures) in
    let left : d.left g / 2 < 601 = omega (arith, c.requires.codes.left-fits g (omega arith), c.requires.sizes) in
    let right : d.right g / 2 < 601 = omega (arith, c.requires.codes.right-fits g (omega arith), c.requires.sizes) in
    rw (own, c.wire_index-left.ensures, c.wire_index-right.ensures, q.has (d.left g / 2) left, q.has (d.right g / 2) right)
    (table_same (sweep-next either_wire d (is_read d) g) (table-set q (gate_wire d g) (omega (arith, c.requires.sizes)) (either_wire (sweep either_wire d (is_read d) g) (d.left g) (d.right g))))

pub returns : goal.returns
unfolding net_of depends_on_read
returns c =
    let d = net_of c.args.net [] c.args.gates.now in
    let all : c.loop-g.g ≡ c.args.net.gates = omega arith in
    table_same (λ w. ap (λ k. sweep either_wire d (is_read d) k w) all) c.loop-g.invariant
