-- `circuit_values::evaluate` meets its contract: the table grows by inputs, latches, read bits and gates, all of one solution.

use Prim.Native.Nat.{◌+◌}
use mathlib.Core.Path.{◌≡◌, sym, ◌∙◌, ap}
use mathlib.Core.List.{[]}
use native.Mathlib.Omega.{arith}
use Rattle.model.specs.Bits.{bit}
use Rattle.model.specs.Netlist.{latch_wire, read_wire}
use Rattle.model.specs.Circuit.{evaluate}
use Rattle.model.proofs.Circuit.{evaluate-solves}
use Rattle.model.proofs.Ports.{second-most}
use Rattle.netlist.specs.NetOf.{net_of}
use Rattle.netlist.proofs.NetOf.{sizes-lists}
use Rattle.netlist.specs.WireTable.{entry}
use Rattle.circuit_values.proofs.WireTable.{below-start, below-fewer}
use Rattle.circuit_values.proofs.evaluate.Goals as goal

pub first_latch_wire-requires : goal.first_latch_wire-requires
first_latch_wire-requires c =
    sizes-lists c.args.net [] c.args.gates.now [] [] c.requires.0.sizes

pub first_read_wire-requires : goal.first_read_wire-requires
first_read_wire-requires c =
    sizes-lists c.args.net [] c.args.gates.now [] [] c.requires.0.sizes

pub put_sources-requires : goal.put_sources-requires
unfolding net_of
put_sources-requires c =
    (omega (arith, c.requires.0.sizes), omega (arith, c.requires.0.sizes))

pub put_sources-requires-2 : goal.put_sources-requires-2
unfolding net_of
put_sources-requires-2 c =
    (omega (arith, c.requires.0.sizes), omega (arith, c.requires.0.sizes, c.index-latch.ensures, c.first_latch_wire.ensures))

pub read_count-requires : goal.read_count-requires
read_count-requires c =
    sizes-lists c.args.net [] c.args.gates.now [] [] c.requires.0.sizes

pub put_bits-requires : goal.put_bits-requires
unfolding net_of
put_bits-requires c =
    let sizes = c.requires.0.sizes in
    let count = c.read_count.ensures in
    (omega (arith, count, sizes.n-most, second-most sizes c.args.net.n), omega (arith, count, sizes, c.index-read.ensures, c.first_read_wire.ensures))

pub returns : goal.returns
unfolding net_of
returns c =
    let d = net_of c.args.net [] c.args.gates.now in
    let v = evaluate d (entry c.args.inputs.now) (entry c.args.latches.now) (bit c.args.word) in
    let s = evaluate-solves d (entry c.args.inputs.now) (entry c.args.latches.now) (bit c.args.word) c.requires.0.codes in
    let latch : c.index-latch.result ≡ latch_wire d 0 = omega (arith, c.index-latch.ensures, c.first_latch_wire.ensures) in
    let read : c.index-read.result ≡ read_wire d 0 = omega (arith, c.index-read.ensures, c.first_read_wire.ensures) in
    let inputs = c.put_sources.ensures v (below-start c.args.values.now c.requires.1 s.at_zero) (λ x h. sym (s.at-input x h)) in
    let latches =
    c.put_sources-2.ensures v (below-fewer (omega arith) inputs)
    (λ l h. let e : latch_wire d l ≡ c.index-latch.result + l = omega arith in sym (s.at-latch l h) ∙ ap v e)
    in
    let count = c.read_count.ensures in
    let reads =
    c.put_bits.ensures v (below-fewer (omega arith) latches)
    (λ t h. let e : read_wire d t ≡ c.index-read.result + t = omega arith in sym (s.at_read t (omega (arith, h, count))) ∙ ap v e)
    in
    c.put_gates.ensures v (record { at-gate = s.at-gate }) (below-fewer (omega arith) reads)
