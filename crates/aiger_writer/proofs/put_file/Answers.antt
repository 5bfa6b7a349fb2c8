-- `aiger_writer::put_file` meets its contract: header, next codes, outputs and gates, one behind the other.

use Prim.Native.Nat.{ℕ, suc, ◌+◌, ◌*◌, ◌≤◌, ◌<◌}
use mathlib.Core.Path.{◌≡◌}
use native.Mathlib.Nat.{zero-mul}
use mathlib.Core.List.{[]}
use native.Mathlib.Omega.{arith}
use Rattle.model.specs.Acceptance.{WithinLimits}
use Rattle.model.proofs.Wrote.{wrote_then, rest-room}
use Rattle.netlist.specs.NetOf.{first_at, net_of, alone}
use Rattle.netlist.specs.declared.Netlist.{Netlist}
use Rattle.netlist.proofs.NetOf.{limits-without-latches, limits-without-gates}
use Rattle.aiger_graph.specs.RecordAig.{control_output, output_of}
use Rattle.aiger_graph.proofs.RecordAig.{output-fits}
use Rattle.aiger_binary.specs.BinaryText.{aig_text}
use Rattle.aiger_writer.specs.Parts.{OrderFits, GatesFit}
use Rattle.aiger_writer.proofs.put_file.Goals as goal
use Rattle.aiger_writer.proofs.put_file.Goals.{After-order_of-order, Start}

-- the sizes of the record
abbrev read_count : Netlist → ℕ
read_count net = suc net.second_port * net.n

record Fits (net : Netlist) : Type 0 where
  wires : net.inputs + net.latches + read_count net + net.gates ≤ 600
  m-most : net.m ≤ 12
  n-most : net.n ≤ 32

sizes : (c : Start) → Fits c.args.net
unfolding net_of
sizes c = let fits = c.requires.0.sizes in record { wires = fits.wires-fit; m-most = fits.m-most; n-most = fits.n-most }

-- the limits of the record without its lists
alone-fits : (c : Start) → WithinLimits (alone c.args.net)
alone-fits c =
    limits-without-gates c.args.net [] c.args.gates.now (limits-without-latches c.args.net c.args.latches.now c.args.gates.now c.requires.0)

-- WE follows the write data, as there is one port
control-is : (c : Start) → let net = c.args.net in control_output net.m net.n net.second_port ≡ net.m + net.n
control-is c =
    let net = c.args.net in
    let none : net.second_port * (net.m + 1) ≡ 0 = rw c.requires.2 (zero-mul (net.m + 1)) in
    omega (arith, none)

-- its order
order-fits : (c : After-order_of-order) → Fits c.args.net → OrderFits c.order_of-order.result
unfolding net_of
order-fits c fits = rw c.order_of-order.ensures (omega (arith, fits.wires))

next_fits : (c : Start) (l : ℕ) → l < c.args.net.latches → first_at c.args.latches.now l ≤ 1201
unfolding net_of
next_fits c l h = omega (arith, c.requires.0.codes.next_fits l h, (sizes c).wires)

output-most : (c : Start) (o : ℕ) → output_of (alone c.args.net) o ≤ 1201
unfolding net_of
output-most c o = omega (arith, output-fits (alone-fits c).codes o, (sizes c).wires)

gates-fit : (c : After-order_of-order) → Fits c.args.net → GatesFit c.order_of-order.result c.args.gates.now c.args.net.gates
unfolding net_of
gates-fit c fits =
    rw c.order_of-order.ensures
    (record {
      wires-fit = fits.wires;
      left_below = λ g h. c.requires.0.codes.left-fits g h;
      right-below = λ g h. c.requires.0.codes.right-fits g h;
    })

pub order_of-order-requires : goal.order_of-order-requires
order_of-order-requires c = (alone-fits (goal.at.order_of-order-requires c).Start).sizes

pub overflow_add-net : goal.overflow_add-net
unfolding net_of
overflow_add-net c =
    let reads : c.order_of-order.result.reads ≡ read_count c.args.net = rw c.order_of-order.ensures in
    omega (arith, (sizes (goal.at.overflow_add-net c).Start).wires)

pub overflow_add-net-2 : goal.overflow_add-net-2
overflow_add-net-2 c = let fits = sizes (goal.at.overflow_add-net-2 c).Start in omega (arith, fits.m-most, fits.n-most)

pub overflow_add-net-3 : goal.overflow_add-net-3
overflow_add-net-3 c = let fits = sizes (goal.at.overflow_add-net-3 c).Start in omega (arith, fits.m-most, fits.n-most)

pub put_header-header-requires : goal.put_header-header-requires
unfolding net_of
put_header-header-requires c =
    let fits = sizes (goal.at.put_header-header-requires c).Start in
    let reads : c.order_of-order.result.reads ≡ read_count c.args.net = rw c.order_of-order.ensures in
    (omega (arith, fits.wires), omega (arith, fits.m-most, fits.n-most), omega (arith, c.requires.1))

pub put_nexts-requires : goal.put_nexts-requires
put_nexts-requires c =
    let fits = sizes (goal.at.put_nexts-requires c).Start in
    let header = c.put_header-header.ensures in (
      order-fits (goal.at.put_nexts-requires c).After-order_of-order fits,
      omega (arith, fits.wires),
      next_fits (goal.at.put_nexts-requires c).Start,
      rest-room header.0 (omega (arith, header.1, fits.wires, c.requires.1)),
    )

pub put_outputs-requires : goal.put_outputs-requires
put_outputs-requires c =
    let fits = sizes (goal.at.put_outputs-requires c).Start in
    let header = c.put_header-header.ensures in
    let nexts = c.put_nexts.ensures in (
      order-fits (goal.at.put_outputs-requires c).After-order_of-order fits,
      (alone-fits (goal.at.put_outputs-requires c).Start).sizes,
      output-most (goal.at.put_outputs-requires c).Start,
      rest-room (wrote_then _ _ _ _ _ _ _ header.0 nexts.0)
          (omega (arith, header.1, nexts.1, fits.wires, fits.m-most, fits.n-most, c.requires.1)),
      c.requires.2,
    )

pub put_gates-requires : goal.put_gates-requires
put_gates-requires c =
    let fits = sizes (goal.at.put_gates-requires c).Start in
    let header = c.put_header-header.ensures in
    let nexts = c.put_nexts.ensures in
    let outputs = c.put_outputs.ensures in (
      gates-fit (goal.at.put_gates-requires c).After-order_of-order fits,
      rest-room (wrote_then _ _ _ _ _ _ _ (wrote_then _ _ _ _ _ _ _ header.0 nexts.0) outputs.0)
          (omega (arith, header.1, nexts.1, outputs.1, fits.wires, fits.m-most, fits.n-most, c.requires.1)),
    )

pub returns : goal.returns
unfolding net_of aig_text output_of
returns c =
    let fits = sizes (goal.at.returns c).Start in
    let header = c.put_header-header.ensures in
    let nexts = c.put_nexts.ensures in
    let outputs = c.put_outputs.ensures in
    let gates = c.put_gates.ensures in
    let counted = rw (← control-is (goal.at.returns c).Start) at header.0 in
    let listed = rw (← control-is (goal.at.returns c).Start) at outputs.0 in (
      rw c.order_of-order.ensures
          at (wrote_then _ _ _ _ _ _ _ (wrote_then _ _ _ _ _ _ _ (wrote_then _ _ _ _ _ _ _ counted nexts.0) listed) gates.0),
      omega (arith, header.1, nexts.1, outputs.1, gates.1, fits.wires, fits.m-most, fits.n-most),
    )
