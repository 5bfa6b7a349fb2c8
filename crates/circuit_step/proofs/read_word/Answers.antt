-- `circuit_step::read_word` meets its contract.

use Prim.Native.Nat.{◌-◌, ◌*◌, ◌/◌, ◌^◌, ◌<◌}
use mathlib.Core.Path.{sym, ◌∙◌}
use native.Mathlib.Omega.{arith}
use Rattle.model.proofs.Ports.{first-read-most}
use Rattle.model.proofs.Memory.{address_below}
use Rattle.model.proofs.Circuit.{read_data-port}
use Rattle.netlist.specs.NetOf.{net_of, alone}
use Rattle.netlist.specs.WireTable.{entry}
use Rattle.circuit_values.proofs.Bits.{bit-mod, bit-div}
use Rattle.circuit_step.proofs.read_word.Goals as goal

pub bounds-memory-address : goal.bounds-memory-address
unfolding net_of
bounds-memory-address c =
    let below : c.address_of-address.result < 2 ^ c.args.net.m = rw c.address_of-address.ensures (address_below _ _ _) in
    omega (arith, c.requires.1, below)

pub returns-then-is_reading : goal.returns-then-is_reading
unfolding net_of
returns-then-is_reading c =
    λ t h. rw (read_data-port (alone c.args.net) c.args.port_number c.requires.2 _ (entry c.args.values.now) t h, sym c.is_reading.ensures ∙ c.if-is_reading.true, c.address_of-address.ensures)

pub overflow_mul-own : goal.overflow_mul-own
unfolding net_of
overflow_mul-own c = omega (arith, first-read-most (alone c.args.net) c.args.port_number c.requires.2 c.requires.0.sizes, c.requires.0.sizes.n-most)

pub overflow_cast-own : goal.overflow_cast-own
unfolding net_of
overflow_cast-own c = omega (arith, first-read-most (alone c.args.net) c.args.port_number c.requires.2 c.requires.0.sizes, c.requires.0.sizes.n-most)

pub overflow_shr-own : goal.overflow_shr-own
unfolding net_of
overflow_shr-own c = omega (arith, first-read-most (alone c.args.net) c.args.port_number c.requires.2 c.requires.0.sizes, c.requires.0.sizes.n-most)

pub returns : goal.returns
unfolding net_of
returns c =
    let first = (c.args.port_number - 1) * c.args.net.n in
    λ t h. rw (read_data-port (alone c.args.net) c.args.port_number c.requires.2 _ (entry c.args.values.now) t h, sym c.is_reading.ensures ∙ c.if-is_reading.false)
    (bit-mod (c.args.held / 2 ^ first) 32 t (omega (arith, h, c.requires.0.sizes.n-most)) ∙ bit-div c.args.held first t)
