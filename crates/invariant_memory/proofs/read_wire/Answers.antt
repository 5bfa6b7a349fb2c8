-- `invariant_memory::read_wire` meets its contract: a second port has its wires behind the first.

use Prim.Native.Nat.{◌+◌, ◌*◌, ◌≤◌}
use native.Mathlib.Nat.{mul-le-mul}
use native.Mathlib.Omega.{arith}
use mathlib.Core.Path.{◌≡◌, ◌∙◌}
use Rattle.model.specs.Netlist.{read_wire}
use Rattle.netlist.specs.NetOf.{net_of, alone}
use Rattle.invariant_memory.proofs.read_wire.Goals as goal

pub overflow_mul-q : goal.overflow_mul-q
unfolding net_of
overflow_mul-q c =
    let one : c.args.q ≤ 1 = omega (arith, c.requires.0.kind_fits) in
    let product : c.args.q * c.args.net.n ≤ 1 * 32 = mul-le-mul one c.requires.0.n-most in
    record { fits = omega arith }

pub overflow_add-q : goal.overflow_add-q
unfolding net_of
overflow_add-q c =
    let one : c.args.q ≤ 1 = omega (arith, c.requires.0.kind_fits) in
    let product : c.args.q * c.args.net.n ≤ 1 * 32 = mul-le-mul one c.requires.0.n-most in
    record { fits = omega arith }

pub offset-wire-requires : goal.offset-wire-requires
unfolding net_of
offset-wire-requires c =
    let one : c.args.q ≤ 1 = omega (arith, c.requires.0.kind_fits) in
    let product : c.args.q * c.args.net.n ≤ 1 * 32 = mul-le-mul one c.requires.0.n-most in
    omega (arith, c.first_read_wire.ensures)

pub returns : goal.returns
unfolding net_of
returns c =
    let is : c.offset-wire.result.0 ≡ read_wire (alone c.args.net) (c.args.q * c.args.net.n + c.args.t) = omega (arith, c.offset-wire.ensures, c.first_read_wire.ensures) in
    c.wire_term.ensures ∙ rw is
