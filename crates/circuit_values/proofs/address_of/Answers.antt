-- `circuit_values::address_of` meets its contract: the address' bits are the first m codes of the port's.

use Prim.Native.Nat.{ℕ}
use mathlib.Core.Path.{◌≡◌, sym, ◌∙◌, ap}
use native.Mathlib.Omega.{arith}
use borrow.Author.Tests.{eq-eqb, ne_eqb}
use Rattle.model.specs.Netlist.{port}
use Rattle.model.specs.Circuit.{code_value, address_of}
use Rattle.model.proofs.Bits.{from_bits-same}
use Rattle.model.proofs.Ports.{port-address}
use Rattle.netlist.specs.NetOf.{code_of, net_of, alone}
use Rattle.netlist.specs.WireTable.{entry}
use Rattle.netlist.specs.declared.Netlist.{Netlist}
use Rattle.circuit_values.proofs.address_of.Goals as goal

-- the codes of a port are those of the first's array, or of the second's
first : (r : Netlist) (p t : ℕ) → p ≡ 1 → (port (alone r) p).address t ≡ code_of r.address t
unfolding net_of
first r p t e = port-address (alone r) p t ∙ rw (eq-eqb p 1 e)

second : (r : Netlist) (p t : ℕ) → (p ≡ 1 → ⊥) → (port (alone r) p).address t ≡ code_of r.address2 t
unfolding net_of
second r p t e = port-address (alone r) p t ∙ rw (ne_eqb p 1 e)

pub code_bits-requires : goal.code_bits-requires
unfolding net_of
code_bits-requires c =
    let limits = c.requires.0 in
    let p = c.args.port_number in (
      omega (arith, limits.sizes),
      omega (arith, limits.sizes),
      λ t h. omega (arith, limits.sizes, limits.codes.address-fits p c.requires.1 t h, first c.args.net p t c.if-port_number-eq1.true),
    )

pub returns-then-port_number-eq1 : goal.returns-then-port_number-eq1
unfolding net_of address_of
returns-then-port_number-eq1 c =
    c.code_bits.ensures
    ∙ from_bits-same _ _ _ (λ t h. ap (code_value (entry c.args.values.now)) (sym (first c.args.net c.args.port_number t c.if-port_number-eq1.true)))

pub code_bits-requires-2 : goal.code_bits-requires-2
unfolding net_of
code_bits-requires-2 c =
    let limits = c.requires.0 in
    let p = c.args.port_number in (
      omega (arith, limits.sizes),
      omega (arith, limits.sizes),
      λ t h. omega (arith, limits.sizes, limits.codes.address-fits p c.requires.1 t h, second c.args.net p t c.if-port_number-eq1.false),
    )

pub returns : goal.returns
unfolding net_of address_of
returns c =
    c.code_bits-2.ensures
    ∙ from_bits-same _ _ _ (λ t h. ap (code_value (entry c.args.values.now)) (sym (second c.args.net c.args.port_number t c.if-port_number-eq1.false)))
