-- `clause_variables::port_of` meets its contract: the first port has the first read bits and variables, and the only other one the next.

use mathlib.Core.Path.{◌≡◌}
use native.Mathlib.Nat.{zero-mul, one-mul}
use native.Mathlib.Omega.{arith}
use Rattle.netlist.specs.NetOf.{net_of}
use Rattle.clause_variables.specs.PortOf.{port_of}
use Rattle.clause_variables.proofs.port_of.Goals as goal

pub returns-then-number-eq1 : goal.returns-then-number-eq1
unfolding port_of net_of
returns-then-number-eq1 c = simp (c.if-number-eq1.true, zero-mul)

pub overflow_add-result : goal.overflow_add-result
unfolding net_of
overflow_add-result c = omega arith

pub returns : goal.returns
unfolding port_of net_of
returns c =
    let here = c.requires in
    let other = c.if-number-eq1.false in
    let last : c.args.number ≡ 2 = omega (arith, here.0.kind_fits, here.1.0, here.1.1, other) in
    simp (last, one-mul)
