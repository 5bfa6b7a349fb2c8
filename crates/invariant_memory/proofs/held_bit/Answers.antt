-- `invariant_memory::held_bit` meets its contract: a second port has its bits behind the first.

use Prim.Native.Nat.{◌*◌, ◌≤◌}
use native.Mathlib.Nat.{mul-le-mul}
use native.Mathlib.Omega.{arith}
use mathlib.Core.Path.{refl}
use Rattle.netlist.specs.NetOf.{net_of}
use Rattle.invariant_terms.specs.StateBits.{held_bit}
use Rattle.invariant_memory.proofs.held_bit.Goals as goal

pub overflow_mul-result : goal.overflow_mul-result
unfolding net_of
overflow_mul-result c =
    let one : c.args.q ≤ 1 = omega (arith, c.requires.0.kind_fits) in
    let product : c.args.q * c.args.net.n ≤ 1 * 32 = mul-le-mul one c.requires.0.n-most in
    record { fits = omega arith }

pub overflow_add-result : goal.overflow_add-result
unfolding net_of
overflow_add-result c =
    let one : c.args.q ≤ 1 = omega (arith, c.requires.0.kind_fits) in
    let product : c.args.q * c.args.net.n ≤ 1 * 32 = mul-le-mul one c.requires.0.n-most in
    record { fits = omega arith }

pub overflow_add-result-2 : goal.overflow_add-result-2
unfolding net_of
overflow_add-result-2 c =
    let one : c.args.q ≤ 1 = omega (arith, c.requires.0.kind_fits) in
    let product : c.args.q * c.args.net.n ≤ 1 * 32 = mul-le-mul one c.requires.0.n-most in
    record { fits = omega arith }

pub overflow_cast-result : goal.overflow_cast-result
unfolding net_of
overflow_cast-result c =
    let one : c.args.q ≤ 1 = omega (arith, c.requires.0.kind_fits) in
    let product : c.args.q * c.args.net.n ≤ 1 * 32 = mul-le-mul one c.requires.0.n-most in
    omega arith

pub returns : goal.returns
unfolding net_of held_bit
returns c =
    let one : c.args.q ≤ 1 = omega (arith, c.requires.0.kind_fits) in
    let product : c.args.q * c.args.net.n ≤ 1 * 32 = mul-le-mul one c.requires.0.n-most in
    (refl, omega arith)
