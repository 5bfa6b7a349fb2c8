-- `invariant_terms::state_count` meets its contract.

use Rattle.model.proofs.Ports.{second-most}
use Rattle.netlist.specs.NetOf.{net_of}
use native.Mathlib.Nat.{mul-le-mul}
use Rattle.invariant_terms.specs.StateBits.{state_count}
use native.Mathlib.Omega.{arith}
use Rattle.invariant_terms.proofs.state_count.Goals as goal

pub overflow_mul-words : goal.overflow_mul-words
unfolding net_of
overflow_mul-words c = let words = c.word_count.ensures.1 in
    record { fits = omega (arith, mul-le-mul words c.requires.n-most) }

pub overflow_add-result-2 : goal.overflow_add-result-2
unfolding net_of
overflow_add-result-2 c = let words = c.word_count.ensures.1 in
    record { fits = omega (arith, mul-le-mul words c.requires.n-most, c.read_count.ensures, second-most c.requires c.args.net.n) }

pub returns : goal.returns
unfolding net_of state_count
returns c = let words = c.word_count.ensures in
    let most = mul-le-mul words.1 c.requires.n-most in
    let second = second-most c.requires c.args.net.n in
    (rw (← words.0) (omega (arith, c.read_count.ensures)), omega (arith, most, second, c.read_count.ensures, c.requires))
