-- `invariant_terms::word_count` meets its contract: 1 shifted by m.

use Prim.Native.Nat.{◌^◌}
use mathlib.Core.Path.{refl, ◌∙◌}
use native.Mathlib.Omega.{arith}
use native.Mathlib.Nat.{pow-le-pow_right, one-mul}
use lib.Pow.{shl_exact}
use Rattle.netlist.specs.NetOf.{net_of}
use Rattle.invariant_terms.proofs.word_count.Goals as goal

pub overflow_shl-result : goal.overflow_shl-result
unfolding net_of
overflow_shl-result c = omega arith

pub returns : goal.returns
unfolding net_of
returns c = let m = c.args.net.m in
    rw (shl_exact {a = 1} 1 m 64 (omega arith) (omega arith) ∙ one-mul (2 ^ m)) (refl, pow-le-pow_right {n = 2} (omega arith) {i = m} {j = 12} (omega arith))
