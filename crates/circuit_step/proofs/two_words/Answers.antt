-- `circuit_step::two_words` meets its contract: 64 bits have room for both words.

use Prim.Native.Nat.{◌*◌, ◌^◌, ◌≤◌}
use native.Mathlib.Nat.{mul-le-mul_right, pow-le-pow_right, mod-lt}
use native.Mathlib.Omega.{arith}
use lib.Pow.{pow_pos}
use Rattle.circuit_values.proofs.Bits.{one-above, word-above, two-first, two-second}
use Rattle.circuit_step.proofs.two_words.Goals as goal

pub nonzero_rem-result : goal.nonzero_rem-result
nonzero_rem-result c = rw (one-above c.args.n c.requires) (pow_pos c.args.n)

pub overflow_add-result : goal.overflow_add-result
overflow_add-result c =
    let most : c.args.second * 2 ^ c.args.n ≤ 4294967295 * 2 ^ c.args.n = mul-le-mul_right (2 ^ c.args.n) (omega arith) in
    let room : 2 ^ c.args.n ≤ 4294967296 = pow-le-pow_right {n = 2} (omega arith) {i = c.args.n} {j = 32} c.requires in
    rw (one-above c.args.n c.requires, word-above c.args.n c.args.second c.requires (omega arith))
    (record { fits = omega (arith, most, room, mod-lt c.args.first (pow_pos c.args.n)) })

pub returns : goal.returns
returns c =
    rw (one-above c.args.n c.requires, word-above c.args.n c.args.second c.requires (omega arith))
    (λ t h. (two-first c.args.n c.args.first c.args.second t h, two-second c.args.n c.args.first c.args.second t))
