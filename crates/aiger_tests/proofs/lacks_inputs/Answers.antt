-- `aiger_tests::lacks_inputs` meets its contract: the product of two 32-bit numbers, one of them one more, is a 64-bit number.

use Prim.Native.Nat.{◌*◌, ◌≤◌}
use native.Mathlib.Nat.{mul-le-mul_right}
use native.Mathlib.Numerals.{add-one}
use native.Mathlib.Omega.{arith}
use Rattle.aiger_tests.proofs.lacks_inputs.Goals as goal

pub overflow_mul-reads : goal.overflow_mul-reads
overflow_mul-reads c =
    let most : c.args.second_port * c.args.n ≤ 4294967295 * c.args.n = mul-le-mul_right c.args.n (omega arith) in
    omega arith

pub returns : goal.returns
returns c = rw (add-one c.args.second_port)
