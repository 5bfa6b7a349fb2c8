-- `text_writer::write_leading` meets its contract: one digit, a pair, or three.

use Prim.Native.Nat.{ℕ}
use mathlib.Core.Path.{ap}
use native.Mathlib.Omega.{arith}
use lib.ListN.{length}
use Rattle.decimal.specs.Digits.{digit}
use Rattle.decimal.proofs.Digits.{digits-single, length-digits-some}
use Rattle.model.proofs.Wrote.{wrote_one}
use Rattle.text_writer.proofs.Table.{digits-pair, digits-three}
use Rattle.text_writer.proofs.write_leading.Goals as goal

pub bounds-out-0 : goal.bounds-out-0
bounds-out-0 c =
    omega (arith, length-digits-some c.args.x)

pub returns-then-x-lt10 : goal.returns-then-x-lt10
returns-then-x-lt10 c =
    let x : ℕ = c.args.x in
    rw (digits-single x (omega arith)) (wrote_one (digit x) c.args.out.now (omega (arith, length-digits-some x)))

pub write_pair-requires : goal.write_pair-requires
write_pair-requires c =
    (c.requires.0, omega arith, omega (arith, ap length (digits-pair c.args.x (omega arith) (omega arith))))

pub returns-then-x-lt100 : goal.returns-then-x-lt100
returns-then-x-lt100 c =
    rw (digits-pair c.args.x (omega arith) (omega arith)) c.write_pair.ensures

pub write_three-requires : goal.write_three-requires
write_three-requires c =
    (c.requires.0, omega arith, omega arith, omega (arith, ap length (digits-three c.args.x (omega arith) (omega arith))))
