-- `literals::Code::is_below` meets its contract: a code is compared by its wire, so that nothing can overflow.

use Prim.Native.Nat.{◌*◌, ◌/◌}
use mathlib.Core.Logic.{by_cases}
use native.Mathlib.Decide.{dec_lt}
use native.Mathlib.Omega.{arith}
use borrow.Author.Tests.{lt-ltb, le-ltb}
use Rattle.literals.proofs.Code.is_below.Goals as goal

pub returns : goal.returns
returns c =
    let x = c.args.self.0 in
    let w = c.args.wire.0 in
    by_cases (dec_lt x (2 * w))
    (λ h. rw (lt-ltb x (2 * w) h, lt-ltb (x / 2) w (omega arith)))
    (λ h. rw (le-ltb x (2 * w) (omega arith), le-ltb (x / 2) w (omega arith)))
