-- `literals::Code::is_above` meets its contract: a code is compared by its wire, so that nothing can overflow.

use Prim.Native.Nat.{◌+◌, ◌*◌, ◌/◌}
use mathlib.Core.Logic.{by_cases}
use native.Mathlib.Decide.{dec_lt}
use native.Mathlib.Omega.{arith}
use borrow.Author.Tests.{lt-ltb, le-ltb}
use Rattle.literals.proofs.Code.is_above.Goals as goal

pub returns : goal.returns
returns c =
    let x = c.args.self.0 in
    let w = c.args.wire.0 in
    by_cases (dec_lt (2 * w + 1) x)
    (λ h. rw (lt-ltb (2 * w + 1) x h, lt-ltb w (x / 2) (omega arith)))
    (λ h. rw (le-ltb (2 * w + 1) x (omega arith), le-ltb w (x / 2) (omega arith)))
