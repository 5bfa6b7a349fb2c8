-- `dimacs::write_number` meets its contract: the end mark and its line feed, or a number and a space.

use Prim.Native.Nat.{◌+◌, ◌≤◌}
use mathlib.Core.Path.{◌≡◌}
use mathlib.Core.List.{[], ◌∷◌, ◌++◌}
use native.Mathlib.Omega.{arith}
use lib.ListN.{length, length-set}
use Rattle.decimal.specs.Digits.{digit, space, line_feed, signed_digits}
use Rattle.text_writer.proofs.Writing.{extends-two}
use Rattle.dimacs.specs.Text.{number_text}
use Rattle.dimacs.proofs.Text.{number_text-zero, behind-other}
use Rattle.dimacs.proofs.write_number.Goals as goal
use Rattle.dimacs.proofs.write_number.Goals.{Else-z-eq0, Then-z-eq0}

-- there is room for the end mark
room : (c : Then-z-eq0) → c.args.at + 2 ≤ length c.args.out.now
room c =
    rw (number_text-zero c.args.z c.ranges.z c.if-z-eq0.true) at c.requires.1

pub bounds-out-next : goal.bounds-out-next
bounds-out-next c = simp length-set (omega (arith, room c))

pub returns-then-z-eq0 : goal.returns-then-z-eq0
returns-then-z-eq0 c =
    rw (number_text-zero c.args.z c.ranges.z c.if-z-eq0.true) (extends-two (digit 0) line_feed c.args.out.now c.args.at (room c))

-- any other number has a space behind it
spaced : (c : Else-z-eq0) → number_text c.args.z ≡ signed_digits c.args.z ++ space ∷ []
spaced c = rw (behind-other c.args.z c.if-z-eq0.false)
