-- `decimal::read_number` meets its contract. The loop's invariant: the value taken in so far has at most as many digits as bytes are read, and with the
-- rest of the text it makes the value, and the test for digits, of the whole.

use Prim.Native.Nat.{◌^◌, ◌<◌}
use mathlib.Core.Path.{◌≡◌}
use lib.ListN.{drop}
use Rattle.decimal.specs.TextValue.{value_after}
use Rattle.decimal.proofs.TextValue.{all_digits}
use Rattle.decimal.proofs.read_number.Given as goal

abbrev pub invariant-loop-c : goal.invariant-loop-c
invariant-loop-c l =
    (l.value < 10 ^ l.c-index) × (value_after l.value (drop l.c-index l.text) ≡ value_after 0 l.text)
    × (all_digits (drop l.c-index l.text) ≡ all_digits l.text)
