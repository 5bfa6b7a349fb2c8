-- Laws of specs/Slices.antt: when there is room. No contract cites this file.
use Prim.Native.Nat.{ℕ, ◌≤◌, ◌<◌}
use mathlib.Core.Path.{◌≡◌}
use lib.Dec.{ltb}
use borrow.Author.Tests.{ltb-false, le-ltb, lt-ltb}
use Rattle.refusals.specs.Slices.{test_room}
use Rattle.refusals.specs.declared.Refusal.TheVariants.{NoRoom}
use Rattle.refusals.specs.Verdict.{Passed, refuse}
use Rattle.refusals.proofs.Tests.{refuse_if-passes}

module _ (need room : ℕ) where
  pub room-enough : need ≤ room → test_room need room ≡ Passed
  unfolding test_room
  room-enough h = rw (le-ltb room need h)

  pub room-short : room < need → test_room need room ≡ refuse NoRoom 0
  unfolding test_room
  room-short h = rw (lt-ltb room need h)

  -- what a test that passes has shown
  pub room-shown : test_room need room ≡ Passed → need ≤ room
  unfolding test_room
  room-shown h = ltb-false room need ((refuse_if-passes (ltb room need) NoRoom 0).0 h)
