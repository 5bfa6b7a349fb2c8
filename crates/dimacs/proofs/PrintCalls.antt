-- Laws of specs/PrintCalls.antt: what a call answers and leaves where there is room, and where not. No contract cites this file.
use Prim.Native.Nat.{ℕ, ◌≤◌, ◌<◌}
use mathlib.Core.Path.{◌≡◌, ap}
use mathlib.Core.List.{List}
use native.Mathlib.Omega.{arith}
use lib.ListN.{length, length-append, drop}
use Rattle.std.specs.Prelude.{Ok, Err}
use Rattle.refusals.specs.Slices.{count_reply, with_count, contents_after}
use Rattle.refusals.specs.declared.Refusal.TheVariants.{NoRoom}
use Rattle.refusals.proofs.Slices.{room-enough, room-short}
use Rattle.model.specs.Wrote.{Wrote}
use Rattle.decimal.specs.WroteAtEnd.{WroteAtEnd}
use Rattle.dimacs.specs.PrintCalls.{print_sent, print_leaves, fill_leaves}

-- a text that was written in a slice that kept its length: the answer is its count, and it stands before what was there
pub written :
    (text old new : List ℕ) (count : ℕ) → length new ≡ length old → Wrote text old new count →
    record { answer : count_reply (Ok count) ≡ print_sent text (length old); borrowed : new ≡ print_leaves text old }
unfolding count_reply print_sent print_leaves with_count contents_after
written text old new count kept w =
    let room : length text ≤ length old = omega (arith, ap length w.leaves, length-append text (drop (length text) old)) in
    let passes = room-enough (length text) (length old) room in
    record { answer = rw (passes, w.counted); borrowed = rw passes w.leaves }

-- a text that was filled from the right: the same answer, and it stands behind what was there
pub filled :
    (text old new : List ℕ) (count : ℕ) → length text ≤ length old → WroteAtEnd text old new count →
    record { answer : count_reply (Ok count) ≡ print_sent text (length old); borrowed : new ≡ fill_leaves text old }
unfolding count_reply print_sent fill_leaves with_count
filled text old new count room f =
    let passes = room-enough (length text) (length old) room in
    record { answer = rw (passes, f.counted); borrowed = rw passes f.leaves }

-- a text that has no room: refusal 9 at place 0, and nothing is changed
pub not_written :
    (text old : List ℕ) → length old < length text →
    record { answer : count_reply (Err (record { 0 = NoRoom; 1 = 0 })) ≡ print_sent text (length old); borrowed : old ≡ print_leaves text old }
unfolding count_reply print_sent print_leaves with_count contents_after
not_written text old short =
    let refuses = room-short (length text) (length old) short in
    record { answer = rw refuses; borrowed = rw refuses }

pub not-filled :
    (text old : List ℕ) → length old < length text →
    record { answer : count_reply (Err (record { 0 = NoRoom; 1 = 0 })) ≡ print_sent text (length old); borrowed : old ≡ fill_leaves text old }
unfolding count_reply print_sent fill_leaves with_count
not-filled text old short =
    let refuses = room-short (length text) (length old) short in
    record { answer = rw refuses; borrowed = rw refuses }
