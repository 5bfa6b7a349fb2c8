-- What a call that prints a text sends back and leaves (RULES L3, L9, T43 and T44): 9 is its only test. Cited by `put_header`,
-- `put_clauses`, `put_refusal` and `put_number`, here and in `marrubigai`.
use Rattle.std.specs.Prelude.{ℕ, List, length}
use Rattle.refusals.specs.Tests.{if_passed}
use Rattle.refusals.specs.Slices.{test_room, with_count, contents_after}
use Rattle.refusals.specs.declared.CountReply.{CountReply}
use Rattle.decimal.specs.WroteAtEnd.{at_end}

-- what is sent back, for a slice of `room` bytes: how many were written
unfoldable pub print_sent : List ℕ → ℕ → CountReply
print_sent text room = with_count (test_room (length text) room) (length text)

-- what the slice holds then
unfoldable pub print_leaves : List ℕ → List ℕ → List ℕ
print_leaves text old = contents_after (test_room (length text) (length old)) text old

-- the same where the text is filled from the right into the slice's end (RULES L9)
unfoldable pub fill_leaves : List ℕ → List ℕ → List ℕ
fill_leaves text old = if_passed (test_room (length text) (length old)) (at_end text old) old
