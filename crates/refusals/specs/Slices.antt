-- What a call that writes into a lent slice or list sends back and leaves there, by its verdict (RULES T43 to T45).
-- Cited by the calls that write numbers (call_unpacked/specs/Calls), text (dimacs/specs/PrintCalls) and records
-- (call_lists/specs/ListsBeside), and by call_replies/specs.
use Rattle.std.specs.Prelude.{ℕ, List, ltb, Result, Ok, Err}
use Rattle.model.specs.Wrote.{over}
use Rattle.refusals.specs.Refusal.{reply_of}
use Rattle.refusals.specs.Tests.{refuse_if, if_passed}
use Rattle.refusals.specs.declared.Refusal.TheVariants.{NoRoom}
use Rattle.refusals.specs.declared.CountReply.{CountReply}
use Rattle.refusals.specs.declared.Refused.{Refused}
use Rattle.refusals.specs.Verdict.{Verdict, Passed}

-- RULES T9: "a lent slice or list that is to be written is shorter than the exact need. Place 0"
unfoldable pub test_room : ℕ → ℕ → Verdict
test_room need room = refuse_if (ltb room need) NoRoom 0

-- a verdict, with the count beside it. RULES T43: "A count .. that is returned beside them is all zeros"
unfoldable pub with_count : Verdict → ℕ → CountReply
with_count v n = record { number = (reply_of v).number; place = (reply_of v).place; count = if_passed v n 0 }

-- the answer of a call that writes, in numbers (RULES N9)
unfoldable pub count_reply : Result ℕ Refused → CountReply
count_reply (Ok n) = with_count Passed n
count_reply (Err e) = with_count (Err e) 0

-- what is in the slice then: what was to be written, and everything behind untouched (RULES G21); at a refusal what was there (RULES T44)
unfoldable pub contents_after : {A : Type 0} → Verdict → List A → List A → List A
contents_after v xs old = if_passed v (over xs old) old
