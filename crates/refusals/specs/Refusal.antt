-- The numbers of the refusals (RULES T1 to T19): the only place that has them. Cited by `number`, `reply_of` and every
-- definition of what is sent back.
use Rattle.std.specs.Prelude.{ℕ, Ok, Err}
use Rattle.refusals.specs.declared.Refusal.{Refusal}
use Rattle.refusals.specs.declared.Refusal.TheVariants.{Ragged, Misprint, OutOfOrder, Size, CodeOutside, MemoryLoop, Depth, NoSuchGroup, NoRoom, NotAiger, Interface, Undefined, NoAnswer, NoViolation, WrongBase, TiedAddress, SecondPort, Reset}
use Rattle.refusals.specs.Verdict.{Verdict}
use Rattle.refusals.specs.declared.Reply.{Reply}

-- the number of each word; 10 is not used again (RULES T10)
abbrev pub refusal_number : Refusal → ℕ
refusal_number Ragged = 1
refusal_number Misprint = 2
refusal_number OutOfOrder = 3
refusal_number Size = 4
refusal_number CodeOutside = 5
refusal_number MemoryLoop = 6
refusal_number Depth = 7
refusal_number NoSuchGroup = 8
refusal_number NoRoom = 9
refusal_number NotAiger = 11
refusal_number Interface = 12
refusal_number Undefined = 13
refusal_number NoAnswer = 14
refusal_number NoViolation = 15
refusal_number WrongBase = 16
refusal_number TiedAddress = 17
refusal_number SecondPort = 18
refusal_number Reset = 19

-- RULES T43: "A refusal returns its number and place"; where nothing is refused both are 0
abbrev pub reply_of : Verdict → Reply
reply_of (Ok _) = record { number = 0; place = 0 }
reply_of (Err e) = record { number = refusal_number e.0; place = e.1 }
