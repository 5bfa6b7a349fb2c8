-- Laws of the table of refusals (specs/Refusal.antt): no two have the same number, and none has the number 0. No contract cites this
-- file.
use Prim.Native.Nat.{ℕ, ◌≤◌}
use mathlib.Core.Path.{◌≡◌, refl, ap, sym, ◌∙◌}
use mathlib.Core.Bool.{cond}
use native.Mathlib.Omega.{arith}
use lib.Dec.{eqb}
use Rattle.std.specs.Prelude.{Ok, Err}
use Rattle.refusals.specs.Refusal.{refusal_number, reply_of}
use Rattle.refusals.specs.declared.Refusal.{Refusal}
use Rattle.refusals.specs.Verdict.{Verdict, Passed, refuse}
use Rattle.refusals.specs.declared.Reply.{Reply}
use Rattle.refusals.specs.declared.Refusal.TheVariants.{Ragged, Misprint, OutOfOrder, Size, CodeOutside, MemoryLoop, Depth, NoSuchGroup, NoRoom, NotAiger, Interface, Undefined, NoAnswer, NoViolation, WrongBase, TiedAddress, SecondPort, Reset}

-- every word's number is at least 1
pub refusal_number-some : (r : Refusal) → 1 ≤ refusal_number r
refusal_number-some Ragged = omega arith
refusal_number-some Misprint = omega arith
refusal_number-some OutOfOrder = omega arith
refusal_number-some Size = omega arith
refusal_number-some CodeOutside = omega arith
refusal_number-some MemoryLoop = omega arith
refusal_number-some Depth = omega arith
refusal_number-some NoSuchGroup = omega arith
refusal_number-some NoRoom = omega arith
refusal_number-some NotAiger = omega arith
refusal_number-some Interface = omega arith
refusal_number-some Undefined = omega arith
refusal_number-some NoAnswer = omega arith
refusal_number-some NoViolation = omega arith
refusal_number-some WrongBase = omega arith
refusal_number-some TiedAddress = omega arith
refusal_number-some SecondPort = omega arith
refusal_number-some Reset = omega arith

-- so number 0 is sent back where no test refuses
pub reply-passed : (v : Verdict) → (reply_of v).number ≡ 0 → v ≡ Passed
reply-passed (Ok _) h = refl
reply-passed (Err e) h = absurd (omega (arith, refusal_number-some e.0))

-- the refusal that has a number, and the verdict that sends back a number and a place
abbrev refusal_of : ℕ → Refusal
refusal_of n =
    cond (eqb n 1) Ragged
    (cond (eqb n 2) Misprint
    (cond (eqb n 3) OutOfOrder
    (cond (eqb n 4) Size
    (cond (eqb n 5) CodeOutside
    (cond (eqb n 6) MemoryLoop
    (cond (eqb n 7) Depth
    (cond (eqb n 8) NoSuchGroup
    (cond (eqb n 9) NoRoom
    (cond (eqb n 11) NotAiger
    (cond (eqb n 12) Interface
    (cond (eqb n 13) Undefined
    (cond (eqb n 14) NoAnswer
    (cond (eqb n 15) NoViolation
    (cond (eqb n 16) WrongBase
    (cond (eqb n 17) TiedAddress
    (cond (eqb n 18) SecondPort Reset))))))))))))))))

abbrev verdict_of : Reply → Verdict
verdict_of r = cond (eqb r.number 0) Passed (refuse (refusal_of r.number) r.place)

verdict_of-refused : (r : Refusal) (p : ℕ) → verdict_of (reply_of (refuse r p)) ≡ refuse r p
verdict_of-refused Ragged p = refl
verdict_of-refused Misprint p = refl
verdict_of-refused OutOfOrder p = refl
verdict_of-refused Size p = refl
verdict_of-refused CodeOutside p = refl
verdict_of-refused MemoryLoop p = refl
verdict_of-refused Depth p = refl
verdict_of-refused NoSuchGroup p = refl
verdict_of-refused NoRoom p = refl
verdict_of-refused NotAiger p = refl
verdict_of-refused Interface p = refl
verdict_of-refused Undefined p = refl
verdict_of-refused NoAnswer p = refl
verdict_of-refused NoViolation p = refl
verdict_of-refused WrongBase p = refl
verdict_of-refused TiedAddress p = refl
verdict_of-refused SecondPort p = refl
verdict_of-refused Reset p = refl

verdict_of-reply : (v : Verdict) → verdict_of (reply_of v) ≡ v
verdict_of-reply (Ok _) = refl
verdict_of-reply (Err e) = verdict_of-refused e.0 e.1

-- so a verdict is known by what it sends back
pub reply-tells : (v w : Verdict) → reply_of v ≡ reply_of w → v ≡ w
reply-tells v w h = sym (verdict_of-reply v) ∙ ap verdict_of h ∙ verdict_of-reply w
