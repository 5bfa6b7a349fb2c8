-- Chains of tests (RULES T32): the first that refuses decides. Cited by every order of tests: of
-- records, of calls, of lines, sheets and other texts, and of a program's input.
use Rattle.std.specs.Prelude.{ℕ, zero, suc, Bool, cond, Ok, Err}
use Rattle.refusals.specs.declared.Refusal.{Refusal}
use Rattle.refusals.specs.Verdict.{Verdict, Passed, refuse}

-- one test: where its condition holds, refusal r at place p
abbrev pub refuse_if : Bool → Refusal → ℕ → Verdict
refuse_if b r p = cond b (refuse r p) Passed

-- one test, then another: the first that refuses
infixr 20 ◌then◌
unfoldable pub ◌then◌ : Verdict → Verdict → Verdict
Ok _ then w = w
Err e then w = Err e

-- the tests of the places 1 to n in their order: the first that refuses
unfoldable pub in_order : (ℕ → Verdict) → ℕ → Verdict
in_order test zero = Passed
in_order test (suc n) = in_order test n then test (suc n)

-- by a verdict: the first where nothing is refused, the second at a refusal
abbrev pub if_passed : {A : Type 0} → Verdict → A → A → A
if_passed (Ok _) new old = new
if_passed (Err e) new old = old
