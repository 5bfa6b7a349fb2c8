-- What a chain of tests answers (RULES T32): nothing, or the first refusal with its place. Cited by every order of tests.
use Rattle.std.specs.Prelude.{ℕ, Result, Ok, Err}
use Rattle.refusals.specs.declared.Refusal.{Refusal}
use Rattle.refusals.specs.declared.Refused.{Refused}

abbrev pub Verdict : Type 0
Verdict = Result (Unit {0}) Refused

abbrev pub Passed : Verdict
Passed = Ok tt

-- a refusal at a place
abbrev pub refuse : Refusal → ℕ → Verdict
refuse r p = Err (record { 0 = r; 1 = p })
