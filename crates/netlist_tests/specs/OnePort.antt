-- What is tested of one port by itself: its address codes for ties, these and its RE for memory loops. Cited by `test_address` and
-- `any_dependent`; the tests of all lines are put together from them.
use Rattle.std.specs.Prelude.{ℕ, ◌+◌, ◌/◌, Bool, ◌||◌, ltb}
use Rattle.refusals.specs.Verdict.{Verdict}
use Rattle.refusals.specs.Tests.{refuse_if}
use Rattle.refusals.specs.declared.Refusal.TheVariants.{TiedAddress}
use Rattle.model.specs.Search.{any_below, first_where}
use Rattle.netlist.specs.Faults.{is_tied}

-- of m address codes, whose lines begin at a place: the first that is tied to an earlier one
unfoldable pub test_address : (ℕ → ℕ) → ℕ → ℕ → Verdict
test_address address m line = let t = first_where (is_tied address) m in refuse_if (ltb t m) TiedAddress (line + t)

-- whether any of m address codes, or RE, is of a wire that depends on a read bit, d saying which do
unfoldable pub any_dependent : (ℕ → Bool) → (ℕ → ℕ) → ℕ → ℕ → Bool
any_dependent d address m RE = any_below m (λ t. d (address t / 2)) || d (RE / 2)
