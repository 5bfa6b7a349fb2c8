-- The rest of a clause that is begun. Cited by `put_last_three`.
use Rattle.std.specs.Prelude.{ℕ, ◌+◌, List, ◌++◌, ℤ, length}
use Rattle.model.specs.Clauses.{Clause}
use Rattle.model.specs.Numbers.{kept, end_of}

-- what is kept of its last literals, and its end: of one of which no number was written, the single -1 stands before the end mark
unfoldable pub ended_after : ℕ → Clause → List ℤ
ended_after begun x = kept x ++ end_of (begun + length (kept x))
