-- What a writer leaves that goes on where another stopped. Cited by `write_signed_spaced` and by the writer of clauses.
use Rattle.std.specs.Prelude.{ℕ, List, ◌++◌}
use Rattle.model.specs.Wrote.{Wrote}

-- whatever was written up to place i, xs stands behind it now, up to place r
abbrev pub Extends : List ℕ → ℕ → List ℕ → List ℕ → ℕ → Type 0
Extends xs i old new r = (seen start : List ℕ) → Wrote seen start old i → Wrote (seen ++ xs) start new r
