-- What an output holds of a text that is written in pieces, until a write fails. Cited by the functions of `frames` that print.
use Rattle.std.specs.Prelude.{ℕ, ◌≡◌, Bool, false, List}
use Rattle.std.specs.Io.KnownBytes.{Appends}
use Rattle.std.specs.declared.option.Option.{Option}

-- where no write has failed, none had failed before, and what the output holds has grown by a text
abbrev pub Written : Bool → Bool → Option (List ℕ) → Option (List ℕ) → List ℕ → Type 0
Written failed_before failed before after text = failed ≡ false → (failed_before ≡ false) × Appends before after text
