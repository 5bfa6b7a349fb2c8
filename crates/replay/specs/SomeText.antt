-- What is known of an answer that comes from a file: no contract says what a file holds, so it is some text, of which all that was read counts. Cited
-- by the functions of `replay` that read it and print what comes of it.
use Rattle.std.specs.Prelude.{ℕ, ◌≡◌, Bool, false, List, length}
use Rattle.program_replay.specs.Printed.{replay_text}

-- P holds of the text that was read, of so many bytes
pub record SomeText (got : ℕ) (P : List ℕ → Type 0) : Type 0 where
  pub text : List ℕ
  pub counted : length text ≡ got
  pub holds : P text

-- `printed` is all that is printed for the input s and its answer: the text that was read, or any while there may be more of it
abbrev pub PrintedFor : List ℕ → Bool → List ℕ → List ℕ → Type 0
PrintedFor s more printed text = (answer : List ℕ) → (more ≡ false → answer ≡ text) → printed ≡ replay_text s answer
