-- What `one_port` prints for a file (RULES P3 and P25). Cited by `write_output` and by what the program writes.
use Rattle.std.specs.Prelude.{ℕ, ◌≤◌, ◌≡◌, List, ◌⊎◌}
use Rattle.refusals.specs.Verdict.{refuse}
use Rattle.refusals.specs.Refusal.{refusal_number}
use Rattle.refusals.specs.declared.Refusal.{Refusal}
use Rattle.program_input.specs.Input.{text_or_refusal}
use Rattle.sheet_one_port.specs.OnePortCall.{one_port_text, one_port_tests}

-- the sheet with one port, or the refusal; the buffer is the program's own
unfoldable pub one_port_output : List ℕ → List ℕ
one_port_output file = text_or_refusal (one_port_tests file) (one_port_text file)

-- RULES P25: "Only 1 to 6, 17 and 18 occur"
abbrev pub OnlyOnePortRefusals : Type 0
OnlyOnePortRefusals = (file : List ℕ) (r : Refusal) (p : ℕ) → one_port_tests file ≡ refuse r p
    → (refusal_number r ≤ 6) ⊎ ((refusal_number r ≡ 17) ⊎ (refusal_number r ≡ 18))
