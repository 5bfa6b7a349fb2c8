-- The variables that the lines of an ASCII AIGER text define, the first line that defines one again (RULES T11) and the first with a
-- literal whose variable is not defined (RULES T13). Lines as in RULES I3. Cited by `first_repeat`, `first_undefined` and the import.
use Rattle.std.specs.Prelude.{ℕ, ◌+◌, ◌/◌, Bool, false, cond, not, ◌&&◌, ◌||◌, List, eqb, ltb, get_or}
use Rattle.model.specs.Search.{seen}
use Rattle.aiger_lines.specs.Parts.{numbers_on_line, counts_in, lines_due, part_at, defines}
use Rattle.aiger_lines.specs.declared.Part.{Part}
use Rattle.aiger_lines.specs.declared.Part.TheVariants.{Header, Input, Latch, Output, Gate}

-- number k on line p, both counted as in numbers_on_line; 0 where there is none
abbrev pub number_at : List ℕ → ℕ → ℕ → ℕ
number_at s p k = get_or (numbers_on_line s p) k 0

-- the variable that line p defines; 0, which no line may define, where it defines none
unfoldable pub defined_at : List ℕ → ℕ → ℕ
defined_at s p = cond (defines (part_at (counts_in s) p)) (number_at s p 0 / 2) 0

-- RULES T11: line p defines a variable that an earlier line defines
unfoldable pub defines_again : List ℕ → ℕ → Bool
defines_again s p = not (eqb (defined_at s p) 0) && seen (defined_at s) p (defined_at s p)

-- a literal above 1 whose variable no line before line p defines
unfoldable pub is_undefined : List ℕ → ℕ → ℕ → Bool
is_undefined s p x = ltb 1 x && not (seen (defined_at s) p (x / 2))

-- a literal above 1 whose variable no line defines
abbrev pub never_defined : List ℕ → ℕ → Bool
never_defined s x = is_undefined s (lines_due (counts_in s) + 1) x

-- RULES T13: an operand of a gate that is not defined before its line, or a latch's next literal or an output that is never defined
abbrev pub undefined_in : List ℕ → ℕ → Part → Bool
undefined_in s p Header = false
undefined_in s p Input = false
undefined_in s p Latch = never_defined s (number_at s p 1)
undefined_in s p Output = never_defined s (number_at s p 0)
undefined_in s p Gate = is_undefined s p (number_at s p 1) || is_undefined s p (number_at s p 2)

unfoldable pub undefined_at : List ℕ → ℕ → Bool
undefined_at s p = undefined_in s p (part_at (counts_in s) p)
