-- All that `frames` prints, for an input s (RULES P2 and P3). Cited by `print_header` and by the functions of `frames` that print.
use Rattle.std.specs.Prelude.{ℕ, ◌+◌, List, ◌++◌, length}
use Rattle.model.specs.Netlist.{Netlist}
use Rattle.model.specs.Variables.{base}
use Rattle.model.specs.Numbers.{formula, clauses_in}
use Rattle.dimacs.specs.Text.{header_text, clause_text}
use Rattle.program_input.specs.Input.{text_for}

-- RULES P2: "`p cnf`, the number of variables, the number of clauses", of depth k
unfoldable pub formula_header : Netlist → ℕ → List ℕ
formula_header c k = header_text (base c (k + 1)) (length (clauses_in (formula c k)))

-- the clauses behind it. RULES P2: "then one clause a line"
unfoldable pub formula_text : Netlist → ℕ → List ℕ
formula_text c k = formula_header c k ++ clause_text (formula c k)

-- of the sheet's netlist and the depth; or the refusal
unfoldable pub frames_text : List ℕ → List ℕ
frames_text s = text_for formula_text s
