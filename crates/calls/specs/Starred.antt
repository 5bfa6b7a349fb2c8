-- The starred facts about the sheet of the full run (RULES F1 to F3, F7 to F10, F13 to F15, P8), as rows of one table: of the sheet's bytes, and of the netlist
-- that they are read as. Nine rows, one claim, `Starred`. Cited by the contract of `heading`.
use Rattle.std.specs.Prelude.{ℕ, ◌≡◌, List, [], ◌∷◌, ◌++◌, map, length}
use Rattle.refusals.specs.Verdict.{Verdict}
use Rattle.model.specs.Netlist.{Netlist}
use Rattle.model.specs.Variables.{base}
use Rattle.model.specs.Numbers.{numbers_of, formula, clauses_in}
use Rattle.model.specs.declared.Group.TheVariants.{Pair}
use Rattle.refusals.specs.Refusal.{reply_of}
use Rattle.decimal.specs.Digits.{line_feed, field, empty_field}
use Rattle.sheet_lines.specs.Depth.{depth_verdict}
use Rattle.sheet_parse.specs.Files.{net_in}
use Rattle.sheet_tests.specs.Sheet.{sheet_verdict}
use Rattle.sheet_text.specs.SheetText.{line}
use Rattle.call_unpacked.specs.Calls.{group_verdict, heading_verdict}

-- it has the lines `N 1 0 0`, `M 1 1 0`, `A 0`, `D 2`, `C 1 1 5` (RULES P8); or another address code
unfoldable pub sheet : ℕ → List ℕ
sheet address =
    line 78 (field 1) (field 0) (field 0)
    ++ line 77 (field 1) (field 1) (field 0)
    ++ line 65 (field address) empty_field empty_field
    ++ line 68 (field 2) empty_field empty_field
    ++ line 67 (field 1) (field 1) (field 5)

-- the netlist that it is read as
unfoldable pub net : Netlist
net = net_in (sheet 0)

-- the numbers that the definitions give, and those that the rules state
pub record Row : Type 0 where
  pub found : List ℕ
  pub stated : List ℕ

abbrev pub row : List ℕ → List ℕ → Row
row f s = record { found = f; stated = s }

-- number and place of a verdict
abbrev pub sent : Verdict → List ℕ
sent v = (reply_of v).number ∷ (reply_of v).place ∷ []

-- the depth line of a depth
abbrev pub depth_text : ℕ → List ℕ
depth_text k = field k ++ line_feed ∷ []

unfoldable pub rows : List Row
rows =
    -- RULES F1 to F3: B(0), B(1) and B(2)
    row (base net 0 ∷ []) (1 ∷ [])
    ∷ row (base net 1 ∷ []) (3 ∷ [])
    ∷ row (base net 2 ∷ []) (10 ∷ [])
    -- RULES F13 and F14: the pair has 10 clauses and 31 numbers: a slice of 31 takes it, 30 gives 9
    ∷ row (length (clauses_in (numbers_of net 1 (Pair 0 1 1))) ∷ []) (10 ∷ [])
    ∷ row (length (numbers_of net 1 (Pair 0 1 1)) ∷ sent (group_verdict net 0 0 1 (Pair 0 1 1) 31) ++ sent (group_verdict net 0 0 1 (Pair 0 1 1) 30))
    (31 ∷ 0 ∷ 0 ∷ 9 ∷ 0 ∷ [])
    -- RULES F15: depth 1 has 15 clauses
    ∷ row (length (clauses_in (formula net 1)) ∷ []) (15 ∷ [])
    -- RULES F7: address code 0 is taken, 4 gives 6 at line 3
    ∷ row (sent (sheet_verdict (sheet 0) 0 0) ++ sent (sheet_verdict (sheet 4) 0 0)) (0 ∷ 0 ∷ 6 ∷ 3 ∷ [])
    -- RULES F8: depth 255 is taken, 256 gives 7, in a call and on the depth line
    ∷ row (sent (heading_verdict net 0 0 255) ++ sent (heading_verdict net 0 0 256) ++ sent (depth_verdict (depth_text 255)) ++ sent (depth_verdict (depth_text 256)))
    (0 ∷ 0 ∷ 7 ∷ 0 ∷ 0 ∷ 0 ∷ 7 ∷ 0 ∷ [])
    -- RULES F9: pair (1, 1) gives 8
    ∷ row (sent (group_verdict net 0 0 1 (Pair 1 1 1) 31)) (8 ∷ 0 ∷ [])
    ∷ []

-- the single claim: in every row what is found is what the rules state (RULES F10)
abbrev pub Starred : Type 0
Starred = map (λ (r : Row). r.found) rows ≡ map (λ (r : Row). r.stated) rows
