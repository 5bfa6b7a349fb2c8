-- The one sheet that stands for a netlist (RULES S1 to S5, S11, S14, B1 and B2), line after line, and the input of a depth and a sheet (RULES P1). Cited by
-- what is promised of sheets: that one is certified, and how one is written.
use Rattle.std.specs.Prelude.{ℕ, cond, List, ◌∷◌, [], ◌++◌, eqb}
use Rattle.model.specs.Gather.{gather}
use Rattle.model.specs.Netlist.{Netlist, Start, given, unknown, start}
use Rattle.decimal.specs.Digits.{line_feed, field, empty_field}

-- RULES S1: "a letter, three fields of ten columns each, a line feed"
abbrev pub line : ℕ → List ℕ → List ℕ → List ℕ → List ℕ
line letter a b c = letter ∷ a ++ b ++ c ++ line_feed ∷ []

-- RULES S11: the initial word, or an empty field where the start is unknown
unfoldable pub word_field : Start → List ℕ
word_field (given word) = field word
word_field unknown = empty_field

-- RULES S5: line N, line M or T (RULES S14), and for each latch, gate, address code and write-data code a line L, G, A and D; for a second port its address
-- codes and its RE, lines B and R; and line C
unfoldable pub sheet_text : Netlist → List ℕ
sheet_text c =
    line 78 (field c.inputs) (field c.latches) (field c.gates)
    ++ line (cond (eqb c.second_port 0) 77 84) (field c.m) (field c.n) (word_field (start c))
    ++ gather c.latches (λ l. line 76 (field (c.next l)) (field (c.reset l)) empty_field)
    ++ gather c.gates (λ g. line 71 (field (c.left g)) (field (c.right g)) empty_field)
    ++ gather c.m (λ t. line 65 (field (c.address t)) empty_field empty_field)
    ++ gather c.n (λ t. line 68 (field (c.write_data t)) empty_field empty_field)
    ++ gather c.second_port (λ p. gather c.m (λ t. line 66 (field (c.address2 t)) empty_field empty_field) ++ line 82 (field c.RE2) empty_field empty_field)
    ++ line 67 (field c.WE) (field c.RE) (field c.P)

-- RULES P1: "the depth in a field of ten columns .. and a line feed", then the sheet
unfoldable pub input_text : ℕ → Netlist → List ℕ
input_text depth c = field depth ++ line_feed ∷ sheet_text c
