-- Laws of specs/BinaryText.antt: a header in parts. No contract cites this file.
use Prim.Native.Nat.{ℕ}
use mathlib.Core.Path.{◌≡◌}
use mathlib.Core.List.{List, [], ◌∷◌, ◌++◌, append_assoc}
use Rattle.decimal.specs.Digits.{digits, space, line_feed}
use Rattle.text_words.specs.Words.{spaced}
use Rattle.aiger_lines.specs.Written.{numbers_text}
use Rattle.aiger_binary.specs.BinaryText.{aig, header_line}

-- a number with what stands behind it
abbrev ended : ℕ → ℕ → List ℕ
ended x byte = digits x ++ byte ∷ []

pub counts-text : (i l o g : ℕ) → ended i space ++ ended l space ++ ended o space ++ ended g line_feed ≡ numbers_text (i ∷ l ∷ o ∷ g ∷ []) ++ line_feed ∷ []
unfolding numbers_text spaced
counts-text i l o g = simp append_assoc

pub header-text : (m i l o g : ℕ)
    → (aig ++ space ∷ []) ++ ended m space ++ (numbers_text (i ∷ l ∷ o ∷ g ∷ []) ++ line_feed ∷ []) ≡ header_line (m ∷ i ∷ l ∷ o ∷ g ∷ [])
unfolding header_line numbers_text spaced
header-text m i l o g = simp append_assoc
