-- A signed number taken apart (RULES W4). Cited by `parts_of`, and by the laws of a step of an invariant.
use Rattle.std.specs.Prelude.{suc, ℤ, pos, negsuc}
use Rattle.text_writer.specs.declared.Parts.{Parts}

-- a minus takes one byte, and stands only below zero
abbrev pub parts_of : ℤ → Parts
parts_of (pos n) = record { sign = 0; value = n }
parts_of (negsuc n) = record { sign = 1; value = suc n }
