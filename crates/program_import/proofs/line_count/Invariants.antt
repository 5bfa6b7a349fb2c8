-- `program_import::line_count` meets its contract. The loop has counted the line feeds passed.

use Prim.Native.Nat.{◌≤◌}
use mathlib.Core.Path.{◌≡◌}
use lib.ListN.{length, take}
use Rattle.text_words.specs.Words.{lines_of}
use Rattle.program_import.proofs.line_count.Given as goal

abbrev pub invariant-loop-x : goal.invariant-loop-x
invariant-loop-x l = (l.lines ≡ length (lines_of (take l.x-index l.text))) × (l.lines ≤ l.x-index)
