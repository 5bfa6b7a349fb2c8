-- `dimacs::clauses_fit` meets its contract. The loop's invariant: what remains, and the text of the first numbers, are the room.

use Prim.Native.Nat.{◌+◌}
use mathlib.Core.Path.{◌≡◌}
use lib.ListN.{length, take}
use Rattle.dimacs.specs.Text.{clause_text}
use Rattle.dimacs.proofs.clauses_fit.Given as goal

abbrev pub invariant-loop-z : goal.invariant-loop-z
invariant-loop-z l = l.remaining + length (clause_text (take l.z-index l.numbers)) ≡ l.room
