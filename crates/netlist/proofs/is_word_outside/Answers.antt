-- `netlist::is_word_outside` meets its contract: nothing is left of a word once its n bits are shifted out.

use mathlib.Core.Path.{sym}
use native.Mathlib.Omega.{arith}
use Rattle.netlist.proofs.Faults.{word-outside, word-inside}
use Rattle.netlist.proofs.is_word_outside.Goals as goal

pub returns-then-n-lt32 : goal.returns-then-n-lt32
returns-then-n-lt32 c = sym (word-outside c.args.n c.args.word)

pub returns-else-n-lt32 : goal.returns-else-n-lt32
returns-else-n-lt32 c = sym (word-inside c.args.n c.args.word (omega arith) (omega arith))
