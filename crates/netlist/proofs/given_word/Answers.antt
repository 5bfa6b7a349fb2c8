-- `netlist::given_word` meets its contract: each arm knows its number.

use mathlib.Core.Path.{sym}
use Rattle.model.proofs.Start.{given_word_lem, unknown-word}
use Rattle.netlist.proofs.given_word.Goals as goal

pub returns-in-0 : goal.returns-in-0
returns-in-0 c = sym (given_word_lem _ _ c.in-0.is)

pub returns-in_default : goal.returns-in_default
returns-in_default c = sym (unknown-word _ _ c.in_default.in_default-own.rest.1)
