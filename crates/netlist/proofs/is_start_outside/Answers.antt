-- `netlist::is_start_outside` meets its contract: a word that is given is tested.

use mathlib.Core.Path.{sym, ◌∙◌}
use Rattle.netlist.proofs.Faults.{given-fault, unknown-fault}
use Rattle.netlist.proofs.is_start_outside.Goals as goal

pub is_word_outside-requires : goal.is_word_outside-requires
is_word_outside-requires c = tt

pub returns-then-unknown-eq0 : goal.returns-then-unknown-eq0
returns-then-unknown-eq0 c =
    c.is_word_outside.ensures ∙ sym (given-fault c.args.n c.args.word c.args.unknown c.if-unknown-eq0.true)

pub returns : goal.returns
returns c = sym (unknown-fault c.args.n c.args.word c.args.unknown c.if-unknown-eq0.false)
