-- `invariant_start::word_starts` meets its contract.

use Rattle.model.specs.Bits.{odd, bit}
use Rattle.netlist.specs.NetOf.{net_of}
use Rattle.invariant_start.proofs.Numbers.{word-given, word-unknown}
use Rattle.invariant_start.proofs.word_starts.Goals as goal

pub returns-then-net-eq0 : goal.returns-then-net-eq0
unfolding net_of bit odd
returns-then-net-eq0 c =
    word-given c.args.net.initial_word c.args.net.unknown_start c.args.t c.args.value c.if-net-eq0.true

pub returns : goal.returns
unfolding net_of
returns c =
    word-unknown c.args.net.initial_word c.args.net.unknown_start c.args.t c.args.value c.if-net-eq0.false
