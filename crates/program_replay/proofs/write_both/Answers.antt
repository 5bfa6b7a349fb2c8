-- `program_replay::write_both` meets its contract: one text behind the other.

use Rattle.model.proofs.Wrote.{wrote_then}
use Rattle.program_replay.proofs.write_both.Goals as goal

pub returns : goal.returns
returns c =
    wrote_then c.args.first.now c.args.second.now c.args.out.now c.write_word-count.new.out c.write_word.new.out c.write_word-count.result c.write_word.result c.write_word-count.ensures c.write_word.ensures
