-- `program_replay::replay_read` meets its contract: what the table says is what the text says.

use mathlib.Core.Path.{◌∙◌}
use Rattle.replay_answer.proofs.ReplayAnswer.{replay-is, memory-is, trace-is}
use Rattle.program_replay.proofs.replay_read.Goals as goal

pub returns : goal.returns
returns c =
    let told = c.replay.ensures in record {
      answer = λ text read. c.reply_of.ensures ∙ told.answer ∙ replay-is _ _ _ _ read _ _;
      memory = λ text read. told.memory ∙ memory-is _ _ _ _ read _ _;
      trace = λ text read. told.trace ∙ trace-is _ _ _ _ read _ _;
    }
