-- `replay_answer::replay` meets its contract: what the table says is what the text says.

use mathlib.Core.Path.{◌∙◌}
use Rattle.replay_answer.proofs.ReplayAnswer.{replay-is, memory-is, trace-is}
use Rattle.replay_answer.proofs.replay.Goals as goal

pub returns : goal.returns
returns c =
    let read = c.read_answer-kind.ensures in
    let told = c.replay.ensures in record {
      answer = c.reply_of.ensures ∙ told.answer ∙ replay-is _ _ _ _ read _ _;
      memory = told.memory ∙ memory-is _ _ _ _ read _ _;
      trace = told.trace ∙ trace-is _ _ _ _ read _ _;
    }
