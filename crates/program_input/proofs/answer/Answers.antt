-- `program_input::answer` meets its contract: it is the definition.

use Rattle.program_input.proofs.answer.Goals as goal

pub returns : goal.returns
returns c = rw (c.reply_of-reply.ensures, c.depth_beside.ensures)
