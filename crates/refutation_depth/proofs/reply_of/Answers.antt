-- `refutation_depth::reply_of` meets its contract.

use Rattle.refutation_depth.specs.Certificate.{certificate_reply}
use Rattle.refutation_depth.proofs.reply_of.Goals as goal

pub returns-in-Refuted : goal.returns-in-Refuted
unfolding certificate_reply
returns-in-Refuted c = rw c.in-Refuted.is

pub returns-in-Unjustified : goal.returns-in-Unjustified
unfolding certificate_reply
returns-in-Unjustified c = rw c.in-Unjustified.is
