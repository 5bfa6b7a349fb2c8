-- `replay_run::none_touched` meets its contract.

use mathlib.Core.Bool.{Bool, false}
use lib.ListN.{length-replicate, get_or-replicate}
use Rattle.replay_run.proofs.none_touched.Goals as goal

pub returns : goal.returns
returns c = (length-replicate {0} {A = Bool} 4096 false, λ x h. get_or-replicate {0} {A = Bool} 4096 x false false h)
