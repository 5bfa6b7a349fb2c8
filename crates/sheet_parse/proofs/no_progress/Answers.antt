-- `sheet_parse::no_progress` meets its contract: it is the definition.

use Rattle.sheet_steps.specs.Records.{record_beside}
use Rattle.sheet_parse.specs.Progress.{no_progress}
use Rattle.sheet_parse.proofs.no_progress.Goals as goal

pub returns : goal.returns
unfolding record_beside no_progress
returns c = rw c.empty_net.ensures
