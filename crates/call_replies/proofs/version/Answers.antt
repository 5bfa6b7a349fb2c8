-- `call_replies::version` meets its contract.

use mathlib.Core.Path.{refl}
use Rattle.call_replies.specs.Replies.{header_version}
use Rattle.call_replies.proofs.version.Goals as goal

pub returns : goal.returns
unfolding header_version
returns c = refl
