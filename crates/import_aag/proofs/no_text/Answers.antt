-- `import_aag::no_text` meets its contract. The array is not spelled out: a law tells its length.

use Prim.Native.Nat.{ℕ}
use lib.ListN.{length-replicate}
use Rattle.import_aag.proofs.no_text.Goals as goal

pub returns : goal.returns
returns c = length-replicate {0} {A = ℕ} 4194305 0
