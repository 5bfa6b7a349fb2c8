-- `answer_scan::scan_start` meets its contract.

use mathlib.Core.Path.{refl}
use mathlib.Core.List.{[]}
use native.Mathlib.Omega.{arith}
use Rattle.answer_scan.proofs.Steps.{one-short}
use Rattle.answer_scan.proofs.Pieces.{behind-start}
use Rattle.answer_scan.proofs.scan_start.Goals as goal

pub returns : goal.returns
returns c =
    record { holds = record { full = refl; within = omega arith; one_number = one-short [] (omega arith) }; behind = behind-start _ refl refl }
