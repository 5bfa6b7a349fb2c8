-- `sheet_one_port::renumber_codes` meets its contract. The loop has renumbered the codes before.

use Rattle.model.specs.OnePort.{one_code}
use Rattle.literals.specs.declared.Code.{Code}
use Rattle.netlist.specs.NetOf.{alone}
use Rattle.sheet_one_port.proofs.Mapped.{Mapped}
use Rattle.sheet_one_port.proofs.renumber_codes.Given as goal

abbrev pub invariant-loop-code : goal.invariant-loop-code
invariant-loop-code l = Mapped (λ (x : Code). x.0) (record { 0 = 0 }) (one_code (alone l.net)) l.initial.codes l.code-index l.codes
