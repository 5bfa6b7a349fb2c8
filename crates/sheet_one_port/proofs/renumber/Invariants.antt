-- `sheet_one_port::renumber` meets its contract. The loop has renumbered the entries up to i.

use Prim.Native.Nat.{ℕ}
use Rattle.model.specs.OnePort.{one_code}
use Rattle.netlist.specs.NetOf.{alone}
use Rattle.sheet_one_port.proofs.Mapped.{Mapped}
use Rattle.sheet_one_port.proofs.renumber.Given as goal

abbrev pub invariant-loop-i : goal.invariant-loop-i
invariant-loop-i l = Mapped (λ (x : ℕ). x) 0 (one_code (alone l.net)) l.initial.codes l.i l.codes
