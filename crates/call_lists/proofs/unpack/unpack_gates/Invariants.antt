-- `call_lists::unpack::unpack_gates`: its loop, a turn for each record that is read.
use Rattle.std.proofs.Common.{◌≡◌}
use Rattle.call_lists.proofs.Unpacked.{unpacked_to}
use Rattle.call_lists.specs.declared.GateEntry.{GateEntry}
use Rattle.call_lists.proofs.unpack.unpack_gates.Given as goal

-- the first records are unpacked, and behind them the numbers are as they were
abbrev pub invariant-loop-g : goal.invariant-loop-g
invariant-loop-g l = l.codes ≡ unpacked_to (λ (x : GateEntry). x.left.0) (λ (x : GateEntry). x.right.0) l.gates l.initial.codes l.g
