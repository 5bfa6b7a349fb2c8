-- `call_lists::unpack::unpack_latches`: its loop, a turn for each record that is read.
use Rattle.std.proofs.Common.{◌≡◌}
use Rattle.call_lists.proofs.Unpacked.{unpacked_to}
use Rattle.call_lists.specs.declared.LatchEntry.{LatchEntry}
use Rattle.call_lists.proofs.unpack.unpack_latches.Given as goal

-- the first records are unpacked, and behind them the numbers are as they were
abbrev pub invariant-loop-l : goal.invariant-loop-l
invariant-loop-l l = l.codes ≡ unpacked_to (λ (x : LatchEntry). x.next.0) (λ (x : LatchEntry). x.reset) l.latches l.initial.codes l.l
