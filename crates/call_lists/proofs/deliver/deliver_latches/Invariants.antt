-- `call_lists::deliver::deliver_latches`: its loop, a turn for each record that is written.
use Rattle.std.proofs.Common.{◌≡◌}
use Rattle.call_lists.specs.RecordAt.{latch_at}
use Rattle.call_lists.specs.Delivered.{delivered}
use Rattle.call_lists.proofs.deliver.deliver_latches.Given as goal

-- the first records are delivered, and the rest is as it was
abbrev pub invariant-loop-l : goal.invariant-loop-l
invariant-loop-l l = l.list ≡ delivered l.l (latch_at l.codes) l.initial.list
