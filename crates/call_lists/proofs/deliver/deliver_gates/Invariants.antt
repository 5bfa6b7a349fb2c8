-- `call_lists::deliver::deliver_gates`: its loop, a turn for each record that is written.
use Rattle.std.proofs.Common.{◌≡◌}
use Rattle.call_lists.specs.RecordAt.{gate_at}
use Rattle.call_lists.specs.Delivered.{delivered}
use Rattle.call_lists.proofs.deliver.deliver_gates.Given as goal

-- the first records are delivered, and the rest is as it was
abbrev pub invariant-loop-g : goal.invariant-loop-g
invariant-loop-g l = l.list ≡ delivered l.g (gate_at l.codes) l.initial.list
