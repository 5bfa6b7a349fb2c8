-- `calls::write_group` meets its contract: what the call over unpacked lists answers and leaves is said of the lent lists.
use Rattle.calls.proofs.Lent.{net_of-lent}
use Rattle.calls.proofs.write_group.Goals as goal

pub returns-clause-answer : goal.returns-clause-answer
returns-clause-answer c =
    let same = net_of-lent c.args.net c.args.latches.now c.args.gates.now _ _ c.unpack_latches.ensures c.unpack_gates.ensures in
    rw same at c.write_group.ensures.answer

pub returns-clause-borrowed : goal.returns-clause-borrowed
returns-clause-borrowed c =
    let same = net_of-lent c.args.net c.args.latches.now c.args.gates.now _ _ c.unpack_latches.ensures c.unpack_gates.ensures in
    rw same at c.write_group.ensures.borrowed
