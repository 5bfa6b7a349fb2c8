-- `marrubigai::marrubigai_write_group_at` meets its contract: what `write_group_at` answers and leaves is said of the lent lists.
use Rattle.call_lists.specs.Lent.{net_lent}
use Rattle.call_position.proofs.GroupsAt.{by-frame}
use Rattle.call_replies.specs.Replies.{group_of}
use Rattle.calls.proofs.Lent.{net_of-lent}
use Rattle.std.proofs.Common.{length}
use Rattle.marrubigai.proofs.marrubigai_write_group_at.Goals as goal

pub returns-clause-answer : goal.returns-clause-answer
returns-clause-answer c =
    let same = net_of-lent c.args.net c.args.latches.now c.args.gates.now _ _ c.unpack_latches.ensures c.unpack_gates.ensures in
    rw same at c.write_group_at.ensures.answer

pub returns-clause-borrowed : goal.returns-clause-borrowed
returns-clause-borrowed c =
    let same = net_of-lent c.args.net c.args.latches.now c.args.gates.now _ _ c.unpack_latches.ensures c.unpack_gates.ensures in
    rw same at c.write_group_at.ensures.borrowed

pub returns-clause-by_frame : goal.returns-clause-by_frame
returns-clause-by_frame c =
    by-frame (net_lent c.args.net c.args.latches.now c.args.gates.now) (length c.args.latches.now) (length c.args.gates.now) c.args.position
    (group_of c.args.kind c.args.j c.args.position.frame c.args.port) c.args.out.now
