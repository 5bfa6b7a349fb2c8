-- `marrubigai::marrubigai_export` meets its contract: what `export_binary` answers and leaves is said of the lent lists, its answer in numbers.
use Rattle.std.proofs.Common.{◌∙◌}
use Rattle.calls.proofs.Lent.{net_of-lent}
use Rattle.marrubigai.proofs.marrubigai_export.Goals as goal

pub returns-clause-answer : goal.returns-clause-answer
returns-clause-answer c =
    let same = net_of-lent c.args.net c.args.latches.now c.args.gates.now _ _ c.unpack_latches.ensures c.unpack_gates.ensures in
    let sent = rw same at c.export_binary.ensures.answer in
    c.count_numbers.ensures ∙ sent

pub returns-clause-borrowed : goal.returns-clause-borrowed
returns-clause-borrowed c =
    let same = net_of-lent c.args.net c.args.latches.now c.args.gates.now _ _ c.unpack_latches.ensures c.unpack_gates.ensures in
    rw same at c.export_binary.ensures.borrowed
