-- `sheet_reader::read` meets its contract: what is delivered of its own unpacked lists is what `reads` says of it.
use Rattle.model.proofs.Dependence.{paths}
use Rattle.sheet_reader.proofs.Delivery.{deliverable}
use Rattle.sheet_reader.proofs.ReadCall.{Reads, sheet-fits, reads}
use Rattle.sheet_reader.proofs.read.Goals as goal

pub deliver_latches-requires : goal.deliver_latches-requires
deliver_latches-requires c =
    (deliverable c.args.latches.now c.args.gates.now (sheet-fits c.args.file.now c.args.latches.now c.args.gates.now)
    c.read_codes-sheet.result _ _ c.read_codes-sheet.ensures).0

pub deliver_gates-requires : goal.deliver_gates-requires
deliver_gates-requires c =
    (deliverable c.args.latches.now c.args.gates.now (sheet-fits c.args.file.now c.args.latches.now c.args.gates.now)
    c.read_codes-sheet.result _ _ c.read_codes-sheet.ensures).1

pub returns : goal.returns
returns c =
    let all : Reads c.args.file.now c.args.latches.now c.args.gates.now c.read_codes-sheet.result c.deliver_latches.new.list c.deliver_gates.new.list =
    rw (c.deliver_latches.ensures, c.deliver_gates.ensures)
    (reads c.args.file.now c.args.latches.now c.args.gates.now c.read_codes-sheet.result _ _ c.read_codes-sheet.ensures) in
    record {
      reply = all.0;
      «record» = all.1.0;
      latches = all.1.1.0;
      gates = all.1.1.1.0;
      accepted = all.1.1.1.1.0;
      paths = paths;
    }
