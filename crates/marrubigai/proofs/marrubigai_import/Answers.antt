-- `marrubigai::marrubigai_import` meets its contract: what is delivered of its own unpacked lists is what `answers` says of it.
use Rattle.sheet_reader.proofs.Delivery.{deliverable}
use Rattle.marrubigai.proofs.TextReplies.{Answers, text-fits, answers}
use Rattle.marrubigai.proofs.marrubigai_import.Goals as goal

pub deliver_latches-requires : goal.deliver_latches-requires
deliver_latches-requires c =
    (deliverable c.args.latches.now c.args.gates.now
    (text-fits c.args.text.now c.args.m c.args.n c.args.word c.args.unknown c.args.second_port c.args.latches.now c.args.gates.now)
    c.import_text-sheet.result _ _ c.import_text-sheet.ensures).0

pub deliver_gates-requires : goal.deliver_gates-requires
deliver_gates-requires c =
    (deliverable c.args.latches.now c.args.gates.now
    (text-fits c.args.text.now c.args.m c.args.n c.args.word c.args.unknown c.args.second_port c.args.latches.now c.args.gates.now)
    c.import_text-sheet.result _ _ c.import_text-sheet.ensures).1

pub returns : goal.returns
returns c =
    let all : Answers c.args.text.now c.args.m c.args.n c.args.word c.args.unknown c.args.second_port c.args.latches.now c.args.gates.now
    c.sheet_numbers.result c.deliver_latches.new.list c.deliver_gates.new.list =
    rw (c.sheet_numbers.ensures, c.deliver_latches.ensures, c.deliver_gates.ensures)
    (answers c.args.text.now c.args.m c.args.n c.args.word c.args.unknown c.args.second_port c.args.latches.now c.args.gates.now
    c.import_text-sheet.result _ _ c.import_text-sheet.ensures) in
    record { reply = all.0; latches = all.1.0; gates = all.1.1.0; accepted = all.1.1.1.0; written = all.1.1.1.1 }
