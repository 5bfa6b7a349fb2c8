-- `program_import::write_output` meets its contract: all that was read, or the first of it.

use mathlib.Core.Path.{sym}
use native.Mathlib.Omega.{arith}
use lib.Seq.{length-take-le}
use Rattle.program_import.proofs.Room.{room-suffices, no-code-outside}
use Rattle.program_import.proofs.Prefix.{prefix-suffices}
use Rattle.program_import.proofs.Cut.{output-whole, output-cut}
use Rattle.program_import.proofs.write_output.Goals as goal

pub returns-then-read-le4194304 : goal.returns-then-read-le4194304
returns-then-read-le4194304 c =
    let w = c.write_import.ensures in
    record { text = rw (output-whole c.args.read.now c.args.m c.args.n c.args.word c.args.unknown c.args.second c.if-read-le4194304.true) w.text; most = w.most; room = room-suffices; codes = no-code-outside; prefix = prefix-suffices }

pub slice_bounds-write_import-end : goal.slice_bounds-write_import-end
slice_bounds-write_import-end c =
    sym (length-take-le 4194304 c.args.read.now (omega (arith, c.if-read-le4194304.false)))

pub returns : goal.returns
returns c =
    let w = c.write_import-2.ensures in
    record { text = rw (output-cut c.args.read.now c.args.m c.args.n c.args.word c.args.unknown c.args.second c.if-read-le4194304.false) w.text; most = w.most; room = room-suffices; codes = no-code-outside; prefix = prefix-suffices }
