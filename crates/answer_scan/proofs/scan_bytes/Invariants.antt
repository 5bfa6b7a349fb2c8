-- `answer_scan::scan_bytes` meets its contract. The loop's invariant: the first bytes are taken.

use lib.ListN.{take}
use Rattle.answer_scan.specs.Scan.{line_begun, LineKept, Taken}
use Rattle.answer_scan.proofs.scan_bytes.Given as goal

abbrev pub invariant-loop-byte : goal.invariant-loop-byte
invariant-loop-byte l =
    LineKept l.position l.line
    × Taken l.initial.position.progress (line_begun l.initial.position l.initial.line) (take l.byte-index l.piece) l.position.progress (line_begun l.position l.line) l.initial.signs l.signs
