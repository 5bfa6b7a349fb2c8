-- `answer_scan::scan_bytes` meets its contract. The loop's invariant: the first bytes are taken.

use mathlib.Core.Path.{◌≡◌, refl}
use mathlib.Core.List.{[], ◌∷◌}
use native.Mathlib.Numerals.{add-one}
use native.Mathlib.Omega.{arith}
use lib.ListN.{get_or, take}
use lib.Seq.{take-suc, take_all}
use Rattle.answer_scan.proofs.Steps.{passed-taken}
use Rattle.answer_scan.proofs.Pieces.{taken_then, behind-next}
use Rattle.answer_scan.proofs.scan_bytes.Goals as goal

pub loop-byte-init : goal.loop-byte-init
loop-byte-init c = (c.requires, passed-taken (λ t. refl))

pub loop-byte-preserved : goal.loop-byte-preserved
loop-byte-preserved c =
    let byte = c.scan_byte-position.ensures in
    let piece = c.args.piece.now in (
      byte.holds,
      rw (add-one, take-suc piece c.loop-byte.byte-index 0 (omega arith))
          (taken_then (get_or piece c.loop-byte.byte-index 0 ∷ []) c.loop-byte.invariant.1 byte.taken),
    )

pub returns : goal.returns
returns c =
    let piece = c.args.piece.now in
    let all : take c.loop-byte.byte-index piece ≡ piece = take_all c.loop-byte.byte-index piece (omega arith) in
    record { holds = c.loop-byte.invariant.0; behind = behind-next c.args.scan (record { position = c.loop-byte.position; line = c.loop-byte.line }) piece c.args.signs.now c.loop-byte.signs (rw all at c.loop-byte.invariant.1) }
