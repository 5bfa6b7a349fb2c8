-- `replay::scan_file` meets its contract. The loop's invariant: the scan is behind a text of as many bytes as were read. Each full piece leaves fewer
-- that can be read, so the loop ends.

use Prim.Native.Nat.{◌-◌, ◌^◌, ◌<◌}
use mathlib.Core.Path.{◌≡◌}
use mathlib.Core.Bool.{true}
use lib.ListN.{length}
use Rattle.answer_scan.specs.Scan.{LineKept, ScanBehind}
use Rattle.replay.specs.SomeText.{SomeText}
use Rattle.replay.proofs.scan_file.Given as goal

abbrev pub invariant-loop-more : goal.invariant-loop-more
invariant-loop-more g l =
    (length l.piece ≡ 65536) × LineKept l.scan.position l.scan.line × SomeText l.got (λ text. ScanBehind text l.scan l.signs) × (l.more ≡ true → l.got < 2 ^ 63)

abbrev pub decreases-loop-more : goal.decreases-loop-more
decreases-loop-more g l = 2 ^ 64 - l.got
