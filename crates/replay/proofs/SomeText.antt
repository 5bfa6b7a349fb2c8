-- A law of specs/SomeText.antt. Cited by the proof of `scan_file`.
use Prim.Native.Nat.{ℕ, ◌+◌}
use mathlib.Core.Path.{◌≡◌, sym, ◌∙◌, ap}
use mathlib.Core.List.{List, ◌++◌}
use lib.ListN.{length, length-append}
use Rattle.answer_scan.specs.Scan.{ScanBehind, Reads}
use Rattle.answer_scan.specs.declared.Scan.{Scan}
use Rattle.replay.specs.SomeText.{SomeText}

-- a scan that is behind all that was read is so behind one piece more, where this is scanned and counted
pub one_more : {got all : ℕ} {scan r : Scan} {old new piece : List ℕ} → SomeText got (λ text. ScanBehind text scan old) → Reads scan piece r old new
    → all ≡ got + length piece → SomeText all (λ text. ScanBehind text r new)
one_more {piece = piece} so_far reads e =
    record {
      text = so_far.text ++ piece;
      counted = length-append so_far.text piece ∙ ap (λ (n : ℕ). n + length piece) so_far.counted ∙ sym e;
      holds = reads so_far.text so_far.holds;
    }
