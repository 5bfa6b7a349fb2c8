-- `replay::scan_file` meets its contract. The loop's invariant: the scan is behind a text of as many bytes as were read. Each full piece leaves fewer
-- that can be read, so the loop ends.

use mathlib.Core.Path.{◌≡◌}
use native.Mathlib.Omega.{arith}
use borrow.Author.Rules.{rules}
use lib.ListN.{length}
use lib.Seq.{length-take-le}
use Rattle.replay.proofs.SomeText.{one_more}
use Rattle.replay.proofs.scan_file.Goals as goal

pub returns-then-bytes-lt65536-clause-behind : goal.returns-then-bytes-lt65536-clause-behind
returns-then-bytes-lt65536-clause-behind g c =
    one_more c.loop-more.invariant.2 c.scan_bytes.ensures.behind (omega (arith, c.read_piece-bytes.ensures.counted, length-take-le c.read_piece-bytes.result c.read_piece-bytes.new.piece (search rules)))

pub loop-more-preserved : goal.loop-more-preserved
loop-more-preserved g c =
    let inv = c.loop-more.invariant in
    let full : length c.read_piece-bytes.new.piece ≡ 65536 = search rules in (
      full,
      c.scan_bytes-scan.ensures.holds,
      one_more inv.2 c.scan_bytes-scan.ensures.behind (omega (arith, full, c.read_piece-bytes.ensures.within, c.read_piece-bytes.ensures.counted, c.if-bytes-lt65536.false)),
      λ h. (c.read_piece-bytes.ensures.more h).1,
    )
