-- `sheet_parse::parse_line` meets its contract: the part of 32 bytes behind the lines before.

use Prim.Native.Nat.{◌+◌, ◌-◌, ◌*◌}
use mathlib.Core.Path.{◌≡◌, ◌∙◌}
use native.Mathlib.Omega.{arith}
use Rattle.sheet_parse.specs.Files.{line_in}
use Rattle.sheet_parse.proofs.parse_line.Goals as goal

pub returns : goal.returns
unfolding line_in
returns c =
    let line = c.args.line in
    let behind : line + 1 - 1 ≡ line = omega arith in
    let size : 32 * line + 32 - 32 * line ≡ 32 = omega arith in
    c.read_line.ensures.line ∙ rw (size, behind)
