-- `sheet_lines::read_depth` meets its contract.

use mathlib.Core.Path.{◌≡◌, ◌∙◌, ap}
use Rattle.refusals.specs.Refusal.{reply_of}
use Rattle.sheet_lines.specs.Depth.{depth_verdict, depth_line}
use Rattle.sheet_lines.specs.declared.DepthLine.{DepthLine}
use Rattle.sheet_lines.proofs.Depth.{depth_line-verdict}
use Rattle.sheet_lines.proofs.read_depth.Goals as goal

pub returns : goal.returns
unfolding depth_line depth_verdict
returns c =
    let line : c.with_depth.result ≡ depth_line c.args.input.now =
    rw (c.with_depth.ensures, c.test_depth.ensures, c.depth_field-field.ensures) in
    record { reply = ap reply_of (ap (λ (l : DepthLine). l.verdict) line ∙ depth_line-verdict _); depth = ap (λ (l : DepthLine). l.depth) line }
