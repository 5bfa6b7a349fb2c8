-- `sheet_lines::read_line` meets its contract: length and line feed, then the letter and the three parts.

use mathlib.Core.Path.{sym, ◌∙◌}
use native.Mathlib.Omega.{arith}
use Rattle.sheet_lines.specs.Lines.{field_in}
use Rattle.sheet_lines.proofs.Lines.{line_of-fields, line_of-length, line_of-no-feed, lines-as-written}
use Rattle.sheet_lines.proofs.read_line.Goals as goal

pub returns-then-line-eq10 : goal.returns-then-line-eq10
unfolding field_in
returns-then-line-eq10 c =
    let line = c.args.line.now in
    record {
      line = c.line_with.ensures
          ∙ rw (c.kind_of-kind.ensures, c.read_field-first.ensures, c.read_field-second.ensures, c.read_field-third.ensures)
          (sym (line_of-fields line (omega arith) (omega arith)));
      written = lines-as-written;
    }

pub returns-else-line-eq10 : goal.returns-else-line-eq10
returns-else-line-eq10 c =
    record { line = sym (line_of-no-feed c.args.line.now c.if-line-eq32.true c.if-line-eq10.false); written = lines-as-written }

pub returns-else-line-eq32 : goal.returns-else-line-eq32
returns-else-line-eq32 c = record { line = sym (line_of-length c.args.line.now c.if-line-eq32.false); written = lines-as-written }
