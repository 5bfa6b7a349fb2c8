-- `answer_scan::scan_byte` meets its contract: a line feed, a comment's byte, a space behind a number, any other byte.

use mathlib.Core.Path.{sym, ◌∙◌}
use native.Mathlib.Omega.{arith}
use Rattle.answer_scan.specs.Scan.{line_begun}
use Rattle.answer_scan.proofs.Ahead.{ahead-comment}
use Rattle.answer_scan.proofs.Steps.{holds-short, line_taken, passed-taken, number-taken}
use Rattle.answer_scan.proofs.scan_byte.Goals as goal

pub returns-then-byte-eq10 : goal.returns-then-byte-eq10
returns-then-byte-eq10 c =
    record { holds = holds-short (record { progress = c.read_line-next.result; count = 0 }) c.requires (omega arith); taken = rw c.if-byte-eq10.true (line_taken c.read_line-next.ensures) }

pub returns-then-is_comment : goal.returns-then-is_comment
returns-then-is_comment c =
    let at = c.args.at in record {
      holds = c.requires;
      taken = passed-taken
          (ahead-comment at.progress (line_begun at c.args.line.now) c.args.byte c.if-byte-eq10.false (sym c.is_comment.ensures ∙ c.if-is_comment.true));
    }

pub returns-then-is_marked : goal.returns-then-is_marked
returns-then-is_marked c =
    let m = sym c.is_marked.ensures ∙ c.if-is_marked.true in record { holds = holds-short c.end_number.result c.requires c.end_number.ensures.short; taken = rw c.if-byte-eq32.true (number-taken c.requires m c.end_number.ensures) }

pub returns : goal.returns
returns c = record { holds = c.put_byte.ensures.holds; taken = passed-taken c.put_byte.ensures.passed }
