-- `answer_scan::scan_end` meets its contract: no line is begun, and what the progress makes of no more lines.

use Rattle.std.proofs.Common.{inl, inr}
use native.Mathlib.Omega.{arith}
use Rattle.answer_lines.proofs.Written.{as_written}
use Rattle.answer_scan.proofs.Pieces.{end-begun, end-no-status, end-values, end-satisfiable, end-unsatisfiable, end-malformed}
use Rattle.answer_scan.proofs.scan_end.Goals as goal

pub returns-then-position-gt0 : goal.returns-then-position-gt0
returns-then-position-gt0 c = record { answer = λ seen signs b. end-begun c.args.scan b c.requires (omega arith); written = as_written }

pub returns-in-Complete : goal.returns-in-Complete
returns-in-Complete c = record { answer = λ seen signs b. end-satisfiable c.args.scan b (omega arith) c.in-Complete.is; written = as_written }

pub returns-in-Unsatisfiable : goal.returns-in-Unsatisfiable
returns-in-Unsatisfiable c = record { answer = λ seen signs b. end-unsatisfiable c.args.scan b (omega arith) c.in-Unsatisfiable.is; written = as_written }

pub returns-in-NoStatus : goal.returns-in-NoStatus
returns-in-NoStatus c = record {
  answer =
      λ seen signs b. elim c.in-NoStatus.is [
        | inl e ↦ end-no-status c.args.scan b (omega arith) e
        | inr later ↦ elim later [ inl e ↦ end-values c.args.scan b (omega arith) e | inr e ↦ end-malformed c.args.scan b (omega arith) e ]
      ];
  written = as_written;
}
