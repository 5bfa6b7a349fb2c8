-- `frames::print_formula` meets its contract: the header and what is behind it are all that is to be printed.

use Rattle.std.proofs.Common.{take-append-drop}
use Rattle.frames.proofs.Written.{written-then}
use Rattle.frames.proofs.print_formula.Goals as goal

pub returns : goal.returns
returns g c =
    record {
      sent = c.print_clauses.ensures.sent;
      written = written-then _ _ _ _ _ _ _ _ _ c.print_header.ensures.written c.print_clauses.ensures.written (take-append-drop _ _);
    }
