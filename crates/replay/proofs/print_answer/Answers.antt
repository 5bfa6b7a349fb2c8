-- `replay::print_answer` meets its contract: an input is refused whatever the answer, or taken.

use mathlib.Core.Path.{sym, subst}
use mathlib.Core.List.{[]}
use native.Mathlib.Omega.{arith}
use Rattle.std.specs.Io.KnownBytes.{Appends}
use Rattle.program_replay.proofs.Printed.{refused-replay}
use Rattle.replay.proofs.print_answer.Goals as goal

pub print_refusal-requires : goal.print_refusal-requires
print_refusal-requires g c =
    let pre = c.requires in
    (λ answer. refused-replay _ _ answer c.read_input-taken.ensures.answer (λ none. omega arith), pre.0, pre.1)

-- nothing of the answer was read
pub returns-then-taken-ne0-clause-written : goal.returns-then-taken-ne0-clause-written
returns-then-taken-ne0-clause-written g c = λ all.
    record {
      text = [];
      counted = sym c.requires.0;
      holds = subst (Appends _ _) (sym (refused-replay _ _ [] c.read_input-taken.ensures.answer (λ none. omega arith))) (c.print_refusal.ensures.written all);
    }
