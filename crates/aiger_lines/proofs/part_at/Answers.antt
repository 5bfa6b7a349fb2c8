-- `aiger_lines::part_at` meets its contract: the places where the parts begin, one after the other.

use native.Mathlib.Omega.{arith}
use borrow.Author.Tests.{lt-ltb, le-ltb}
use Rattle.aiger_lines.specs.Parts.{text_input_line, text_latch_line, text_output_line, text_gate_line, part_at}
use Rattle.aiger_lines.proofs.part_at.Goals as goal

pub returns-then-place-lt2 : goal.returns-then-place-lt2
unfolding part_at
returns-then-place-lt2 c =
    rw (lt-ltb c.args.place (text_input_line c.args.counts 0) (omega arith))

pub returns-then-place-latches : goal.returns-then-place-latches
unfolding part_at
returns-then-place-latches c =
    rw (
      le-ltb c.args.place (text_input_line c.args.counts 0) (omega arith),
      lt-ltb c.args.place (text_latch_line c.args.counts 0) (omega arith),
    )

pub returns-then-place-outputs : goal.returns-then-place-outputs
unfolding part_at
returns-then-place-outputs c =
    rw (
      le-ltb c.args.place (text_input_line c.args.counts 0) (omega arith),
      le-ltb c.args.place (text_latch_line c.args.counts 0) (omega arith),
      lt-ltb c.args.place (text_output_line c.args.counts 0) (omega arith),
    )

pub returns-then-place-gates : goal.returns-then-place-gates
unfolding part_at
returns-then-place-gates c =
    rw (
      le-ltb c.args.place (text_input_line c.args.counts 0) (omega arith),
      le-ltb c.args.place (text_latch_line c.args.counts 0) (omega arith),
      le-ltb c.args.place (text_output_line c.args.counts 0) (omega arith),
      lt-ltb c.args.place (text_gate_line c.args.counts 0) (omega arith),
    )

pub returns : goal.returns
unfolding part_at
returns c =
    rw (
      le-ltb c.args.place (text_input_line c.args.counts 0) (omega arith),
      le-ltb c.args.place (text_latch_line c.args.counts 0) (omega arith),
      le-ltb c.args.place (text_output_line c.args.counts 0) (omega arith),
      le-ltb c.args.place (text_gate_line c.args.counts 0) (omega arith),
    )
