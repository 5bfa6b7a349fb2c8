-- `replay::print_replay` meets its contract: what was written into the buffer is all that is to be printed, for the text that was read.

use mathlib.Core.Path.{◌≡◌, sym, ◌∙◌, ap, subst}
use lib.ListN.{take}
use Rattle.std.specs.Io.KnownBytes.{Appends}
use Rattle.group_counts.proofs.Counted.{wrote-front}
use Rattle.program_replay.specs.Printed.{replay_text}
use Rattle.program_replay.proofs.Printed.{taken-replay}
use Rattle.replay.proofs.print_replay.Given.{Over}
use Rattle.replay.proofs.print_replay.Goals as goal
use Rattle.replay.proofs.print_replay.Goals.{After-write_replay-bytes}

-- the text that was read, and what is printed for it
is_due : (g : Over) (c : After-write_replay-bytes g)
    → take c.write_replay-bytes.result c.write_replay-bytes.new.out ≡ replay_text c.args.input.now c.requires.1.text
is_due g c =
    let some = c.requires.1 in
    wrote-front (c.write_replay-bytes.ensures.text some.text some.holds) ∙ sym (taken-replay some.text c.requires.0)

pub write_text-requires : goal.write_text-requires
write_text-requires g c =
    let some = c.requires.1 in
    let due = is_due g (goal.at.write_text-requires g c).After-write_replay-bytes in (
      record { text = some.text; counted = some.counted; holds = λ answer ends. due ∙ sym (ap (replay_text c.args.input.now) (ends c.requires.2)) },
      c.requires.3,
    )

pub returns-clause-written : goal.returns-clause-written
returns-clause-written g c = λ all.
    let some = c.requires.1 in
    let due = is_due g (goal.at.returns-clause-written g c).After-write_replay-bytes in
    record { text = some.text; counted = some.counted; holds = subst (Appends _ _) due (c.write_text.ensures.written all) }
