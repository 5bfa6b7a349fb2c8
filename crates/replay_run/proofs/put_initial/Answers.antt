-- `replay_run::put_initial` meets its contract.

use Prim.Native.Nat.{◌^◌}
use mathlib.Core.List.{[]}
use Rattle.model.specs.Variables.{base}
use Rattle.model.specs.Claim.{idle_of}
use Rattle.netlist.specs.NetOf.{net_of}
use Rattle.call_lists.proofs.Delivered.{behind-delivered}
use Rattle.replay_frame.specs.Replay.{said_in}
use Rattle.replay_run.proofs.Runs.{initial-held}
use Rattle.replay_run.proofs.put_initial.Goals as goal

pub returns : goal.returns
unfolding net_of idle_of base
returns c =
    let d = net_of c.args.net c.args.latches.now [] in
    rw (c.fill_words.ensures, c.word_count.ensures, ← c.given_word.ensures) (record { held = initial-held d _ c.args.memory.now c.requires.2 c.put_resets.ensures.0 c.put_resets.ensures.1 (said_in c.args.signs.now) c.idle_words.ensures c.given_word.result; behind = behind-delivered (λ _. c.given_word.result) (2 ^ d.m) c.args.memory.now })
