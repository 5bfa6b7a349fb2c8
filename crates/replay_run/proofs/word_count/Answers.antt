-- `replay_run::word_count` meets its contract.

use native.Mathlib.Omega.{arith}
use lib.Pow.{pow_pos}
use Rattle.netlist.specs.NetOf.{net_of}
use Rattle.replay_run.proofs.word_count.Goals as goal

pub with_bit-requires : goal.with_bit-requires
unfolding net_of
with_bit-requires c =
    (omega (arith, c.requires), pow_pos _)
