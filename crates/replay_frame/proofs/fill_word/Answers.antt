-- `replay_frame::fill_word` meets its contract: by the table of the first pass.

use Prim.Native.Nat.{◌^◌, ◌<◌}
use mathlib.Core.Path.{refl, sym, ◌∙◌}
use mathlib.Core.List.{[]}
use native.Mathlib.Omega.{arith}
use Rattle.model.specs.Netlist.{port}
use Rattle.model.specs.Circuit.{address_of}
use Rattle.model.proofs.Memory.{address_below}
use Rattle.model.proofs.Ports.{first-port}
use Rattle.netlist.specs.NetOf.{net_of, alone}
use Rattle.netlist.proofs.NetOf.{sizes-lists, limits-alone}
use Rattle.replay_frame.proofs.Filling.{none_filled, filled-by}
use Rattle.replay_frame.proofs.fill_word.Goals as goal

pub returns-then-net-eq0 : goal.returns-then-net-eq0
unfolding net_of
returns-then-net-eq0 c =
    record { filled = none_filled c.if-net-eq0.true; size = c.requires.1 }

pub reads_untouched-requires : goal.reads_untouched-requires
reads_untouched-requires c =
    (limits-alone c.args.net [] c.args.gates.now c.requires.0, c.requires.3)

pub address_of-address-requires : goal.address_of-address-requires
address_of-address-requires c =
    (limits-alone c.args.net [] c.args.gates.now c.requires.0, first-port (alone c.args.net))

pub word_said-requires : goal.word_said-requires
word_said-requires c =
    (sizes-lists c.args.net [] c.args.gates.now [] [] c.requires.0.sizes, c.requires.4)

pub bounds-memory-address : goal.bounds-memory-address
unfolding net_of
bounds-memory-address c =
    let below : c.address_of-address.result < 2 ^ c.args.net.m = rw c.address_of-address.ensures (address_below (alone c.args.net) (port (alone c.args.net) 1) _) in
    omega (arith, c.requires.2, below)

pub returns-then-reads_untouched : goal.returns-then-reads_untouched
unfolding net_of address_of
returns-then-reads_untouched c =
    let first = c.evaluate.ensures in record {
      filled = filled-by c.requires.0 first c.if-net-eq0.false
          (sym c.if-reads_untouched.true ∙ c.reads_untouched.ensures) (rw (c.address_of-address.ensures, c.word_said.ensures));
      size = first.size;
    }

pub returns : goal.returns
unfolding net_of address_of
returns c =
    let first = c.evaluate.ensures in
    record { filled = filled-by c.requires.0 first c.if-net-eq0.false (sym c.if-reads_untouched.false ∙ c.reads_untouched.ensures) refl; size = first.size }
