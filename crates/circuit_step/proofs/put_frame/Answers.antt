-- `circuit_step::put_frame` meets its contract: two passes are the model's frame.

use mathlib.Core.List.{[]}
use native.Mathlib.Omega.{arith}
use Rattle.model.specs.Circuit.{address_of, read_data}
use Rattle.netlist.specs.NetOf.{net_of}
use Rattle.netlist.proofs.NetOf.{limits-alone}
use Rattle.netlist.specs.WireTable.{entry}
use Rattle.circuit_step.proofs.Held.{below-same, frame-alike, reads_in, holds-lists, fed-lists}
use Rattle.circuit_step.proofs.put_frame.Goals as goal

pub read_words-words-requires : goal.read_words-words-requires
read_words-words-requires c =
    (limits-alone _ _ _ c.requires.0, c.requires.2)

pub returns : goal.returns
unfolding net_of read_data address_of
returns c =
    record {
      values = λ s f held fed. below-same c.evaluate-2.ensures (λ w h.
          frame-alike c.requires.0 (holds-lists c.args.net [] [] [] c.args.gates.now held) (fed-lists c.args.net [] [] [] c.args.gates.now fed) c.evaluate.ensures
          c.read_words-words.result c.read_words-words.ensures w (omega arith));
      words = reads_in c.requires.0.codes (entry c.args.inputs.now) (entry c.args.state.now) c.read_words-words.result c.evaluate-2.ensures;
    }
