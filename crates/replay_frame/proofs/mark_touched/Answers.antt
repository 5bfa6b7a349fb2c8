-- `replay_frame::mark_touched` meets its contract.

use mathlib.Core.Path.{sym, ◌∙◌, ap₂}
use mathlib.Core.Bool.{◌||◌}
use native.Mathlib.Omega.{arith}
use Rattle.model.proofs.Ports.{first-port}
use Rattle.netlist.specs.NetOf.{net_of, alone}
use Rattle.netlist.specs.WireTable.{entry}
use Rattle.replay_frame.specs.Frames.{touched_after}
use Rattle.replay_frame.proofs.Filling.{address-small}
use Rattle.replay_frame.proofs.mark_touched.Goals as goal

pub code_value-reads-requires : goal.code_value-reads-requires
unfolding net_of
code_value-reads-requires c =
    omega (arith, c.requires.0.sizes, c.requires.0.codes.RE-fits 1 (first-port (alone c.args.net)))

pub code_value-requires : goal.code_value-requires
unfolding net_of
code_value-requires c =
    omega (arith, c.requires.0.sizes, c.requires.0.codes.WE-fits)

pub bounds-touched-address : goal.bounds-touched-address
unfolding net_of
bounds-touched-address c =
    omega (arith, c.address_of-address.ensures, address-small (alone c.args.net) c.requires.0.sizes (entry c.args.values.now), c.requires.1)

pub returns-then-reads-code_value : goal.returns-then-reads-code_value
unfolding net_of touched_after
returns-then-reads-code_value c =
    rw (sym (ap₂ ◌||◌ c.code_value-reads.ensures c.code_value.ensures) ∙ c.if-reads-code_value.true, c.address_of-address.ensures)

pub returns-else-reads-code_value : goal.returns-else-reads-code_value
unfolding net_of touched_after
returns-else-reads-code_value c =
    rw (sym (ap₂ ◌||◌ c.code_value-reads.ensures c.code_value.ensures) ∙ c.if-reads-code_value.false)
