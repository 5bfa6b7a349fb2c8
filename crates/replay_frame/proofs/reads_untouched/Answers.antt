-- `replay_frame::reads_untouched` meets its contract.

use mathlib.Core.Path.{sym, ◌∙◌}
use native.Mathlib.Omega.{arith}
use Rattle.model.proofs.Ports.{first-port}
use Rattle.netlist.specs.NetOf.{net_of, alone}
use Rattle.netlist.specs.WireTable.{entry}
use Rattle.replay_frame.proofs.Filling.{address-small}
use Rattle.replay_frame.proofs.reads_untouched.Goals as goal

pub code_value-requires : goal.code_value-requires
unfolding net_of
code_value-requires c =
    omega (arith, c.requires.0.sizes, c.requires.0.codes.RE-fits 1 (first-port (alone c.args.net)))

pub bounds-touched-address : goal.bounds-touched-address
unfolding net_of
bounds-touched-address c =
    omega (arith, c.address_of-address.ensures, address-small (alone c.args.net) c.requires.0.sizes (entry c.args.values.now), c.requires.1)

pub returns-then-code_value : goal.returns-then-code_value
unfolding net_of
returns-then-code_value c =
    rw (sym c.code_value.ensures ∙ c.if-code_value.true, sym c.address_of-address.ensures)

pub returns : goal.returns
unfolding net_of
returns c =
    rw (sym c.code_value.ensures ∙ c.if-code_value.false)
