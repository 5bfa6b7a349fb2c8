-- `netlist_tests::test_codes` meets its contract: where the pass over the lists finds nothing, no line is refused.

use mathlib.Core.Path.{refl, sym, ◌∙◌}
use Rattle.refusals.specs.declared.Refusal.TheVariants.{CodeOutside}
use Rattle.netlist.specs.NetOf.{net_of}
use Rattle.netlist.specs.Faults.{code_fault}
use Rattle.netlist_tests.proofs.Record.{passed-quick}
use Rattle.netlist_tests.proofs.test_codes.Goals as goal

pub any_code_fault-requires : goal.any_code_fault-requires
any_code_fault-requires c = c.requires

pub first_code_fault-requires : goal.first_code_fault-requires
first_code_fault-requires c = c.requires

pub returns-then-any_code_fault : goal.returns-then-any_code_fault
returns-then-any_code_fault c = c.first_code_fault.ensures

pub returns : goal.returns
unfolding code_fault
returns c =
    sym (passed-quick (net_of c.args.net c.args.latches.now c.args.gates.now) CodeOutside code_fault refl refl (sym c.any_code_fault.ensures ∙ c.if-any_code_fault.false))
