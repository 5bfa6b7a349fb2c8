-- `netlist_tests::test_sizes` meets its contract: only the first two lines hold sizes.

use mathlib.Core.Path.{◌≡◌, refl, sym, ◌∙◌, ap}
use mathlib.Core.Bool.{true, false}
use native.Mathlib.Omega.{arith}
use Rattle.refusals.specs.Tests.{in_order}
use Rattle.refusals.specs.declared.Refusal.TheVariants.{Size}
use Rattle.model.specs.Netlist as M
use Rattle.netlist.specs.NetOf.{alone}
use Rattle.netlist.specs.Places.{sizes_line, memory_line}
use Rattle.netlist.specs.Faults.{size_fault}
use Rattle.netlist.specs.declared.Line.TheVariants.{Sizes, Memory}
use Rattle.netlist.proofs.Places.{at-sizes, at-memory}
use Rattle.netlist_tests.proofs.Record.{PassedTo, passed-next, refused-next, test_lines-passes}
use Rattle.netlist_tests.proofs.test_sizes.Goals as goal

-- no line is passed yet, and line N is passed
passed_none : (d : M.Netlist) → PassedTo d Size size_fault 0
unfolding in_order
passed_none d = refl

passed-sizes : (d : M.Netlist) → size_fault d Sizes ≡ false → PassedTo d Size size_fault sizes_line
passed-sizes d e = passed-next d Size size_fault 0 (passed_none d) (ap (size_fault d) (at-sizes d sizes_line (omega arith)) ∙ e)

pub sizes_fault-requires : goal.sizes_fault-requires
sizes_fault-requires c = tt

pub returns-then-sizes_fault : goal.returns-then-sizes_fault
returns-then-sizes_fault c =
    let d = alone c.args.net in
    let e : size_fault d Sizes ≡ true = sym c.sizes_fault.ensures ∙ c.if-sizes_fault.true in
    sym (refused-next d Size size_fault 0 (passed_none d) (ap (size_fault d) (at-sizes d sizes_line (omega arith)) ∙ e) (omega arith))

pub memory_fault-requires : goal.memory_fault-requires
memory_fault-requires c = tt

pub returns-then-memory_fault : goal.returns-then-memory_fault
returns-then-memory_fault c =
    let d = alone c.args.net in
    let e : size_fault d Sizes ≡ false = sym c.sizes_fault.ensures ∙ c.if-sizes_fault.false in
    let f : size_fault d Memory ≡ true = sym c.memory_fault.ensures ∙ c.if-memory_fault.true in
    sym (refused-next d Size size_fault sizes_line (passed-sizes d e) (ap (size_fault d) (at-memory d memory_line refl) ∙ f) (omega arith))

pub returns : goal.returns
unfolding size_fault
returns c =
    let d = alone c.args.net in
    sym ((test_lines-passes d Size size_fault).1
    (record {
      of-sizes = sym c.sizes_fault.ensures ∙ c.if-sizes_fault.false;
      of-memory = sym c.memory_fault.ensures ∙ c.if-memory_fault.false;
      of-latch = λ l h. refl;
      of-gate = λ g h. refl;
      of-address = λ t h. refl;
      of-data = λ t h. refl;
      of-second-address = λ some t h. refl;
      of-second-enable = λ some. refl;
      of-control = refl;
    }))
