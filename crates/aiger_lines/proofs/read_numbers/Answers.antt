-- `aiger_lines::read_numbers` meets its contract. The loop's invariant is `Reading`.

use mathlib.Core.Path.{sym, ◌∙◌}
use native.Mathlib.Omega.{arith}
use Rattle.decimal.specs.Digits.{space}
use Rattle.aiger_lines.proofs.Steps.{found_within}
use Rattle.aiger_lines.proofs.Written.{read-as-written}
use Rattle.aiger_lines.proofs.Reading.{starts, stops, too_many, ends, goes_on}
use Rattle.aiger_lines.proofs.read_numbers.Goals as goal

pub loop-x-init : goal.loop-x-init
loop-x-init c = starts c.args.line.now

pub slice_bounds-read_number-end : goal.slice_bounds-read_number-end
slice_bounds-read_number-end c =
    let line = c.args.line.now in
    omega (arith, found_within space line c.loop-x.at c.find-end.result c.loop-x.invariant.within c.find-end.ensures)

pub returns-in_default : goal.returns-in_default
returns-in_default c =
    let line = c.args.line.now in
    let read = sym c.read_number.ensures ∙ c.in_default.is in record { numbers = c.no_numbers.ensures ∙ stops line c.loop-x.values c.loop-x.count c.loop-x.at c.find-end.result c.loop-x.invariant c.find-end.ensures read; written = read-as-written }

pub returns-then-count-ge5 : goal.returns-then-count-ge5
returns-then-count-ge5 c =
    let line = c.args.line.now in
    record { numbers = c.no_numbers-then-count-ge5.ensures ∙ too_many line c.loop-x.values c.loop-x.count c.loop-x.at c.find-end.result c.loop-x.invariant c.find-end.ensures (omega arith); written = read-as-written }

pub returns-then-line-end : goal.returns-then-line-end
returns-then-line-end c =
    let line = c.args.line.now in
    let read = sym c.read_number.ensures ∙ c.in-Some.is in record { numbers = ends line c.loop-x.values c.loop-x.count c.loop-x.at c.find-end.result c.loop-x.invariant c.find-end.ensures c.in-Some.x read (omega arith) (omega arith); written = read-as-written }

pub loop-x-preserved : goal.loop-x-preserved
loop-x-preserved c =
    let line = c.args.line.now in
    let read = sym c.read_number.ensures ∙ c.in-Some.is in
    goes_on line c.loop-x.values c.loop-x.count c.loop-x.at c.find-end.result c.loop-x.invariant c.find-end.ensures c.in-Some.x read (omega arith) (omega arith)
