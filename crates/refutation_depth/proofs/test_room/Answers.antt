-- `refutation_depth::test_room` meets its contract: the store is tested first, without a sum that might not fit.

use mathlib.Core.Path.{sym}
use mathlib.Core.List.{[]}
use native.Mathlib.Omega.{arith}
use Rattle.netlist.proofs.NetOf.{sizes-lists}
use Rattle.refutation_depth.proofs.Certificate.{marks-lists, store-short, marks-short, both-enough}
use Rattle.refutation_depth.proofs.test_room.Goals as goal

pub returns-then-store-front : goal.returns-then-store-front
returns-then-store-front c = sym (store-short _ _ _ _ _ (omega (arith, c.if-store-front.true, c.formula_length-front.ensures.0)))

pub returns-then-store-front-2 : goal.returns-then-store-front-2
returns-then-store-front-2 c = sym (store-short _ _ _ _ _ (omega (arith, c.if-store-front-2.true, c.if-store-front.false, c.formula_length-front.ensures.0)))

pub marks_need-requires : goal.marks_need-requires
marks_need-requires c = (sizes-lists _ _ _ [] [] c.requires.0.limits.sizes, c.requires.1)

pub returns-then-marks-marks_need : goal.returns-then-marks-marks_need
returns-then-marks-marks_need c = sym (marks-short _ _ _ _ _ (omega (arith, c.if-store-front-2.false, c.if-store-front.false, c.formula_length-front.ensures.0))
    (omega (arith, c.if-marks-marks_need.true, c.marks_need.ensures, marks-lists c.args.net c.args.latches.now c.args.gates.now c.args.depth)))

pub returns : goal.returns
returns c = sym (both-enough _ _ _ _ _ (omega (arith, c.if-store-front-2.false, c.if-store-front.false, c.formula_length-front.ensures.0))
    (omega (arith, c.if-marks-marks_need.false, c.marks_need.ensures, marks-lists c.args.net c.args.latches.now c.args.gates.now c.args.depth)))
