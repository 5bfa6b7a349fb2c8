-- `invariant_check::check_step` meets its contract: what is checked is the step and the lemmas behind it.

use native.Mathlib.Omega.{arith}
use mathlib.Core.Path.{refl, sym, ◌∙◌}
use lib.Seq.{length-take-le}
use Rattle.invariant_formula.specs.Formula.{step_formula}
use Rattle.netlist.specs.NetOf.{net_of}
use Rattle.refutation_depth.proofs.Certificate.{laid-length, laid-found}
use Rattle.invariant_check.proofs.Certificate.{length-formula, start-lists, all-scratch}
use Rattle.invariant_check.specs.ForeverCall.{store_need, step_found, step_scratch}
use Rattle.invariant_check.proofs.check_step.Goals as goal

pub overflow_add-end : goal.overflow_add-end
unfolding store_need
overflow_add-end c =
    let laid = c.lay-front.ensures in
    record { fits = omega (arith, laid.front, length-formula (net_of c.args.net c.args.latches.now c.args.gates.now) c.args.invariant.now c.args.requests.now, c.requires.1) }

pub slice_bounds-check-end : goal.slice_bounds-check-end
unfolding store_need
slice_bounds-check-end c =
    let laid = c.lay-front.ensures in
    let long = length-formula (net_of c.args.net c.args.latches.now c.args.gates.now) c.args.invariant.now c.args.requests.now in
    omega (arith, laid.front, long, c.requires.1, laid-length (step_formula (net_of c.args.net c.args.latches.now c.args.gates.now) c.args.invariant.now c.args.requests.now) c.args.lemmas.now c.args.store.now _ laid.store (omega (arith, long, c.requires.1)))

pub slice_bounds-check-end-then-holds_at_start : goal.slice_bounds-check-end-then-holds_at_start
unfolding store_need
slice_bounds-check-end-then-holds_at_start c =
    let laid = c.lay-front.ensures in
    let long = length-formula (net_of c.args.net c.args.latches.now c.args.gates.now) c.args.invariant.now c.args.requests.now in
    sym (length-take-le _ _ (omega (arith, laid.front, long, c.requires.1, laid-length (step_formula (net_of c.args.net c.args.latches.now c.args.gates.now) c.args.invariant.now c.args.requests.now) c.args.lemmas.now c.args.store.now _ laid.store (omega (arith, long, c.requires.1)))))

pub returns-then-holds_at_start : goal.returns-then-holds_at_start
unfolding step_found step_scratch
returns-then-holds_at_start c =
    let laid = c.lay-front.ensures in
    let holds = sym (start-lists c.args.net c.args.latches.now c.args.gates.now c.args.invariant.now) ∙ sym c.holds_at_start.ensures ∙ c.if-holds_at_start.true in
    record {
      found = rw holds (laid-found _ c.args.lemmas.now c.args.store.now _ laid.store _ _ _ _ laid.front c.check.ensures.answer);
      store = laid.store;
      marks = rw holds (all-scratch c.args.marks.now c.check.new.marks c.check.ensures.scratch);
    }

pub returns : goal.returns
unfolding step_found step_scratch
returns c =
    let laid = c.lay-front.ensures in
    let fails = sym (start-lists c.args.net c.args.latches.now c.args.gates.now c.args.invariant.now) ∙ sym c.holds_at_start.ensures ∙ c.if-holds_at_start.false in
    record { found = rw fails; store = laid.store; marks = refl }
