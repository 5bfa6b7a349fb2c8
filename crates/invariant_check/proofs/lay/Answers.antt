-- `invariant_check::lay` meets its contract: the invariant stands behind the clauses asked for, and the lemmas behind it.

use native.Mathlib.Omega.{arith}
use Rattle.model.proofs.Wrote.{wrote_then, rest-within, rest-room}
use Rattle.invariant_formula.specs.Formula.{step_formula}
use Rattle.invariant_check.specs.ForeverCall.{store_need}
use Rattle.invariant_check.proofs.lay.Goals as goal

pub put_requests-at-requires : goal.put_requests-at-requires
unfolding store_need
put_requests-at-requires c =
    let room = c.requires.1 in
    (c.requires.0, omega (arith, room))

pub slice_bounds-copy_numbers-count : goal.slice_bounds-copy_numbers-count
unfolding store_need
slice_bounds-copy_numbers-count c =
    let w = c.put_requests-at.ensures in
    let room = c.requires.1 in
    rest-within w.0 (omega (arith, w.1, room))

pub slice_bounds-copy_numbers-start : goal.slice_bounds-copy_numbers-start
unfolding store_need
slice_bounds-copy_numbers-start c =
    let w = c.put_requests-at.ensures in
    let room = c.requires.1 in
    rest-within w.0 (omega (arith, w.1, room))

pub copy_numbers-requires : goal.copy_numbers-requires
unfolding store_need
copy_numbers-requires c =
    let w = c.put_requests-at.ensures in
    let room = c.requires.1 in
    rest-room w.0 (omega (arith, w.1, room))

pub offset_bounds-store-front : goal.offset_bounds-store-front
unfolding store_need
offset_bounds-store-front c =
    let w = c.put_requests-at.ensures in
    let both = wrote_then _ _ _ _ _ _ _ w.0 c.copy_numbers.ensures in
    let copied = c.copy_numbers.ensures.counted in
    let room = c.requires.1 in
    record { fits = omega (arith, w.1, copied, room) }

pub slice_bounds-copy_numbers-count-2 : goal.slice_bounds-copy_numbers-count-2
unfolding store_need
slice_bounds-copy_numbers-count-2 c =
    let w = c.put_requests-at.ensures in
    let both = wrote_then _ _ _ _ _ _ _ w.0 c.copy_numbers.ensures in
    let copied = c.copy_numbers.ensures.counted in
    let room = c.requires.1 in
    rest-within both (omega (arith, w.1, copied, room))

pub slice_bounds-copy_numbers-start-2 : goal.slice_bounds-copy_numbers-start-2
unfolding store_need
slice_bounds-copy_numbers-start-2 c =
    let w = c.put_requests-at.ensures in
    let both = wrote_then _ _ _ _ _ _ _ w.0 c.copy_numbers.ensures in
    let copied = c.copy_numbers.ensures.counted in
    let room = c.requires.1 in
    rest-within both (omega (arith, w.1, copied, room))

pub copy_numbers-requires-2 : goal.copy_numbers-requires-2
unfolding store_need
copy_numbers-requires-2 c =
    let w = c.put_requests-at.ensures in
    let both = wrote_then _ _ _ _ _ _ _ w.0 c.copy_numbers.ensures in
    let copied = c.copy_numbers.ensures.counted in
    let room = c.requires.1 in
    rest-room both (omega (arith, w.1, copied, room))

pub returns : goal.returns
unfolding step_formula
returns c =
    let w = c.put_requests-at.ensures in
    let both = wrote_then _ _ _ _ _ _ _ w.0 c.copy_numbers.ensures in
    let copied = c.copy_numbers.ensures.counted in
    let room = c.requires.1 in
    let all = wrote_then _ _ _ _ _ _ _ both c.copy_numbers-2.ensures in
    record { front = both.counted; store = all.leaves }
