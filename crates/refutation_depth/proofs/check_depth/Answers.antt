-- `refutation_depth::check_depth` meets its contract: what is checked is the formula and the lemmas behind it.

use Prim.Native.Nat.{◌≤◌}
use mathlib.Core.Path.{sym, ◌∙◌}
use mathlib.Core.List.{[]}
use native.Mathlib.Omega.{arith}
use lib.ListN.{length}
use lib.Seq.{length-take-le}
use Rattle.netlist.proofs.NetOf.{sizes-lists}
use Rattle.refutation_depth.proofs.Certificate.{marks-lists, depth-found, behind-kept}
use borrow.Author.Rules.{rules}
use Rattle.refutation_depth.proofs.check_depth.Goals as goal

pub marks_need-need-requires : goal.marks_need-need-requires
marks_need-need-requires c = (sizes-lists _ _ _ [] [] c.requires.0.limits.sizes, c.requires.1)

pub slice_bounds-check-end-2 : goal.slice_bounds-check-end-2
slice_bounds-check-end-2 c = sym (length-take-le _ _ (search rules))

pub slice_bounds-check-end-3 : goal.slice_bounds-check-end-3
slice_bounds-check-end-3 c = omega (arith, c.requires.3, c.marks_need-need.ensures, marks-lists c.args.net c.args.latches.now c.args.gates.now c.args.depth)

pub slice_bounds-check-end-4 : goal.slice_bounds-check-end-4
slice_bounds-check-end-4 c = sym (length-take-le _ _ (omega (arith, c.requires.3, c.marks_need-need.ensures, marks-lists c.args.net c.args.latches.now c.args.gates.now c.args.depth)))

pub returns : goal.returns
returns c =
    let laid = c.lay-front.ensures in
    let lists = marks-lists c.args.net c.args.latches.now c.args.gates.now c.args.depth in
    let room : c.marks_need-need.result ≤ length c.args.marks.now = omega (arith, c.requires.3, c.marks_need-need.ensures, lists) in
    record {
      found = depth-found _ _ _ _ _ _ _ _ _ _ laid.front laid.store (c.marks_need-need.ensures ∙ lists) room c.check.ensures.answer;
      store = laid.store;
      marks = behind-kept _ c.marks_need-need.result c.args.marks.now c.check.new.marks (c.marks_need-need.ensures ∙ lists) room c.check.ensures.scratch;
    }
