-- `call_position::next` meets its contract: a frame has its wires, and its pairs with the frames before it.

use Prim.Native.Nat.{◌+◌, ◌*◌, ◌≤◌}
use mathlib.Core.Path.{◌≡◌, sym}
use native.Mathlib.Nat.{mul-le-mul}
use native.Mathlib.Numerals.{add-one}
use native.Mathlib.Omega.{arith}
use Rattle.model.specs.Variables.{base}
use Rattle.model.proofs.Ports.{stride_most}
use Rattle.model.proofs.Variables.{base-suc, base-most}
use Rattle.netlist.specs.NetOf.{net_of, alone}
use Rattle.call_position.proofs.next.Goals as goal
use Rattle.call_position.proofs.next.Goals.{After-numbering-numbering}

-- the stored base, and the frame's wires and pairs, are far below 2^32
bounds : (c : After-numbering-numbering) →
    let p = c.args.position in
    let n = c.numbering-numbering.result in
    (p.base + n.wires ≤ 1198681) × (n.stride ≤ 32) × (p.frame * n.stride ≤ 254 * 32)
unfolding net_of
bounds c =
    let sizes = c.requires.0 in
    let pair-most : c.numbering-numbering.result.stride ≤ 32 = rw c.numbering-numbering.ensures.1 (stride_most sizes) in (
      omega (arith, c.requires.2, base-most (alone c.args.net) sizes c.args.position.frame (omega (arith, c.requires.1)), c.numbering-numbering.ensures.0, sizes.wires-fit),
      pair-most,
      mul-le-mul c.requires.1 pair-most,
    )

pub overflow_add-result-2 : goal.overflow_add-result-2
overflow_add-result-2 c = omega (arith, bounds (goal.at.overflow_add-result-2 c).After-numbering-numbering)

pub overflow_mul-result : goal.overflow_mul-result
overflow_mul-result c = omega (arith, bounds (goal.at.overflow_mul-result c).After-numbering-numbering)

pub overflow_add-result-3 : goal.overflow_add-result-3
overflow_add-result-3 c = omega (arith, bounds (goal.at.overflow_add-result-3 c).After-numbering-numbering)

pub returns : goal.returns
returns c =
    let pre = c.requires in
    let e : c.args.position.base + c.numbering-numbering.result.wires + c.args.position.frame * c.numbering-numbering.result.stride ≡ base (alone c.args.net) (c.args.position.frame + 1) = rw (pre.2, c.numbering-numbering.ensures.0, c.numbering-numbering.ensures.1, add-one) (sym (base-suc (alone c.args.net) c.args.position.frame)) in
    rw e
