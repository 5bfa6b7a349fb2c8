-- `refutation_hints::starts_at` meets its contract.

use Prim.Native.Nat.{◌-◌}
use mathlib.Core.Path.{sym, ◌∙◌}
use native.Mathlib.Omega.{arith}
use Rattle.refutation_hints.proofs.Marks.{slot_read}
use Rattle.refutation_hints.proofs.Clauses.{starts-front, starts-behind, starts-past}
use Rattle.refutation_hints.proofs.starts_at.Goals as goal

pub returns-then-place-eq0 : goal.returns-then-place-eq0
returns-then-place-eq0 c = sym (starts-front c.args.known.now c.args.place c.if-place-eq0.true)

pub returns-then-before-known : goal.returns-then-before-known
returns-then-before-known c =
    let read = c.slot.ensures ∙ slot_read c.args.known.now _ (omega arith) in
    let d = c.if-place-eq0.false in
    rw read (starts-behind c.args.known.now c.args.place (c.args.place - 1) (omega arith) c.if-before-known.true)

pub returns : goal.returns
returns c =
    let d = c.if-place-eq0.false in
    sym (starts-past c.args.known.now c.args.place (c.args.place - 1) (omega arith) c.if-before-known.false)
