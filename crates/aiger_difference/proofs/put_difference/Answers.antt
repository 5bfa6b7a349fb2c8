-- `aiger_difference::put_difference` meets its contract. The loop's invariant: what is written and the bytes of `rest` are the bytes of x.

use Prim.Native.Nat.{ℕ, ◌+◌, ◌-◌, ◌/◌, ◌%◌, ◌≤◌, ◌<◌}
use mathlib.Core.Path.{◌≡◌, refl, sym, ap, ◌∙◌}
use mathlib.Core.List.{List, [], ◌∷◌, ◌++◌, append_assoc}
use native.Mathlib.Omega.{arith}
use lib.ListN.{length, set}
use Rattle.model.specs.Wrote.{Wrote}
use Rattle.text_writer.proofs.Writing.{wrote-next}
use Rattle.aiger_difference.specs.Difference.{difference_bytes}
use Rattle.aiger_difference.proofs.Difference.{bytes-single, bytes-more, length-bytes-some, single-below, more-from}
use Rattle.aiger_difference.proofs.put_difference.Invariants.{Going}
use Rattle.aiger_difference.proofs.put_difference.Goals as goal

-- one byte more of a number that is not the last
going_on : (x : ℕ) (old new : List ℕ) (rest i : ℕ) → 1 < length (difference_bytes rest) → i < length new → Going x old new rest i
    → Going x old (set new i (128 + rest % 128)) (rest / 128) (i + 1)
going_on x old new rest i more room (seen, w, e) = (
  seen ++ (128 + rest % 128) ∷ [],
  wrote-next (128 + rest % 128) seen old new i room w,
  append_assoc seen ((128 + rest % 128) ∷ []) (difference_bytes (rest / 128))
      ∙ ap (λ (s : List ℕ). seen ++ s) (sym (bytes-more rest (more-from rest more))) ∙ e,
)

-- and the last
going-ends : (x : ℕ) (old new : List ℕ) (rest i : ℕ) → length (difference_bytes rest) ≤ 1 → i < length new → Going x old new rest i
    → Wrote (difference_bytes x) old (set new i rest) (i + 1)
going-ends x old new rest i single room (seen, w, e) =
    let last : seen ++ rest ∷ [] ≡ difference_bytes x = ap (λ (s : List ℕ). seen ++ s) (sym (bytes-single rest (single-below rest single))) ∙ e in
    rw last at (wrote-next rest seen old new i room w)

pub overflow_sub-last : goal.overflow_sub-last
overflow_sub-last c = omega (arith, c.difference_length-last.ensures, length-bytes-some c.args.x)

pub loop-i-init : goal.loop-i-init
loop-i-init c =
    let some = length-bytes-some c.args.x in
    let count = c.difference_length-last.ensures in
    (omega (arith, count, some), omega (arith, count, some, c.requires), ([], record { counted = refl; leaves = refl }, refl))

pub loop-i-preserved : goal.loop-i-preserved
loop-i-preserved c =
    let next = bytes-more c.loop-i.rest (more-from c.loop-i.rest (omega arith)) in (
      omega (arith, ap length next),
      omega arith,
      going_on c.args.x c.args.out.now c.loop-i.out c.loop-i.rest c.loop-i.i (omega arith) (omega arith) c.loop-i.invariant.2,
    )

pub overflow_cast-out-2 : goal.overflow_cast-out-2
overflow_cast-out-2 c = omega (arith, single-below c.loop-i.rest (omega arith))

pub returns : goal.returns
returns c =
    let e : c.loop-i.i ≡ c.difference_length-last.result - 1 = omega arith in
    rw e at (going-ends c.args.x c.args.out.now c.loop-i.out c.loop-i.rest c.loop-i.i (omega arith) (omega arith) c.loop-i.invariant.2)
