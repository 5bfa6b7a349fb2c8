-- `refutation_lemmas::clause_end` meets its contract: before the first end mark stand as many numbers as `position` passes.

use mathlib.Core.Path.{◌≡◌, refl}
use native.Mathlib.Omega.{arith}
use lib.ListN.{drop}
use Rattle.std.proofs.Common.{rules, tests}
use Rattle.std.proofs.lemmas.List.{take_rest}
use Rattle.std.proofs.lemmas.Iterator.{YieldsList-from_slice, IsFirst-from_position, index_from_first}
use Rattle.refutation_hints.specs.Marks.{slot_of}
use Rattle.refutation_lemmas.specs.Ends.{before_end}
use Rattle.refutation_lemmas.proofs.Ends.{before_end-mark, before_end-number, ended}
use Rattle.refutation_lemmas.proofs.clause_end.Goals as goal

pub returns-then-store-at : goal.returns-then-store-at
returns-then-store-at c = omega (arith, ended c.args.store.now c.args.at c.if-store-at.true)

pub returns : goal.returns
unfolding before_end
returns c =
    let rest = drop c.args.at c.args.store.now in
    let first = IsFirst-from_position _ _ c.position.result (λ z. slot_of z ≡ 0) (λ z. slot_of z ≡ 0 → ⊥) c.position.ensures.ran (YieldsList-from_slice rest (search (rules, take_rest)))
    (λ x q k. search (rules, tests)) (λ x q k. search (rules, tests)) in
    let is = index_from_first before_end (λ z. slot_of z ≡ 0) (λ z. slot_of z ≡ 0 → ⊥) refl before_end-mark before_end-number rest c.position.result first in
    omega (arith, is, rw (take_rest c.args.store.now c.args.at) at c.unwrap_or.ensures)
