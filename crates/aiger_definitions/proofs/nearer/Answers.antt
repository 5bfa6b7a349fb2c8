-- `aiger_definitions::nearer` meets its contract.

use Prim.Native.Nat.{ℕ, min}
use mathlib.Core.Path.{◌≡◌, refl, ◌∙◌}
use mathlib.Core.Bool.{Bool, true, false, cond}
use native.Mathlib.Omega.{arith}
use lib.Dec.{ltb}
use borrow.Author.Tests.{lt-leb, le-leb, ltb-true, ltb-false}
use Rattle.aiger_definitions.specs.Blocks.{nearest}
use Rattle.aiger_definitions.proofs.nearer.Goals as goal
use Rattle.aiger_definitions.proofs.nearer.Goals.{then-v-base-via-then-v-base, then-v-base-via-else-v-base+then-v-base-2}

-- the smaller of two, by a test
smaller-by : (next v : ℕ) → min next v ≡ cond (ltb v next) v next
smaller-by next v = by-test (ltb v next) refl
  where
    by-test : (b : Bool) → ltb v next ≡ b → min next v ≡ cond b v next
    by-test true e = omega (arith, ltb-true v next e)
    by-test false e = omega (arith, ltb-false v next e)

pub returns-then-v-base : goal.returns-then-v-base
unfolding nearest
returns-then-v-base c =
    elim c.then-v-base.branch [
      | then-v-base-via-then-v-base w ↦ rw (lt-leb _ _ w.if-v-base.true)
      | then-v-base-via-else-v-base+then-v-base-2 w ↦ rw (le-leb _ _ w.if-v-base.false, lt-leb _ _ w.if-v-base-2.true)
    ]

pub returns : goal.returns
unfolding nearest
returns c = rw (le-leb _ _ c.if-v-base.false, le-leb _ _ c.if-v-base-2.false) (c.min.ensures ∙ smaller-by c.args.next c.args.v)
