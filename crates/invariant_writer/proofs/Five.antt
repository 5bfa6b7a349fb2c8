-- Five numbers stored one by one at the start of a slice, and a law whose terms have clause numbers. No contract cites this file.
use Prim.Native.Nat.{ℕ, suc, ◌+◌, ◌-◌, ◌/◌, ◌≤◌, ◌<◌}
use mathlib.Core.Path.{◌≡◌, refl}
use mathlib.Core.Bool.{Bool, true, false, cond, ◌&&◌, false≢true}
use mathlib.Core.List.{List, [], ◌∷◌}
use native.Mathlib.Omega.{arith}
use lib.Dec.{ltb}
use lib.IntN.{ℤ, pos, negsuc}
use lib.ListN.{length, set}
use mir.Syntax.{w32}
use mir.Val.{to_z, of_z}
use mir.ValLaws.{to_z-of_z}
use borrow.Author.Tests.{ltb-true}
use Rattle.literals.proofs.Literal.{fits}
use Rattle.model.specs.Bits.{odd}
use Rattle.model.specs.Wrote.{Wrote}
use Rattle.invariant_terms.specs.Terms.{opposite, number_of}
use Rattle.invariant_laws.specs.declared.Law.{Law}
use Rattle.invariant_laws.specs.LawForms.{law_fits}

pub wrote-five : (a b c d e : ℤ) (old : List ℤ) → 5 ≤ length old
    → Wrote (a ∷ b ∷ c ∷ d ∷ e ∷ []) old (set (set (set (set (set old 0 a) 1 b) 2 c) 3 d) 4 e) 5
wrote-five a b c d e [] h = absurd (omega arith)
wrote-five a b c d e (x ∷ []) h = absurd (omega arith)
wrote-five a b c d e (x ∷ y ∷ []) h = absurd (omega arith)
wrote-five a b c d e (x ∷ y ∷ z ∷ []) h = absurd (omega arith)
wrote-five a b c d e (x ∷ y ∷ z ∷ w ∷ []) h = absurd (omega arith)
wrote-five a b c d e (x ∷ y ∷ z ∷ w ∷ v ∷ old) h = record { counted = refl; leaves = refl }

-- a law whose terms have clause numbers
pub record Small (x : Law) : Type 0 where
  pub guard-most : x.guard < 4294967294
  pub second-most : x.second < 4294967294
  pub left-most : x.left < 4294967292
  pub right-most : x.right < 4294967292

four : (p q r t : Bool) → (p && q && r && t) ≡ true → (p ≡ true) × (q ≡ true) × (r ≡ true) × (t ≡ true)
four true true true true e = (refl, refl, refl, refl)
four true true true false e = absurd (false≢true e)
four true true false t e = absurd (false≢true e)
four true false r t e = absurd (false≢true e)
four false q r t e = absurd (false≢true e)

pub small : (x : Law) → law_fits x ≡ true → Small x
unfolding law_fits
small x e =
    let parts = four (ltb x.guard 4294967294) (ltb x.second 4294967294) (ltb x.left 4294967292) (ltb x.right 4294967292) e in
    record {
      guard-most = ltb-true x.guard 4294967294 parts.0;
      second-most = ltb-true x.second 4294967294 parts.1;
      left-most = ltb-true x.left 4294967292 parts.2;
      right-most = ltb-true x.right 4294967292 parts.3;
    }

pub opposite-most : (x : ℕ) → opposite x ≤ x + 1
unfolding opposite
opposite-most x = go (odd x)
  where
    go : (b : Bool) → cond b (x - 1) (x + 1) ≤ x + 1
    go true = omega arith
    go false = omega arith

-- the number of such a term, as a machine reads it
pub read_number : (x : ℕ) → x < 4294967294 → to_z w32 (of_z w32 (number_of x)) ≡ number_of x
unfolding number_of
read_number x h = go (odd x)
  where
    go : (b : Bool) → to_z w32 (of_z w32 (cond b (negsuc (x / 2)) (pos (suc (x / 2))))) ≡ cond b (negsuc (x / 2)) (pos (suc (x / 2)))
    go true = to_z-of_z w32 (negsuc (x / 2)) (fits (negsuc (x / 2)) (omega arith))
    go false = to_z-of_z w32 (pos (suc (x / 2))) (fits (pos (suc (x / 2))) (omega arith))
