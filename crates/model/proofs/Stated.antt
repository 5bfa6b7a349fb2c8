-- What else is said of the clauses of a depth (`Stated` of specs/Claim.antt), proved for every accepted netlist. No contract cites
-- this file.
use Prim.Native.Nat.{ℕ, zero, suc, zero-le, ◌+◌, ◌≤◌, ◌<◌}
use mathlib.Core.Path.{◌≡◌, ap, subst}
use mathlib.Core.Bool.{true}
use mathlib.Core.List.{[]}
use native.Mathlib.Nat.{not-suc-le-zero}
use native.Mathlib.Numerals.{add-one}
use native.Mathlib.Omega.{arith}
use borrow.Author.Tests.{leb-true}
use lib.IntN.{pos, nat_abs}
use lib.ListN.{length, get_or}
use Rattle.model.specs.Netlist.{Netlist, ports}
use Rattle.model.specs.Acceptance.{Accepted}
use Rattle.model.specs.Variables.{base}
use Rattle.model.specs.Groups.{clauses_of, in_depth}
use Rattle.model.specs.Numbers.{numbers_of, formula, clauses_in}
use Rattle.model.specs.Counts.{clause_count, number_count}
use Rattle.model.specs.Claim.{NoConstant, Stated, StatedTheorem}
use Rattle.model.specs.declared.Group.{Group}
use Rattle.model.specs.declared.Group.TheVariants.{Wires, Pair, Closing, Property}
use Rattle.model.proofs.Gather.{all_get_d, all-below-length}
use Rattle.model.proofs.Joined.{pair-in_depth, closing-in_depth}
use Rattle.model.proofs.Numbering.{numbered}
use Rattle.model.proofs.Lengths.{wires-clauses-first, wires-clauses-later, pair-clauses, closing-clauses-first, closing-clauses-later, property-clauses, wires-numbers-first, wires-numbers-later, pair-numbers, closing-numbers-first, closing-numbers-later, property-numbers}
use Rattle.model.proofs.Variables.{base-least}
use Rattle.model.proofs.Bounds.{AllLits, Within, all-within-one, wires-within, pairs-within, closing-within, property-within, formula-first, written-within}
use Rattle.model.proofs.Numbers.{shown, shown-length, shown-one, shown-constants, clauses_in-written}
use Rattle.model.proofs.Claim.{clauses_in-formula, encodes, satisfies-same, unsatisfiable→safe}

-- the numbers of a group, at most as many as RULES G36 counts
group-numbers : (c : Netlist) (k : ℕ) (g : Group) → length (numbers_of c k g) ≤ number_count c k g
unfolding number_count
group-numbers c k (Wires zero) = wires-numbers-first c k
group-numbers c k (Wires (suc i)) = wires-numbers-later c k i
group-numbers c k (Pair j i p) = pair-numbers c k j i p
group-numbers c k (Closing zero p) = closing-numbers-first c k p
group-numbers c k (Closing (suc i) p) = closing-numbers-later c k i p
group-numbers c k Property = property-numbers c k

-- its clauses
group-clauses : (c : Netlist) (k : ℕ) (g : Group) → length (clauses_of c k g) ≡ clause_count c k g
unfolding clause_count
group-clauses c k (Wires zero) = wires-clauses-first c k
group-clauses c k (Wires (suc i)) = wires-clauses-later c k i
group-clauses c k (Pair j i p) = pair-clauses c k j i p
group-clauses c k (Closing zero p) = closing-clauses-first c k p
group-clauses c k (Closing (suc i) p) = closing-clauses-later c k i p
group-clauses c k Property = property-clauses c k

module _ {c : Netlist} (ok : Accepted c) (k : ℕ) where
  -- no literal of a group that there is goes beyond the depth's variables
  group-within : (g : Group) → in_depth (ports c) k g ≡ true → AllLits (Within 1 (base c (k + 1))) (clauses_of c k g)
  group-within (Wires i) h = wires-within ok k i (leb-true i k (unfold in_depth in h))
  group-within (Pair j i p) h =
      let there = (pair-in_depth (ports c) k j i p).0 h in all-within-one (pairs-within ok k p there.2 j i there.1 there.0)
  group-within (Closing i p) h =
      let there = (closing-in_depth (ports c) k i p).0 h in all-within-one (closing-within ok k p there.1 i there.0)
  group-within Property h = all-within-one (property-within ok k)

  -- so its numbers split into those of its clauses that are written
  clauses-in-group : (g : Group) → in_depth (ports c) k g ≡ true → length (clauses_in (numbers_of c k g)) ≤ clause_count c k g
  unfolding numbers_of
  clauses-in-group g h =
      rw (clauses_in-written (base c (k + 1)) (clauses_of c k g) (base-least c (k + 1)) (group-within g h))
      (omega (arith, shown-length (clauses_of c k g), group-clauses c k g))

  -- and each is one of the depth's variables, negative or not, or an end mark
  numbers-in-group : (g : Group) → in_depth (ports c) k g ≡ true → (x : ℕ) → nat_abs (get_or (numbers_of c k g) x (pos 0)) ≤ base c (k + 1)
  unfolding numbers_of
  numbers-in-group g h x =
      all_get_d (written-within (base c (k + 1)) (clauses_of c k g) (base-least c (k + 1)) (group-within g h)) zero-le x

  -- behind the first clause there is no constant
  no-constant : (x : ℕ) → 1 ≤ x → x < length (clauses_in (formula c k)) → NoConstant (get_or (clauses_in (formula c k)) x [])
  no-constant zero h = absurd (not-suc-le-zero h)
  no-constant (suc x) h =
      let first = formula-first ok k in
      rw (clauses_in-formula ok k, ap shown first.is, shown-one first.rest)
      (λ l. all-below-length [] (shown-constants (base c (k + 1)) first.rest first.others) x (omega arith))

  stated-depth : Stated c k
  stated-depth =
      record {
        only-numbered = satisfies-same ok k;
        all-numbered = λ v least most. numbered c k v least (subst (λ (n : ℕ). v ≤ base c n) (add-one k) most);
        numbers-within = numbers-in-group;
        unsatisfiable→safe = unsatisfiable→safe (encodes c ok k);
        clauses-counted = clauses-in-group;
        numbers-counted = group-numbers c k;
        no-constants = no-constant;
      }

pub stated : StatedTheorem
stated c ok k = stated-depth ok k
