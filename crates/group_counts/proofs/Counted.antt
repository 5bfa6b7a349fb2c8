-- Clauses counted by their end marks, the most numbers of a group, and the clauses of a depth from those of one group of each class. No
-- contract cites this file.
use Prim.Native.Nat.{ℕ, zero, suc, ◌+◌, ◌-◌, ◌*◌, ◌/◌, ◌^◌, ◌≤◌, ◌<◌}
use mathlib.Core.Path.{◌≡◌, refl, sym, ap, ap₂, ◌∙◌}
use mathlib.Core.Bool.{true, cond}
use mathlib.Core.List.{List, [], ◌∷◌, ◌++◌}
use native.Mathlib.Nat.{mul-le-mul}
use native.Mathlib.Omega.{arith}
use borrow.Author.Tests.{eq-eqb, ne_eqb}
use lib.Dec.{eqb}
use lib.IntN.{ℤ, pos, negsuc}
use lib.ListN.{length, get_or, take, drop}
use lib.Seq.{take-append_seam}
use lib.Signed.{mag}
use mir.Syntax.{w32}
use mir.Val.{to_z, of_z}
use mir.ValLaws.{to_z-of_z}
use Rattle.std.specs.Prelude.{nat_abs, count_by}
use Rattle.std.proofs.lemmas.List.Recursion.{is_count_by}
use Rattle.model.specs.Netlist.{Netlist, Start, given, unknown, start, ports, IsPort}
use Rattle.model.specs.Gather.{gather}
use Rattle.model.specs.Acceptance.{SizesFit, Accepted}
use Rattle.model.specs.Groups.{in_depth, clauses_of, at_ports}
use Rattle.model.specs.Numbers.{numbers_of, formula, split_after, clauses_in}
use Rattle.model.specs.Counts.{where_given, where_unknown, number_count}
use Rattle.model.specs.Wrote.{Wrote}
use Rattle.model.specs.declared.Group.{Group}
use Rattle.model.specs.declared.Group.TheVariants.{Wires, Pair, Closing, Property}
use Rattle.model.proofs.Ports.{first-port, second-port}
use Rattle.model.proofs.Joined.{closing-in_depth}
use Rattle.model.proofs.Bounds.{wires-within, pairs-within, closing-within, property-within, all-within-one}
use Rattle.model.proofs.Numbers.{clauses_in-written}
use Rattle.model.proofs.Variables.{base-least}
use Rattle.model.proofs.Classes.{shown_count, of, count, count-adds, count-one, pairs, closings, formula-count}
use Rattle.netlist.specs.declared.Netlist as R
use Rattle.netlist.specs.NetOf.{net_of}
use Rattle.group_counts.specs.PairCounts.{group_count, ports_count, pair_counts}

-- how many clauses there are does not depend on what stands before
split-length : (b d zs : List ℤ) → length (split_after b zs) ≡ length (split_after d zs)
unfolding split_after
split-length b d [] = refl
split-length b d (pos zero ∷ zs) = refl
split-length b d (pos (suc v) ∷ zs) = split-length (b ++ pos (suc v) ∷ []) (d ++ pos (suc v) ∷ []) zs
split-length b d (negsuc v ∷ zs) = split-length (b ++ negsuc v ∷ []) (d ++ negsuc v ∷ []) zs

-- each clause ends with the one end mark
pub ends-counted : (zs : List ℤ) → length (clauses_in zs) ≡ count_by (λ (z : ℤ). eqb (nat_abs z) 0) zs
unfolding clauses_in split_after
ends-counted zs = is_count_by (λ (ys : List ℤ). length (split_after [] ys)) (λ (z : ℤ). eqb (nat_abs z) 0) refl each zs
  where
    each : (z : ℤ) (ys : List ℤ)
        → length (split_after [] (z ∷ ys)) ≡ cond (eqb (nat_abs z) 0) (1 + length (split_after [] ys)) (length (split_after [] ys))
    each (pos zero) ys = omega arith
    each (pos (suc v)) ys = rw (ne_eqb (suc v) 0 (λ e. omega arith)) (split-length (pos (suc v) ∷ []) [] ys)
    each (negsuc v) ys = rw (ne_eqb (suc v) 0 (λ e. omega arith)) (split-length (negsuc v ∷ []) [] ys)

-- a number of a slice as a machine reads it
pub element-is : (zs : List ℤ) (i : ℕ) → mag (get_or zs i (pos 0)) < 2 ^ 31 → to_z w32 (of_z w32 (get_or zs i (pos 0))) ≡ get_or zs i (pos 0)
element-is zs i h = to_z-of_z w32 (get_or zs i (pos 0)) (record { sfits = h })

-- what was written stands in front
pub wrote-front : {A : Type 0} {xs old new : List A} {r : ℕ} → Wrote xs old new r → take r new ≡ xs
wrote-front {A} {xs} {old} {new} {r} w = rw (w.counted, w.leaves) (take-append_seam xs (drop (length xs) old))

-- what only one start has is at most all of it
given-most : (s : Start) (x : ℕ) → where_given s x ≤ x
unfolding where_given
given-most (given word) x = omega arith
given-most unknown x = omega arith

unknown-most : (s : Start) (x : ℕ) → where_unknown s x ≤ x
unfolding where_unknown
unknown-most (given word) x = omega arith
unknown-most unknown x = omega arith

-- no group has more than 5,992 numbers: the most are the wires of frame 0 with gates alone
pub numbers-most : (c : Netlist) (k : ℕ) (g : Group) → Accepted c → k ≤ 255 → in_depth (ports c) k g ≡ true → number_count c k g ≤ 5992
unfolding number_count
numbers-most c k (Wires zero) a d h = omega (arith, a.limits.sizes.wires-fit, a.limits.sizes.n-least)
numbers-most c k (Wires (suc i)) a d h = omega (arith, a.limits.sizes.wires-fit, a.limits.sizes.n-least)
numbers-most c k (Pair j i p) a d h =
    omega (arith, a.limits.sizes.m-most, a.limits.sizes.n-most, unknown-most (start c) (12 * c.n))
numbers-most c k (Closing zero p) a d h = omega (arith, a.limits.sizes.n-most, given-most (start c) (8 * c.n))
numbers-most c k (Closing (suc i) p) a d h =
    omega (arith, a.limits.sizes.n-most, ((closing-in_depth (ports c) k (suc i) p).0 h).0, given-most (start c) (8 * c.n))
numbers-most c k Property a d h = omega (arith, d)

-- pairs of frames
pub pairs-most : (k : ℕ) → k ≤ 255 → k * (k + 1) ≤ 65280
pairs-most k h =
    let next : k + 1 ≤ 256 = omega arith in
    let both : k * (k + 1) ≤ 255 * 256 = mul-le-mul h next in
    both

-- the clauses of a group that are written, as the model counts them
module _ {c : Netlist} (ok : Accepted c) (k : ℕ) where
  wires-shown : (i : ℕ) → i ≤ k → length (clauses_in (numbers_of c k (Wires i))) ≡ shown_count (clauses_of c k (Wires i))
  unfolding numbers_of shown_count
  wires-shown i h = ap length (clauses_in-written _ _ (base-least c (k + 1)) (wires-within ok k i h))

  pair-shown : (p : ℕ) → IsPort c p → (j i : ℕ) → j < i → i ≤ k
      → length (clauses_in (numbers_of c k (Pair j i p))) ≡ shown_count (clauses_of c k (Pair j i p))
  unfolding numbers_of shown_count
  pair-shown p here j i l h = ap length (clauses_in-written _ _ (base-least c (k + 1)) (all-within-one (pairs-within ok k p here j i l h)))

  closing-shown : (p : ℕ) → IsPort c p → (i : ℕ) → i ≤ k
      → length (clauses_in (numbers_of c k (Closing i p))) ≡ shown_count (clauses_of c k (Closing i p))
  unfolding numbers_of shown_count
  closing-shown p here i h = ap length (clauses_in-written _ _ (base-least c (k + 1)) (all-within-one (closing-within ok k p here i h)))

  property-shown : length (clauses_in (numbers_of c k Property)) ≡ shown_count (clauses_of c k Property)
  unfolding numbers_of shown_count
  property-shown = ap length (clauses_in-written _ _ (base-least c (k + 1)) (all-within-one (property-within ok k)))

-- over all ports of a record: that of the first, and that of a second if there is one
module _ (r : R.Netlist) (ls gs : List ℕ) where
  pub second-there : (r.second_port ≡ 0 → ⊥) → IsPort (net_of r ls gs) 2
  unfolding net_of
  second-there other = (omega arith, omega (arith, other))

  pub count-first : (f : ℕ → Group) (first : ℕ) → r.second_port ≡ 0 → first ≡ group_count (net_of r ls gs) (f 1)
      → first ≡ ports_count (net_of r ls gs) f
  unfolding ports_count net_of
  count-first f first single e = rw (eq-eqb r.second_port 0 single) (omega (arith, e))

  pub count-both : (f : ℕ → Group) (first second : ℕ) → (r.second_port ≡ 0 → ⊥) → first ≡ group_count (net_of r ls gs) (f 1)
      → second ≡ group_count (net_of r ls gs) (f 2) → first + second ≡ ports_count (net_of r ls gs) f
  unfolding ports_count net_of
  count-both f first second other e h = rw (ne_eqb r.second_port 0 other) (omega (arith, e, h))

-- as the model counts them
ports-shown : {c : Netlist} → SizesFit c → (k : ℕ) (f : ℕ → Group) → ((p : ℕ) → IsPort c p → group_count c (f p) ≡ of c k (f p))
    → ports_count c f ≡ count c k (at_ports (ports c) f)
unfolding ports_count at_ports gather
ports-shown {c} fit k f each = go c.second_port refl
  where
    go : (s : ℕ) → c.second_port ≡ s → group_count c (f 1) + cond (eqb s 0) 0 (group_count c (f 2)) ≡ count c k (gather (suc s) (λ x. f (suc x) ∷ []))
    go zero e = omega (arith, each 1 (first-port c), count-one c k (f 1))
    go (suc zero) e =
        ap₂ ◌+◌ (each 1 (first-port c) ∙ sym (count-one c k (f 1))) (each 2 (second-port c (omega (arith, e))) ∙ sym (count-one c k (f 2)))
        ∙ sym ((count-adds c k).of-both (f 1 ∷ []) (f 2 ∷ []))
    go (suc (suc s)) e = absurd (omega (arith, fit.kind_fits, e))

-- of a pair, and of a closing. But for the property, a group's clauses do not depend on the depth: they are counted at the greatest
pair-ports : {c : Netlist} → Accepted c → (k j i : ℕ) → j < i → i ≤ 255 → ports_count c (Pair j i) ≡ pairs c k j i
unfolding clauses_of
pair-ports ok k j i l h = ports-shown ok.limits.sizes k (Pair j i) (λ p here. pair-shown ok 255 p here j i l h)

closing-ports : {c : Netlist} → Accepted c → (k i : ℕ) → i ≤ 255 → ports_count c (Closing i) ≡ closings c k i
unfolding clauses_of
closing-ports ok k i h = ports-shown ok.limits.sizes k (Closing i) (λ p here. closing-shown ok 255 p here i h)

-- of all pairs of a depth
pairs-shown : {c : Netlist} → Accepted c → (k : ℕ)
    → pair_counts c k
    ≡ (k - (k - 1)) * pairs c k 0 1 + (k - 1) * (pairs c k 1 2 + pairs c k 0 2)
    + ((k - 1) * (k - 1 + 1) / 2 - (k - 1)) * pairs c k 1 3
unfolding pair_counts
pairs-shown ok zero = omega arith
pairs-shown ok (suc i) =
    let last : suc i - 1 ≡ i = omega arith in
    let one : suc i - i ≡ 1 = omega arith in
    rw (
      last,
      one,
      pair-ports ok (suc i) 0 1 (omega arith) (omega arith),
      pair-ports ok (suc i) 1 2 (omega arith) (omega arith),
      pair-ports ok (suc i) 0 2 (omega arith) (omega arith),
      pair-ports ok (suc i) 1 3 (omega arith) (omega arith),
    )
    (omega arith)

-- of a depth above 0, by one pair of each class
pub some-counted : (c : Netlist) (k first later far : ℕ) → 1 ≤ k → first ≡ ports_count c (Pair 0 1)
    → later ≡ ports_count c (Pair 1 2) + ports_count c (Pair 0 2) → far ≡ ports_count c (Pair 1 3)
    → first + (k - 1) * later + ((k - 1) * (k - 1 + 1) / 2 - (k - 1)) * far ≡ pair_counts c k
unfolding pair_counts
some-counted c zero first later far h ef el er = absurd (omega arith)
some-counted c (suc i) first later far h ef el er =
    let last : suc i - 1 ≡ i = omega arith in
    rw (last, ef, el, er)

-- the clauses of a depth
pub counted : {c : Netlist} → Accepted c → (k first later pairs property : ℕ)
    → first ≡ group_count c (Wires 0) + ports_count c (Closing 0) → later ≡ group_count c (Wires 1) + ports_count c (Closing 1)
    → pairs ≡ pair_counts c k → property ≡ length (clauses_in (numbers_of c k Property))
    → first + k * later + pairs + property ≡ length (clauses_in (formula c k))
unfolding clauses_of
counted {c} ok k first later pairs property ef el es ep =
    rw (
      ef,
      el,
      es,
      ep,
      wires-shown ok 255 0 (omega arith),
      closing-ports ok k 0 (omega arith),
      wires-shown ok 255 1 (omega arith),
      closing-ports ok k 1 (omega arith),
      property-shown ok k,
    )
    (sum _ _ _ _ _ _ _ _ (formula-count ok k) (pairs-shown ok k))
  where
    sum : (total f l x y z s q : ℕ) → total ≡ f + l + x + y + z + q → s ≡ x + y + z → f + l + s + q ≡ total
    sum total f l x y z s q e h = omega arith
