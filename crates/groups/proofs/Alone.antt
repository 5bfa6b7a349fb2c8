-- What looks at no list is the same for a record with and without its lists: the numbers of pairs, closings and the property.
-- No contract cites this file.
use Prim.Native.Nat.{ℕ, zero, suc, ◌+◌, ◌*◌, ◌≤◌, ◌<◌}
use mathlib.Core.Path.{◌≡◌, refl, sym, ◌∙◌, ap, subst}
use mathlib.Core.List.{List}
use native.Mathlib.Omega.{arith}
use mathlib.Core.Bool.{true, cond}
use lib.Dec.{eqb}
use lib.IntN.{ℤ}
use borrow.Author.Tests.{ne_eqb, leb-true}
use Rattle.model.specs.Netlist as M
use Rattle.model.specs.Acceptance.{SizesFit, Accepted}
use Rattle.model.specs.Clauses.{pair_clauses, closing_clauses}
use Rattle.model.specs.Variables.{base, pair_base, none_since_of, selected, read_bit, pair_literals, closing_literals}
use Rattle.model.specs.Groups.{violation_of, clauses_of, in_depth}
use Rattle.model.specs.Numbers.{written, numbers_of}
use Rattle.model.specs.Counts.{where_given, where_unknown, number_count}
use Rattle.model.specs.Wrote.{Wrote}
use Rattle.model.specs.declared.Group.{Group}
use Rattle.model.specs.declared.Group.TheVariants.{Wires, Pair, Closing, Property}
use Rattle.model.proofs.Joined.{pair-in_depth, closing-in_depth}
use Rattle.netlist.specs.NetOf.{net_of, alone}
use Rattle.netlist.specs.declared.Netlist.{Netlist}
use Rattle.clause_variables.specs.PortFits.{PortFits}
use Rattle.clause_variables.proofs.Room.{port-fits}
use Rattle.netlist.proofs.NetOf.{limits-alone}

module _ (r : Netlist) (ls gs : List ℕ) where
  -- a port of an accepted record, and the sizes and codes that it has
  pub port-alone : Accepted (net_of r ls gs) → (x : ℕ) → M.IsPort (net_of r ls gs) x → SizesFit (alone r) × M.IsPort (alone r) x
  unfolding net_of
  port-alone ok x is = ((limits-alone r ls gs ok.limits).sizes, is)

  pub fits-alone : Accepted (net_of r ls gs) → (x : ℕ) → M.IsPort (net_of r ls gs) x → (p : M.Port) → p ≡ M.port (alone r) x → PortFits (alone r) p
  unfolding net_of
  fits-alone ok x is p e = rw e (port-fits (limits-alone r ls gs ok.limits) x is)

  -- a pair
  pub pair-alone : (x : ℕ) (p : M.Port) → p ≡ M.port (alone r) x → (k j i : ℕ)
      → written (pair_clauses r.m r.n (M.start_of r.initial_word r.unknown_start) (pair_literals (alone r) p j i)) ≡ numbers_of (net_of r ls gs) k (Pair j i x)
  unfolding net_of numbers_of clauses_of pair_literals base pair_base none_since_of selected read_bit
  pair-alone x p e k j i = rw e

  -- a closing
  pub closing-alone : (x : ℕ) (p : M.Port) → p ≡ M.port (alone r) x → (k i : ℕ)
      → written (closing_clauses r.n (M.start_of r.initial_word r.unknown_start) i (closing_literals (alone r) p i)) ≡ numbers_of (net_of r ls gs) k (Closing i x)
  unfolding net_of numbers_of clauses_of closing_literals base pair_base none_since_of selected read_bit
  closing-alone x p e k i = rw e

  -- the property
  pub property-alone : (k : ℕ) → numbers_of (alone r) k Property ≡ numbers_of (net_of r ls gs) k Property
  unfolding net_of numbers_of clauses_of violation_of base
  property-alone k = refl

  -- how many numbers a group has, known by its kind
  module _ (k : ℕ) {g : Group} where
    pub wires-count : (i : ℕ) → g ≡ Wires i
        → number_count (net_of r ls gs) k g ≡ cond (eqb i 0) (r.latches * 2 + 2) (r.latches * 6) + r.gates * 10
    unfolding number_count net_of
    wires-count zero e = rw e (omega arith)
    wires-count (suc i) e = rw (e, ne_eqb (suc i) 0 (λ h. omega arith)) (omega arith)

    pub pair-count : {j i x : ℕ} → g ≡ Pair j i x → number_count (net_of r ls gs) k g
        ≡ 17 * r.m + 8 * r.n + 32 + where_unknown (M.start_of r.initial_word r.unknown_start) (12 * r.n)
    unfolding number_count net_of
    pair-count e = rw e

    pub closing-count : (i x : ℕ) → g ≡ Closing i x
        → number_count (net_of r ls gs) k g
        ≡ where_given (M.start_of r.initial_word r.unknown_start) (8 * r.n) + cond (eqb i 0) 0 (r.n * 8) + i + 3
    unfolding number_count net_of
    closing-count zero x e = rw e (omega arith)
    closing-count (suc i) x e = rw (e, ne_eqb (suc i) 0 (λ h. omega arith)) (omega arith)

    pub property-count : g ≡ Property → number_count (net_of r ls gs) k g ≡ k + 2
    unfolding number_count
    property-count e = rw e

-- the wires of a frame, at any depth
pub wires-depth : (c : M.Netlist) (k i : ℕ) → numbers_of c i (Wires i) ≡ numbers_of c k (Wires i)
unfolding numbers_of clauses_of
wires-depth c k zero = refl
wires-depth c k (suc i) = refl

-- a group known by its kind: what is written, and its frames
module _ (c : M.Netlist) (k : ℕ) {g g' : Group} (e : g ≡ g') {zs : List ℤ} (h : zs ≡ numbers_of c k g') where
  pub wrote-by-kind : {old new : List ℤ} {r : ℕ} → Wrote zs old new r → Wrote (numbers_of c k g) old new r
  wrote-by-kind {old} {new} {r} w = subst (λ (xs : List ℤ). Wrote xs old new r) (h ∙ ap (numbers_of c k) (sym e)) w

module _ (ports k : ℕ) {g : Group} where
  pub wires-frame : (i : ℕ) → g ≡ Wires i → in_depth ports k g ≡ true → i ≤ k
  unfolding in_depth
  wires-frame i e h = leb-true i k (sym (ap (in_depth ports k) e) ∙ h)

  pub pair-frames : (j i x : ℕ) → g ≡ Pair j i x → in_depth ports k g ≡ true → (i ≤ k) × (j < i) × ((1 ≤ x) × (x ≤ ports))
  pair-frames j i x e h = (pair-in_depth ports k j i x).0 (sym (ap (in_depth ports k) e) ∙ h)

  pub closing-frame : (i x : ℕ) → g ≡ Closing i x → in_depth ports k g ≡ true → (i ≤ k) × ((1 ≤ x) × (x ≤ ports))
  closing-frame i x e h = (closing-in_depth ports k i x).0 (sym (ap (in_depth ports k) e) ∙ h)
