-- The clauses of all groups of a depth, joined in the order of the whole: their numbers are the formula, and what splits over
-- joined clauses splits into the groups. No contract cites this file.
use Prim.Native.Nat.{ℕ, suc, ◌+◌, ◌-◌, ◌≤◌, ◌<◌}
use mathlib.Core.Path.{◌≡◌, refl, ap₂, subst}
use mathlib.Core.Bool.{true, ◌&&◌}
use mathlib.Core.List.{List, [], ◌∷◌, ◌++◌, append_assoc, append-nil}
use mathlib.Core.Logic.Iff
use mathlib.Core.Logic.{◌↔◌}
use native.Mathlib.Omega.{arith}
use lib.Dec.{leb, ltb}
use lib.IntN.{ℤ}
use borrow.Author.Tests.{le-leb, lt-ltb, leb-true, ltb-true}
use Rattle.model.specs.Netlist.{Netlist, ports, IsPort}
use Rattle.model.specs.Gather.{gather, gather_down}
use Rattle.model.specs.Clauses.{Clause}
use Rattle.model.specs.Groups.{clauses_of, at_ports, frame_groups, group_order, in_depth}
use Rattle.model.specs.Numbers.{written_clause, written, numbers_of, joined, formula}
use Rattle.model.specs.declared.Group.{Group}
use Rattle.model.specs.declared.Group.TheVariants.{Wires, Pair, Closing, Property}
use Rattle.model.proofs.Booleans.{and-true}
use Rattle.model.proofs.Gather.{Splits, splits-gather, splits-gather_down, All, nothing, also, just, ◌⧺◌, all-gather, all-gather_down}

-- joined clauses are written one list after the other
pub written-append : (xs ys : List Clause) → written (xs ++ ys) ≡ written xs ++ written ys
unfolding written
written-append [] ys = refl
written-append (x ∷ xs) ys = rw (written-append xs ys, append_assoc (written_clause x))

-- the clauses of several groups, joined
unfoldable pub joined_clauses : (Group → List Clause) → List Group → List Clause
joined_clauses f [] = []
joined_clauses f (g ∷ gs) = f g ++ joined_clauses f gs

-- one list of groups after the other
pub joined_clauses-append : (f : Group → List Clause) (gs hs : List Group)
    → joined_clauses f (gs ++ hs) ≡ joined_clauses f gs ++ joined_clauses f hs
unfolding joined_clauses
joined_clauses-append f [] hs = refl
joined_clauses-append f (g ∷ gs) hs = rw (joined_clauses-append f gs hs, append_assoc (f g))

-- groups written and joined are groups joined and written
joined-written : (f : Group → List Clause) (gs : List Group)
    → joined (λ g. written (f g)) gs ≡ written (joined_clauses f gs)
unfolding joined joined_clauses written
joined-written f [] = refl
joined-written f (g ∷ gs) = rw (joined-written f gs, written-append (f g))

-- the numbers of a depth are its clauses, written
pub formula-written : (c : Netlist) (k : ℕ) → formula c k ≡ written (joined_clauses (clauses_of c k) (group_order (ports c) k))
unfolding formula numbers_of
formula-written c k = joined-written (clauses_of c k) (group_order (ports c) k)

-- one list of groups after the other
pub joined-append : (f : Group → List ℤ) (gs hs : List Group) → joined f (gs ++ hs) ≡ joined f gs ++ joined f hs
unfolding joined
joined-append f [] hs = refl
joined-append f (g ∷ gs) hs = rw (joined-append f gs hs, append_assoc (f g))

-- what is joined needs to be the same at the groups joined alone
pub joined_same : {f h : Group → List ℤ} {gs : List Group} → All (λ g. f g ≡ h g) gs → joined f gs ≡ joined h gs
unfolding joined
joined_same nothing = refl
joined_same (also e r) = ap₂ ◌++◌ e (joined_same r)

-- each group of depth k has it
pub record EachGroup (c : Netlist) (k : ℕ) (H : List Clause → Type 0) : Type 0 where
  pub wires : (i : ℕ) → i ≤ k → H (clauses_of c k (Wires i))
  pub pairs : (p : ℕ) → IsPort c p → (j i : ℕ) → j < i → i ≤ k → H (clauses_of c k (Pair j i p))
  pub closings : (p : ℕ) → IsPort c p → (i : ℕ) → i ≤ k → H (clauses_of c k (Closing i p))
  pub property : H (clauses_of c k Property)

module _ (c : Netlist) (k : ℕ) (H : List Clause → Type 0) (splits : Splits H) where
  -- of lists of groups
  Over : List Group → Type 0
  Over gs = H (joined_clauses (clauses_of c k) gs)

  over-splits : Splits Over
  unfolding Over joined_clauses
  over-splits =
      record {
        of_none = splits.of_none;
        of-both = λ gs hs. rw (joined_clauses-append (clauses_of c k) gs hs) (splits.of-both (joined_clauses (clauses_of c k) gs) (joined_clauses (clauses_of c k) hs));
      }

  over-one : (g : Group) → Over (g ∷ []) ↔ H (clauses_of c k g)
  unfolding Over joined_clauses
  over-one g = rw append-nil Iff.rfl

  over-cons : (g : Group) (gs : List Group) → Over (g ∷ gs) ↔ (H (clauses_of c k g) × Over gs)
  unfolding Over joined_clauses
  over-cons g gs = splits.of-both (clauses_of c k g) (joined_clauses (clauses_of c k) gs)

  -- a group for each port, as gathered and by its number
  over-ports : (f : ℕ → Group) → Over (gather (ports c) (λ x. f (suc x) ∷ [])) ↔ ((p : ℕ) → IsPort c p → H (clauses_of c k (f p)))
  over-ports f =
      Iff.trans (splits-gather over-splits (ports c) (λ x. f (suc x) ∷ [])) (
        λ h p b. let x : suc (p - 1) ≡ p = omega (arith, b.0) in subst (λ (q : ℕ). H (clauses_of c k (f q))) x ((over-one (f (suc (p - 1)))).0 (h (p - 1) (omega (arith, b.0, b.1)))),
        λ h x b. (over-one (f (suc x))).1 (h (suc x) (omega arith, b)),
      )

  over-pairs : (i : ℕ)
      → Over (gather_down i (λ j. at_ports (ports c) (Pair j i))) ↔ ((p : ℕ) → IsPort c p → (j : ℕ) → j < i → H (clauses_of c k (Pair j i p)))
  unfolding at_ports
  over-pairs i =
      Iff.trans (splits-gather_down over-splits i (λ j. at_ports (ports c) (Pair j i))) (
        λ h p b j l. (over-ports (Pair j i)).0 (h j l) p b,
        λ h j l. (over-ports (Pair j i)).1 (λ p b. h p b j l),
      )

  over-closing : (i : ℕ) → Over (at_ports (ports c) (Closing i)) ↔ ((p : ℕ) → IsPort c p → H (clauses_of c k (Closing i p)))
  unfolding at_ports
  over-closing i = over-ports (Closing i)

  over-frame : (i : ℕ)
      → Over (frame_groups (ports c) i)
      ↔ (H (clauses_of c k (Wires i)) × (Over (gather_down i (λ j. at_ports (ports c) (Pair j i))) × Over (at_ports (ports c) (Closing i))))
  unfolding frame_groups
  over-frame i = simp (over-splits.of-both, over-cons) (λ h. search, λ h. search)

  -- what splits over joined clauses holds of all clauses of depth k exactly where each group has it
  pub each-group : H (joined_clauses (clauses_of c k) (group_order (ports c) k)) ↔ EachGroup c k H
  unfolding group_order Over
  each-group =
      Iff.trans (over-splits.of-both (gather (k + 1) (frame_groups (ports c))) (Property ∷ []))
      (Iff.trans (Iff.and (splits-gather over-splits (k + 1) (frame_groups (ports c))) (over-one Property)) (
        λ h.
            record {
              wires = λ i d. ((over-frame i).0 (h.0 i (omega arith))).0;
              pairs = λ p b j i l d. (over-pairs i).0 ((over-frame i).0 (h.0 i (omega arith))).1.0 p b j l;
              closings = λ p b i d. (over-closing i).0 ((over-frame i).0 (h.0 i (omega arith))).1.1 p b;
              property = h.1;
            },
        λ h. (
          λ i d. (over-frame i).1 (
            h.wires i (omega arith),
            ((over-pairs i).1 (λ p b j l. h.pairs p b j i l (omega arith)), (over-closing i).1 (λ p b. h.closings p b i (omega arith))),
          ),
          h.property,
        ),
      ))

-- a port of so many
is-port : (ports p : ℕ) → (leb 1 p && leb p ports ≡ true) ↔ ((1 ≤ p) × (p ≤ ports))
is-port ports p = (
  λ h. let both = (and-true (leb 1 p) (leb p ports)).0 h in (leb-true 1 p both.0, leb-true p ports both.1),
  λ h. (and-true (leb 1 p) (leb p ports)).1 (le-leb 1 p h.0, le-leb p ports h.1),
)

-- a pair, and a closing, that there is
pub pair-in_depth : (ports k j i p : ℕ) → (in_depth ports k (Pair j i p) ≡ true) ↔ ((i ≤ k) × (j < i) × ((1 ≤ p) × (p ≤ ports)))
unfolding in_depth
pair-in_depth ports k j i p = (
  λ h.
      let both = (and-true (leb i k && ltb j i) (leb 1 p && leb p ports)).0 h in
      let frames = (and-true (leb i k) (ltb j i)).0 both.0 in
      (leb-true i k frames.0, ltb-true j i frames.1, (is-port ports p).0 both.1),
  λ h.
      (and-true (leb i k && ltb j i) (leb 1 p && leb p ports)).1
      ((and-true (leb i k) (ltb j i)).1 (le-leb i k h.0, lt-ltb j i h.1), (is-port ports p).1 h.2),
)

pub closing-in_depth : (ports k i p : ℕ) → (in_depth ports k (Closing i p) ≡ true) ↔ ((i ≤ k) × ((1 ≤ p) × (p ≤ ports)))
unfolding in_depth
closing-in_depth ports k i p = (
  λ h. let both = (and-true (leb i k) (leb 1 p && leb p ports)).0 h in (leb-true i k both.0, (is-port ports p).0 both.1),
  λ h. (and-true (leb i k) (leb 1 p && leb p ports)).1 (le-leb i k h.0, (is-port ports p).1 h.1),
)

-- the order of the whole has groups that there are, and no others
pub order-in_depth : (ports k : ℕ) → All (λ g. in_depth ports k g ≡ true) (group_order ports k)
unfolding group_order frame_groups at_ports
order-in_depth ports k =
    all-gather (k + 1) (frame_groups ports) (λ i b.
    just (wires i (omega arith))
    ⧺ all-gather_down i (λ j. at_ports ports (Pair j i)) (λ j l. all-gather ports _ (λ x d. just ((pair-in_depth ports k j i (suc x)).1 (omega arith, l, (omega arith, d)))))
    ⧺ all-gather ports _ (λ x d. just ((closing-in_depth ports k i (suc x)).1 (omega arith, (omega arith, d)))))
    ⧺ just property
  where
    wires : (i : ℕ) → i ≤ k → in_depth ports k (Wires i) ≡ true
    wires i h = unfold in_depth in le-leb i k h

    property : in_depth ports k Property ≡ true
    property = unfold in_depth in refl
