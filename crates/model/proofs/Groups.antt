-- What the groups of specs/Groups.antt mean, in the values that an assignment gives the wires of each frame.
-- No contract cites this file.
use Prim.Native.Nat.{ℕ, zero, suc, zero-le, ◌+◌, ◌≤◌, ◌<◌}
use mathlib.Core.Path.{◌≡◌, refl, sym, ◌∙◌, ap}
use mathlib.Core.Bool.{Bool, true, false, cond, not, ◌&&◌}
use mathlib.Core.Logic.Iff
use mathlib.Core.Logic.{◌↔◌}
use native.Mathlib.Numerals.{add-one}
use native.Mathlib.Omega.{arith}
use lib.Dec.{eqb}
use borrow.Author.Tests.{not-true}
use Rattle.model.specs.Netlist.{Netlist, Start, start, IsPort, port, latch_wire, gate_wire}
use Rattle.model.specs.Circuit.{code_value}
use Rattle.model.specs.Gather.{gather}
use Rattle.model.specs.Clauses.{plus, neg}
use Rattle.model.specs.Variables.{wire_in, code_in, pair_literals, closing_literals}
use Rattle.model.specs.Groups.{gate_clauses, reset_clauses, latch_clauses, violation_of, clauses_of}
use Rattle.model.specs.Numbers.{Assignment}
use Rattle.model.specs.declared.Group.TheVariants.{Wires, Pair, Closing, Property}
use Rattle.model.specs.Trace.{assigned}
use Rattle.model.proofs.Truth.{value, value-neg, any_true, any_true-one, any_true-gather, AllHold, all_hold-append, all_hold-one, all_hold-none, all_hold-cons, all_hold-gather, and_clauses-holds, same_clauses-holds, PairHolds, pair_clauses-holds, ClosingHolds, closing_clauses-holds}
use Rattle.model.proofs.InFrame.{wire_in-value, code_in-value}
use Rattle.model.proofs.Joined.{EachGroup}

-- a gate is the conjunction of its two codes
gate_clauses-holds : (c : Netlist) (a : Assignment) (i g : ℕ)
    → AllHold a (gate_clauses c i g)
    ↔ (assigned c a i (gate_wire c g) ≡ (code_value (assigned c a i) (c.left g) && code_value (assigned c a i) (c.right g)))
unfolding gate_clauses
gate_clauses-holds c a i g =
    rw (← wire_in-value c a i (gate_wire c g) (omega arith), ← code_in-value c a i (c.left g), ← code_in-value c a i (c.right g))
    (and_clauses-holds a (wire_in c i (gate_wire c g)) (code_in c i (c.left g)) (code_in c i (c.right g)))

-- in frame 0 a latch is its reset
reset_clauses-holds : (c : Netlist) (a : Assignment) (l : ℕ)
    → AllHold a (reset_clauses c l) ↔ (assigned c a 0 (latch_wire c l) ≡ eqb (c.reset l) 1)
unfolding reset_clauses
reset_clauses-holds c a l =
    rw (← wire_in-value c a 0 (latch_wire c l) (omega arith))
    (Iff.trans (all_hold-one a _) (rw (any_true-one a) (signed (eqb (c.reset l) 1))))
  where
    signed : (r : Bool) → (value a (cond r (wire_in c 0 (latch_wire c l)) (neg (wire_in c 0 (latch_wire c l)))) ≡ true)
        ↔ (value a (wire_in c 0 (latch_wire c l)) ≡ r)
    signed true = (λ h. h, λ h. h)
    signed false = (
      λ h. not-true (value a (wire_in c 0 (latch_wire c l))) (sym (value-neg a (wire_in c 0 (latch_wire c l))) ∙ h),
      λ h. value-neg a (wire_in c 0 (latch_wire c l)) ∙ ap not h,
    )

-- in a later frame a latch is what its next code was in the frame before
latch_clauses-holds : (c : Netlist) (a : Assignment) (i l : ℕ)
    → AllHold a (latch_clauses c i l) ↔ (assigned c a (i + 1) (latch_wire c l) ≡ code_value (assigned c a i) (c.next l))
unfolding latch_clauses
latch_clauses-holds c a i l =
    rw (← wire_in-value c a (i + 1) (latch_wire c l) (omega arith), ← code_in-value c a i (c.next l))
    (same_clauses-holds a (wire_in c (i + 1) (latch_wire c l)) (code_in c i (c.next l)))

-- P is false in some frame below n
violation_of-value : (c : Netlist) (a : Assignment) (i : ℕ) → any_true a (violation_of c i) ≡ not (code_value (assigned c a i) c.P)
unfolding violation_of
violation_of-value c a i = any_true-one a (neg (code_in c i c.P)) ∙ value-neg a (code_in c i c.P) ∙ ap not (code_in-value c a i c.P)

violation_of-holds : (c : Netlist) (a : Assignment) (n : ℕ)
    → (any_true a (gather n (violation_of c)) ≡ true) ↔ ((i : ℕ) × (i < n) × (code_value (assigned c a i) c.P ≡ false))
violation_of-holds c a n = (
  λ h. let p = (any_true-gather a n (violation_of c)).0 h in (p.0, p.1, not-true (code_value (assigned c a p.0) c.P) (sym (violation_of-value c a p.0) ∙ p.2)),
  λ h. (any_true-gather a n (violation_of c)).1 (h.0, h.1, violation_of-value c a h.0 ∙ ap not h.2),
)

-- the wires of frame 0: (1), every latch, every gate
wires-first-hold : (c : Netlist) (a : Assignment) (k : ℕ)
    → AllHold a (clauses_of c k (Wires 0)) ↔ ((a 1 ≡ true) × (((l : ℕ) → l < c.latches → AllHold a (reset_clauses c l))
    × ((g : ℕ) → g < c.gates → AllHold a (gate_clauses c 0 g))))
unfolding clauses_of
wires-first-hold c a k =
    simp (all_hold-append a, all_hold-cons a, all_hold-none a, all_hold-gather a, any_true-one a, plus_one) (λ h. search, λ h. search)
  where
    plus_one : value a (plus 1) ≡ a 1
    plus_one = unfold value in refl

-- of a later frame: every latch, every gate
wires-later-hold : (c : Netlist) (a : Assignment) (k i : ℕ)
    → AllHold a (clauses_of c k (Wires (suc i))) ↔ (((l : ℕ) → l < c.latches → AllHold a (latch_clauses c i l))
    × ((g : ℕ) → g < c.gates → AllHold a (gate_clauses c (suc i) g)))
unfolding clauses_of
wires-later-hold c a k i = simp (all_hold-append a, all_hold-gather a) (λ h. search, λ h. search)

pair-holds : (c : Netlist) (a : Assignment) (k p j i : ℕ)
    → AllHold a (clauses_of c k (Pair j i p)) ↔ PairHolds a c.m c.n (start c) (pair_literals c (port c p) j i)
unfolding clauses_of
pair-holds c a k p j i = pair_clauses-holds a c.m c.n (start c) (pair_literals c (port c p) j i)

closing-holds : (c : Netlist) (a : Assignment) (k p i : ℕ)
    → AllHold a (clauses_of c k (Closing i p)) ↔ ClosingHolds a c.n (start c) i (closing_literals c (port c p) i)
unfolding clauses_of
closing-holds c a k p i = closing_clauses-holds a c.n (start c) i (closing_literals c (port c p) i)

-- P is false in some frame 0 to k, as assigned
abbrev pub Violated : Netlist → ℕ → Assignment → Type 0
Violated c k a = (i : ℕ) × (i < k + 1) × (code_value (assigned c a i) c.P ≡ false)

property-holds : (c : Netlist) (a : Assignment) (k : ℕ) → AllHold a (clauses_of c k Property) ↔ Violated c k a
unfolding clauses_of
property-holds c a k = Iff.trans (all_hold-one a (gather (k + 1) (violation_of c))) (violation_of-holds c a (k + 1))

-- What the clauses say of the frames 0 to k as assigned, whatever state frame 0 begins in: its latches are free. The memory begins as s.
pub record FramesHold (c : Netlist) (s : Start) (k : ℕ) (a : Assignment) : Type 0 where
  pub gates : (i : ℕ) → i ≤ k → (g : ℕ) → g < c.gates
      → assigned c a i (gate_wire c g) ≡ (code_value (assigned c a i) (c.left g) && code_value (assigned c a i) (c.right g))
  pub latches : (i : ℕ) → suc i ≤ k → (l : ℕ) → l < c.latches
      → assigned c a (suc i) (latch_wire c l) ≡ code_value (assigned c a i) (c.next l)
  pub pairs : (p : ℕ) → IsPort c p → (j i : ℕ) → j < i → i ≤ k → PairHolds a c.m c.n s (pair_literals c (port c p) j i)
  pub closings : (p : ℕ) → IsPort c p → (i : ℕ) → i ≤ k → ClosingHolds a c.n s i (closing_literals c (port c p) i)

-- The groups of depth k: variable 1 is true, the frames hold from the netlist's start, the latches of frame 0 are at their reset, and P is
-- false in a frame
pub record DepthHolds (c : Netlist) (k : ℕ) (a : Assignment) : Type 0 where
  pub one : a 1 ≡ true
  pub frames : FramesHold c (start c) k a
  pub resets : (l : ℕ) → l < c.latches → assigned c a 0 (latch_wire c l) ≡ eqb (c.reset l) 1
  pub violated : Violated c k a

pub groups-hold : (c : Netlist) (k : ℕ) (a : Assignment) → EachGroup c k (AllHold a) ↔ DepthHolds c k a
groups-hold c k a = (
  λ h.
      let first = (wires-first-hold c a k).0 (h.wires 0 zero-le) in
      record {
        one = first.0;
        frames =
            record {
              gates = λ i d g b. (gate_clauses-holds c a i g).0 (gates-in h i d g b);
              latches = λ i d l b.
                  ap (λ (x : ℕ). assigned c a x (latch_wire c l)) (sym (add-one i))
                  ∙ (latch_clauses-holds c a i l).0 (((wires-later-hold c a k i).0 (h.wires (suc i) d)).0 l b);
              pairs = λ p b j i l d. (pair-holds c a k p j i).0 (h.pairs p b j i l d);
              closings = λ p b i d. (closing-holds c a k p i).0 (h.closings p b i d);
            };
        resets = λ l b. (reset_clauses-holds c a l).0 (first.1.0 l b);
        violated = (property-holds c a k).0 h.property;
      },
  λ h.
      record {
        wires = wires-in h;
        pairs = λ p b j i l d. (pair-holds c a k p j i).1 (h.frames.pairs p b j i l d);
        closings = λ p b i d. (closing-holds c a k p i).1 (h.frames.closings p b i d);
        property = (property-holds c a k).1 h.violated;
      },
)
  where
    gates-in : EachGroup c k (AllHold a) → (i : ℕ) → i ≤ k → (g : ℕ) → g < c.gates → AllHold a (gate_clauses c i g)
    gates-in h zero d = ((wires-first-hold c a k).0 (h.wires 0 d)).1.1
    gates-in h (suc i) d = ((wires-later-hold c a k i).0 (h.wires (suc i) d)).1

    wires-in : DepthHolds c k a → (i : ℕ) → i ≤ k → AllHold a (clauses_of c k (Wires i))
    wires-in h zero d =
        (wires-first-hold c a k).1 (
          h.one,
          (λ l b. (reset_clauses-holds c a l).1 (h.resets l b), λ g b. (gate_clauses-holds c a 0 g).1 (h.frames.gates 0 d g b)),
        )
    wires-in h (suc i) d =
        (wires-later-hold c a k i).1 (
          λ l b. (latch_clauses-holds c a i l).1 (ap (λ (x : ℕ). assigned c a x (latch_wire c l)) (add-one i) ∙ h.frames.latches i d l b),
          λ g b. (gate_clauses-holds c a (suc i) g).1 (h.frames.gates (suc i) d g b),
        )
