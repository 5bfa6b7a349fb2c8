-- What the loop over the gates writes, from the base and the list that it holds: one by one the model's clauses; and the parts
-- of a frame's wires. No contract cites this file.
use Prim.Native.Nat.{ℕ, suc, ◌+◌, ◌-◌, ◌*◌, ◌≤◌}
use mathlib.Core.Path.{◌≡◌, refl, ◌∙◌, ap₂, ap}
use mathlib.Core.Bool.{cond}
use mathlib.Core.List.{List, [], ◌∷◌, ◌++◌}
use native.Mathlib.Nat.{add-zero}
use native.Mathlib.Numerals.{add-one}
use native.Mathlib.Omega.{arith}
use lib.Dec.{eqb}
use borrow.Author.Tests.{eq-eqb, ne_eqb}
use lib.IntN.{ℤ}
use lib.ListN.{get_or}
use Rattle.model.specs.Limits.{most_depth}
use Rattle.model.specs.Netlist as M
use Rattle.model.specs.Netlist.{gate_wire}
use Rattle.model.specs.Gather.{gather}
use Rattle.model.specs.Clauses.{plus, and_clauses}
use Rattle.model.specs.Variables.{base, wire_at, code_at}
use Rattle.model.specs.Groups.{reset_clauses, latch_clauses, gate_clauses, clauses_of}
use Rattle.model.specs.Numbers.{written, numbers_of}
use Rattle.model.specs.declared.Group.TheVariants.{Wires}
use Rattle.model.proofs.Joined.{written-append}
use Rattle.netlist.specs.NetOf.{net_of, alone}
use Rattle.netlist.specs.declared.Netlist.{Netlist}
use Rattle.model.proofs.Gather.{gather-same}
use Rattle.netlist.proofs.NetOf.{limits-without-gates, limits-without-latches}
use Rattle.clause_variables.specs.FrameFits.{FrameFits}
use Rattle.clause_writer.proofs.Turns.{written-gather}

-- gate g
abbrev pub gate_at : ℕ → ℕ → List ℕ → ℕ → List ℤ
gate_at b first gs g = written (and_clauses (wire_at b (first + g)) (code_at b (get_or gs (2 * g) 0)) (code_at b (get_or gs (2 * g + 1) 0)))

pub all-gates : (net : Netlist) (gs : List ℕ) (i n : ℕ) {b first : ℕ} → b ≡ base (alone net) i → first ≡ gate_wire (alone net) 0
    → written (gather n (gate_clauses (net_of net [] gs) i)) ≡ gather n (gate_at b first gs)
unfolding gate_clauses base net_of
all-gates net gs i n e f = rw (written-gather n (gate_clauses (net_of net [] gs) i), e, f, add-zero)

-- latches do not look at the gates
resets-without-gates : (net : Netlist) (ls gs : List ℕ) → gather net.latches (reset_clauses (net_of net ls gs)) ≡ gather net.latches (reset_clauses (net_of net ls []))
unfolding reset_clauses base net_of
resets-without-gates net ls gs = gather-same net.latches (reset_clauses (net_of net ls gs)) (reset_clauses (net_of net ls [])) (λ l b. refl)

latches-without-gates : (net : Netlist) (ls gs : List ℕ) (i : ℕ)
    → gather net.latches (latch_clauses (net_of net ls gs) i) ≡ gather net.latches (latch_clauses (net_of net ls []) i)
unfolding latch_clauses base net_of
latches-without-gates net ls gs i = gather-same net.latches (latch_clauses (net_of net ls gs) i) (latch_clauses (net_of net ls []) i) (λ l b. refl)

-- nor gates at the latches
gates-without-latches : (net : Netlist) (ls gs : List ℕ) (i : ℕ)
    → gather net.gates (gate_clauses (net_of net ls gs) i) ≡ gather net.gates (gate_clauses (net_of net [] gs) i)
unfolding gate_clauses base net_of
gates-without-latches net ls gs i = gather-same net.gates (gate_clauses (net_of net ls gs) i) (gate_clauses (net_of net [] gs) i) (λ g b. refl)

-- what is asked of the whole is had of each part, in any frame
pub frame-without-gates : (net : Netlist) (ls gs : List ℕ) (k i : ℕ) → FrameFits (net_of net ls gs) k → i ≤ most_depth → FrameFits (net_of net ls []) i
frame-without-gates net ls gs k i fits d = record { limits = limits-without-gates net ls gs fits.limits; depth = d }

pub frame-without-latches : (net : Netlist) (ls gs : List ℕ) (k i : ℕ) → FrameFits (net_of net ls gs) k → i ≤ most_depth → FrameFits (net_of net [] gs) i
frame-without-latches net ls gs k i fits d = record { limits = limits-without-latches net ls gs fits.limits; depth = d }

-- the frame after the one before a later frame is that frame
pub frame-again : (c : M.Netlist) (i : ℕ) → (i ≡ 0 → ⊥) → FrameFits c i → FrameFits c (i - 1 + 1)
frame-again c i h f = record { limits = f.limits; depth = omega (arith, f.depth) }

-- the room of frame 0, and of a later one
pub room-first : (i x y z l : ℕ) → cond (eqb i 0) x y + z ≤ l → i ≡ 0 → x + z ≤ l
room-first i x y z l h e = rw (eq-eqb i 0 e) at h

pub room-later : (i x y z l : ℕ) → cond (eqb i 0) x y + z ≤ l → (i ≡ 0 → ⊥) → y + z ≤ l
room-later i x y z l h n = rw (ne_eqb i 0 n) at h

-- the parts of a frame's wires, in their order
pub first-parts : (net : Netlist) (ls gs : List ℕ) (k : ℕ)
    → numbers_of (net_of net ls gs) k (Wires 0)
    ≡ written ((plus 1 ∷ []) ∷ []) ++ written (gather net.latches (reset_clauses (net_of net ls [])))
    ++ written (gather net.gates (gate_clauses (net_of net [] gs) 0))
unfolding numbers_of clauses_of net_of
first-parts net ls gs k =
    written-append ((plus 1 ∷ []) ∷ gather net.latches (reset_clauses (net_of net ls gs))) (gather net.gates (gate_clauses (net_of net ls gs) 0))
    ∙ ap₂ ◌++◌
    (written-append ((plus 1 ∷ []) ∷ []) (gather net.latches (reset_clauses (net_of net ls gs)))
    ∙ ap (λ xs. written ((plus 1 ∷ []) ∷ []) ++ written xs) (resets-without-gates net ls gs))
    (ap written (gates-without-latches net ls gs 0))

pub later-parts : (net : Netlist) (ls gs : List ℕ) (k i : ℕ)
    → numbers_of (net_of net ls gs) k (Wires (i + 1))
    ≡ written (gather net.latches (latch_clauses (net_of net ls []) i)) ++ written (gather net.gates (gate_clauses (net_of net [] gs) (i + 1)))
unfolding numbers_of clauses_of net_of
later-parts net ls gs k i =
    rw (add-one i)
    (written-append (gather net.latches (latch_clauses (net_of net ls gs) i)) (gather net.gates (gate_clauses (net_of net ls gs) (suc i)))
    ∙ ap₂ (λ xs ys. written xs ++ written ys) (latches-without-gates net ls gs i) (gates-without-latches net ls gs (suc i)))
