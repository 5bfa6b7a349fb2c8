-- What the loops over the latches write, from the bases and the list that they hold: one by one the model's clauses. No contract cites
-- this file.
use Prim.Native.Nat.{ℕ, ◌+◌, ◌*◌}
use mathlib.Core.Path.{◌≡◌}
use mathlib.Core.Bool.{cond}
use mathlib.Core.List.{List, [], ◌∷◌}
use native.Mathlib.Nat.{add-zero}
use lib.Dec.{eqb}
use lib.IntN.{ℤ}
use lib.ListN.{get_or}
use Rattle.model.specs.Netlist.{latch_wire}
use Rattle.model.specs.Gather.{gather}
use Rattle.model.specs.Clauses.{neg, same_clauses}
use Rattle.model.specs.Variables.{base, wire_at, code_at}
use Rattle.model.specs.Groups.{reset_clauses, latch_clauses}
use Rattle.model.specs.Numbers.{written}
use Rattle.netlist.specs.NetOf.{net_of, alone}
use Rattle.netlist.specs.declared.Netlist.{Netlist}
use Rattle.clause_writer.proofs.Turns.{written-gather}

-- latch l in frame 0
abbrev pub reset_at : ℕ → ℕ → List ℕ → ℕ → List ℤ
reset_at b first ls l =
    written ((cond (eqb (get_or ls (2 * l + 1) 0) 1) (wire_at b (first + l)) (neg (wire_at b (first + l))) ∷ []) ∷ [])

pub resets : (net : Netlist) (ls : List ℕ) (n : ℕ) {b first : ℕ} → b ≡ base (alone net) 0 → first ≡ latch_wire (alone net) 0
    → written (gather n (reset_clauses (net_of net ls []))) ≡ gather n (reset_at b first ls)
unfolding reset_clauses base net_of
resets net ls n e f = rw (written-gather n (reset_clauses (net_of net ls [])), e, f, add-zero)

-- latch l in a later frame
abbrev pub latch_at : ℕ → ℕ → ℕ → List ℕ → ℕ → List ℤ
latch_at b first before ls l = written (same_clauses (wire_at b (first + l)) (code_at before (get_or ls (2 * l) 0)))

pub later-latches : (net : Netlist) (ls : List ℕ) (i n : ℕ) {b before first : ℕ}
    → before ≡ base (alone net) i → b ≡ base (alone net) (i + 1) → first ≡ latch_wire (alone net) 0
    → written (gather n (latch_clauses (net_of net ls []) i)) ≡ gather n (latch_at b first before ls)
unfolding latch_clauses base net_of
later-latches net ls i n e f g = rw (written-gather n (latch_clauses (net_of net ls []) i), e, f, g, add-zero)
