-- The four groups of clauses and the order of the whole (RULES G3 to G15 and G37). Cited by every group call and by
-- what writes a group.
use Rattle.std.specs.Prelude.{ℕ, zero, suc, ◌+◌, Bool, true, cond, ◌&&◌, List, [], ◌∷◌, ◌++◌, eqb, leb, ltb}
use Rattle.model.specs.Netlist.{Netlist, start, port, latch_wire, gate_wire}
use Rattle.model.specs.Gather.{gather, gather_down}
use Rattle.model.specs.Clauses.{Literal, Clause, plus, neg, and_clauses, same_clauses, pair_clauses, closing_clauses}
use Rattle.model.specs.Variables.{wire_in, code_in, pair_literals, closing_literals}
use Rattle.model.specs.declared.Group.{Group}
use Rattle.model.specs.declared.Group.TheVariants.{Wires, Pair, Closing, Property}

-- gate g in frame i (RULES G5)
unfoldable pub gate_clauses : Netlist → ℕ → ℕ → List Clause
gate_clauses c i g = and_clauses (wire_in c i (gate_wire c g)) (code_in c i (c.left g)) (code_in c i (c.right g))

-- latch l in frame 0: its own literal, inverted if reset is 0 (RULES G3)
unfoldable pub reset_clauses : Netlist → ℕ → List Clause
reset_clauses c l = (cond (eqb (c.reset l) 1) (wire_in c 0 (latch_wire c l)) (neg (wire_in c 0 (latch_wire c l))) ∷ []) ∷ []

-- latch l in frame i + 1: what its next code was in frame i (RULES G4)
unfoldable pub latch_clauses : Netlist → ℕ → ℕ → List Clause
latch_clauses c i l = same_clauses (wire_in c (i + 1) (latch_wire c l)) (code_in c i (c.next l))

-- ¬P of frame i (RULES G14)
unfoldable pub violation_of : Netlist → ℕ → List Literal
violation_of c i = neg (code_in c i c.P) ∷ []

-- the clauses of a group at depth k; the wires of frame 0 begin with (1), by which variable 1 is true
unfoldable pub clauses_of : Netlist → ℕ → Group → List Clause
clauses_of c k (Wires zero) = (plus 1 ∷ []) ∷ gather c.latches (reset_clauses c) ++ gather c.gates (gate_clauses c 0)
clauses_of c k (Wires (suc i)) = gather c.latches (latch_clauses c i) ++ gather c.gates (gate_clauses c (suc i))
clauses_of c k (Pair j i p) = pair_clauses c.m c.n (start c) (pair_literals c (port c p) j i)
clauses_of c k (Closing i p) = closing_clauses c.n (start c) i (closing_literals c (port c p) i)
clauses_of c k Property = gather (k + 1) (violation_of c) ∷ []

-- a pair's or a closing's groups, one for each of so many ports
unfoldable pub at_ports : ℕ → (ℕ → Group) → List Group
at_ports ports g = gather ports (λ x. g (suc x) ∷ [])

-- the groups of frame i: wires, pairs from j = i - 1 down to 0, closing
unfoldable pub frame_groups : ℕ → ℕ → List Group
frame_groups ports i = Wires i ∷ gather_down i (λ j. at_ports ports (Pair j i)) ++ at_ports ports (Closing i)

-- the order of the whole: the frames 0 to k, then the property (RULES G15 and G37)
unfoldable pub group_order : ℕ → ℕ → List Group
group_order ports k = gather (k + 1) (frame_groups ports) ++ Property ∷ []

-- whether there is such a group at depth k: no frame over k, no pair with j not below i, and a port that there is (RULES T8)
unfoldable pub in_depth : ℕ → ℕ → Group → Bool
in_depth ports k (Wires i) = leb i k
in_depth ports k (Pair j i p) = leb i k && ltb j i && (leb 1 p && leb p ports)
in_depth ports k (Closing i p) = leb i k && (leb 1 p && leb p ports)
in_depth ports k Property = true
