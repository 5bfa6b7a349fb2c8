-- What the loops over the data bits write, from the numbers and literals that they hold: bit by bit the model's clauses; and the
-- parts of a pair's clauses. No contract cites this file.
use Prim.Native.Nat.{ℕ, ◌+◌}
use mathlib.Core.Path.{◌≡◌, ◌∙◌, ap}
use mathlib.Core.List.{List, [], ◌++◌, append_assoc}
use native.Mathlib.Nat.{add-zero}
use lib.IntN.{ℤ}
use Rattle.model.specs.Netlist.{Start, start_of, read_wire}
use Rattle.model.specs.Gather.{gather}
use Rattle.model.specs.Clauses.{Literal, plus, same_if_clauses, same_if_all_clauses, PairLiterals, forwarded_clauses, agreed_clauses, agreed_reads, pair_clauses}
use Rattle.model.specs.Variables.{base, pair_base, wire_at, code_at, none_since_of, selected, read_bit, pair_literals}
use Rattle.model.specs.Numbers.{written}
use Rattle.model.proofs.Joined.{written-append}
use Rattle.netlist.specs.NetOf.{code_of, net_of, alone}
use Rattle.netlist.specs.declared.Netlist.{Netlist}
use Rattle.clause_variables.specs.declared.Port.{Port}
use Rattle.clause_variables.specs.PortOf.{port_of}
use Rattle.clause_writer.proofs.Turns.{written-gather}
use Rattle.clause_variables.specs.OfPair.{of_pair}
use Rattle.model.proofs.Start.{start-given, start-unknown}
use Rattle.group_pair_select.specs.SelectClauses.{select_clauses, pair_select_clauses}
use Rattle.group_pair.specs.PairParts.{comparison_clauses, gated_data_clauses}

-- the clauses of data bit t, from S, the frames' bases, the read wires before the port's and the port's before it, the write data
abbrev pub forwarded_bit : Literal → ℕ → ℕ → ℕ → ℕ → Netlist → ℕ → List ℤ
forwarded_bit s reading first read writing net t =
    written (same_if_clauses s (wire_at reading (first + (read + t))) (code_at writing (code_of net.write_data t)))

pub forwarded-bits : (net : Netlist) (port : Port) (j i n : ℕ) {reading writing first : ℕ} {s : Literal}
    → s ≡ selected (alone net) (port_of port) j i → reading ≡ base (alone net) i → writing ≡ base (alone net) j
    → first ≡ read_wire (alone net) 0
    → written (gather n (forwarded_clauses (of_pair net port j i)))
    ≡ gather n (forwarded_bit s reading first port.first_read writing net)
unfolding forwarded_clauses pair_literals read_bit net_of port_of
forwarded-bits net port j i n es er ew ef = rw (written-gather n (forwarded_clauses (of_pair net port j i)), es, er, ew, ef, add-zero)

-- the same of two reads that agree, from E, Zj and Zi, the frames' bases, the read wires before the port's and the port's before it
abbrev pub agreed_bit : Literal → Literal → Literal → ℕ → ℕ → ℕ → ℕ → ℕ → List ℤ
agreed_bit e zj zi reading before first read t =
    written (same_if_all_clauses e zj zi (wire_at reading (first + (read + t))) (wire_at before (first + (read + t))))

pub agreed-bits : (net : Netlist) (port : Port) (j i n : ℕ) {q reading before first : ℕ} {e zj zi : Literal}
    → q ≡ pair_base (alone net) (port_of port) j i → e ≡ plus (q + 1) → zj ≡ none_since_of (alone net) (port_of port) 0 j
    → zi ≡ none_since_of (alone net) (port_of port) 0 i → reading ≡ base (alone net) i → before ≡ base (alone net) j
    → first ≡ read_wire (alone net) 0
    → written (gather n (agreed_clauses (of_pair net port j i))) ≡ gather n (agreed_bit e zj zi reading before first port.first_read)
unfolding agreed_clauses pair_literals read_bit net_of port_of
agreed-bits net port j i n eq ee ej ei er eb ef =
    rw (written-gather n (agreed_clauses (of_pair net port j i)), ee, eq, ej, ei, er, eb, ef, add-zero)

-- a given word needs none of them, an unknown start each
pub agreed-given : (n word u : ℕ) (x : PairLiterals) → u ≡ 0 → written (agreed_reads n (start_of word u) x) ≡ []
unfolding agreed_reads written
agreed-given n word u x e = rw (start-given word u e)

pub agreed-unknown : (n word u : ℕ) (x : PairLiterals) → (u ≡ 0 → ⊥) → agreed_reads n (start_of word u) x ≡ gather n (agreed_clauses x)
unfolding agreed_reads
agreed-unknown n word u x h = rw (start-unknown word u h)

-- the parts of a pair's clauses, in their order
pub pair_parts : (m n : ℕ) (s : Start) (x : PairLiterals)
    → written (pair_clauses m n s x) ≡ written (comparison_clauses m x) ++ written (gated_data_clauses n x) ++ written (agreed_reads n s x)
unfolding pair_clauses comparison_clauses gated_data_clauses pair_select_clauses select_clauses
pair_parts m n s x =
    let parted : pair_clauses m n s x ≡ comparison_clauses m x ++ gated_data_clauses n x ++ agreed_reads n s x = simp append_assoc in
    rw parted
    (written-append (comparison_clauses m x ++ gated_data_clauses n x) (agreed_reads n s x)
    ∙ ap (λ (zs : List ℤ). zs ++ written (agreed_reads n s x)) (written-append (comparison_clauses m x) (gated_data_clauses n x)))
