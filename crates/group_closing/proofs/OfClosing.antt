-- What the loops of a closing write, from the numbers and literals that they hold: one by one the model's clauses and
-- literals. No contract cites this file.
use Prim.Native.Nat.{ℕ, zero, suc, ◌+◌, ◌-◌, ◌*◌}
use mathlib.Core.Path.{◌≡◌, refl, ◌∙◌, ap}
use mathlib.Core.Bool.{Bool, false, ◌||◌}
use mathlib.Core.List.{List, [], ◌∷◌, ◌++◌}
use native.Mathlib.Nat.{add-zero, add_assoc, zero-mul}
use native.Mathlib.Omega.{arith}
use lib.IntN.{ℤ}
use Rattle.model.specs.Bits.{bit}
use Rattle.model.specs.Netlist.{Start, start_of, Port, read_wire}
use Rattle.model.specs.Netlist as M
use Rattle.model.specs.Gather.{gather}
use Rattle.model.specs.Clauses.{Literal, known, plus, neg, same_if_clauses, ClosingLiterals, initial_read_clauses, initial_reads, held_clauses, held_reads, selected_of, some_source, closing_clauses}
use Rattle.model.specs.Variables.{stride, base, pair_base, wire_at, code_at, none_since_of, selected, read_bit, closing_literals}
use Rattle.model.specs.Numbers.{kept_of, kept, is_true, has_true, written}
use Rattle.model.proofs.Variables.{pair_base-base}
use Rattle.model.proofs.Joined.{written-append}
use Rattle.netlist.specs.NetOf.{net_of, alone}
use Rattle.netlist.specs.declared.Netlist.{Netlist}
use Rattle.clause_variables.specs.declared.Port as R
use Rattle.clause_variables.specs.PortOf.{port_of}
use Rattle.model.proofs.Start.{start-given, start-unknown}
use Rattle.model.proofs.Gather.{gather-same}
use Rattle.clause_writer.proofs.Wrote.{kept-one}
use Rattle.clause_writer.proofs.Turns.{written-gather, kept-gather, none-gather}
use Rattle.group_closing.specs.OfClosing.{of_closing}

-- the clauses of data bit t, from Z, the frame's base, the read wires before the port's and the port's before it, the start word
abbrev pub initial_bit : Literal → ℕ → ℕ → ℕ → ℕ → ℕ → List ℤ
initial_bit z reading first read word t = written (same_if_clauses z (wire_at reading (first + (read + t))) (known (bit word t)))

pub initial-bits : (net : Netlist) (port : R.Port) (i n : ℕ) {reading first : ℕ} {z : Literal}
    → z ≡ none_since_of (alone net) (port_of port) 0 i → reading ≡ base (alone net) i → first ≡ read_wire (alone net) 0
    → written (gather n (initial_read_clauses net.initial_word (of_closing net port i)))
    ≡ gather n (initial_bit z reading first port.first_read net.initial_word)
unfolding initial_read_clauses closing_literals read_bit net_of port_of
initial-bits net port i n ez er ef = rw (written-gather n (initial_read_clauses net.initial_word (of_closing net port i)), ez, er, ef, add-zero)

-- a given word has each of them, an unknown start none
pub initial-given : (n word u : ℕ) (x : ClosingLiterals) → u ≡ 0 → initial_reads n (start_of word u) x ≡ gather n (initial_read_clauses word x)
unfolding initial_reads
initial-given n word u x e = rw (start-given word u e)

pub initial-unknown : (n word u : ℕ) (x : ClosingLiterals) → (u ≡ 0 → ⊥) → written (initial_reads n (start_of word u) x) ≡ []
unfolding initial_reads written
initial-unknown n word u x h = rw (start-unknown word u h)

-- the clauses of data bit t where RE is false, from ¬RE, the bases of the frame and of the one before, the read wires before the port's
-- and the port's before it
abbrev pub held_bit : Literal → ℕ → ℕ → ℕ → ℕ → ℕ → List ℤ
held_bit idle reading before first read t =
    written (same_if_clauses idle (wire_at reading (first + (read + t))) (wire_at before (first + (read + t))))

pub held-bits : (net : Netlist) (port : R.Port) (i n : ℕ) {reading before first : ℕ} {idle : Literal}
    → idle ≡ neg (code_at reading (port_of port).RE) → reading ≡ base (alone net) i → before ≡ base (alone net) (i - 1)
    → first ≡ read_wire (alone net) 0
    → written (gather n (held_clauses (of_closing net port i))) ≡ gather n (held_bit idle reading before first port.first_read)
unfolding held_clauses closing_literals read_bit net_of port_of
held-bits net port i n ei er eb ef = rw (written-gather n (held_clauses (of_closing net port i)), ei, er, eb, ef, add-zero)

-- frame 0 holds nothing, a later frame each data bit
pub held_first : (n : ℕ) (x : ClosingLiterals) → written (held_reads n 0 x) ≡ []
unfolding held_reads written
held_first n x = refl

pub held-later : (n i : ℕ) (x : ClosingLiterals) → (i ≡ 0 → ⊥) → held_reads n i x ≡ gather n (held_clauses x)
unfolding held_reads
held-later n zero x h = absurd (h refl)
held-later n (suc i) x h = refl

-- where the variables of pair (j, i) start, from those of pair (0, i)
pub source-base : (c : M.Netlist) (p : Port) (i : ℕ) {q s : ℕ} → q ≡ pair_base c p 0 i → s ≡ stride c → (j : ℕ)
    → q + j * s ≡ pair_base c p j i
source-base c p i e es j =
    rw (e, es, pair_base-base c p 0 i, pair_base-base c p j i) (omega (arith, zero-mul (stride c)))

-- S of pair (j, i), from where the pairs start and how far apart they are
abbrev pub source_at : ℕ → ℕ → ℕ → ℕ → List ℤ
source_at q s offset j = kept_of (plus (q + j * s + offset))

pub sources : (net : Netlist) (port : R.Port) (i n : ℕ) {q s : ℕ}
    → q ≡ pair_base (alone net) (port_of port) 0 i → s ≡ stride (alone net)
    → kept (gather n (selected_of (of_closing net port i))) ≡ gather n (source_at q s (net.m + 4))
unfolding selected_of closing_literals selected net_of
sources net port i n {q} {s} e es =
    kept-gather n (selected_of (of_closing net port i))
    ∙ gather-same n _ (source_at q s (net.m + 4))
    (λ j b. rw (source-base (alone net) (port_of port) i e es j, add_assoc (pair_base (alone net) (port_of port) j i) net.m 4, kept-one))

-- none of them is a constant
pub sources-none : (net : Netlist) (port : R.Port) (i : ℕ) → has_true (gather i (selected_of (of_closing net port i))) ≡ false
unfolding selected_of closing_literals selected is_true has_true
sources-none net port i = none-gather i (selected_of (of_closing net port i)) (λ j. refl)

-- neither of two literals is true, from the one test of both, as `search` looks for it
pub neither : (r s x y : Bool) → (r || s) ≡ false → r ≡ x → s ≡ y → (x || y) ≡ false
neither r s x y h e f = rw (e, f) at h

-- the parts of a closing's clauses, in their order
pub closing-parts : (n : ℕ) (s : Start) (i : ℕ) (x : ClosingLiterals)
    → written (closing_clauses n s i x) ≡ written (initial_reads n s x) ++ written (held_reads n i x) ++ written (some_source i x ∷ [])
unfolding closing_clauses
closing-parts n s i x =
    written-append (initial_reads n s x ++ held_reads n i x) (some_source i x ∷ [])
    ∙ ap (λ (zs : List ℤ). zs ++ written (some_source i x ∷ [])) (written-append (initial_reads n s x) (held_reads n i x))
