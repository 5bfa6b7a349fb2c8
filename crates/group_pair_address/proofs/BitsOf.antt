-- What the loops over the address bits write, from where the variables of the pair and its frames start: bit by bit the model's
-- clauses, and the model's literal. No contract cites this file.
use Prim.Native.Nat.{ℕ, ◌+◌}
use mathlib.Core.Path.{◌≡◌, refl, ◌∙◌, ap}
use mathlib.Core.Bool.{false}
use mathlib.Core.List.{List, [], ◌∷◌, ◌++◌}
use native.Mathlib.Nat.{add_assoc}
use lib.IntN.{ℤ}
use Rattle.model.specs.Gather.{gather}
use Rattle.model.specs.Clauses.{plus, neg, PairLiterals, bit_clauses, address_bit_clauses, unequal_of, all_bits}
use Rattle.model.specs.Variables.{base, code_at, pair_base, pair_literals}
use Rattle.model.specs.Numbers.{kept_of, kept, is_true, has_true, written}
use Rattle.netlist.specs.declared.Netlist.{Netlist}
use Rattle.clause_variables.specs.declared.Port.{Port}
use Rattle.netlist.specs.NetOf.{code_of, net_of, alone}
use Rattle.clause_variables.specs.PortOf.{port_of}
use Rattle.clause_variables.specs.OfPair.{of_pair}
use Rattle.model.proofs.Classes.{has_true-append}
use Rattle.clause_writer.proofs.Wrote.{kept-one}
use Rattle.clause_writer.proofs.Turns.{written-gather, kept_append, kept-gather, none-gather}

-- the clauses of bit t, in a pair that starts after q, of frames that start after `writing` and `reading`
abbrev pub address_bit : ℕ → ℕ → ℕ → Netlist → Port → ℕ → List ℤ
address_bit q writing reading net port t =
    written (bit_clauses (plus (q + 1)) (plus (q + 2 + t)) (code_at writing (code_of net.address t)) (code_at reading (code_of port.address t)))

pub address-bits : (net : Netlist) (port : Port) (j i m : ℕ) {q writing reading : ℕ}
    → q ≡ pair_base (alone net) (port_of port) j i → writing ≡ base (alone net) j → reading ≡ base (alone net) i
    → written (gather m (address_bit_clauses (of_pair net port j i))) ≡ gather m (address_bit q writing reading net port)
unfolding address_bit_clauses pair_literals net_of port_of
address-bits net port j i m eq ew er = rw (written-gather m (address_bit_clauses (of_pair net port j i)), eq, ew, er)

-- ¬e of bit t, in a pair that starts after q
abbrev pub unequal_bit : ℕ → ℕ → List ℤ
unequal_bit q t = kept_of (neg (plus (q + (2 + t))))

pub unequal-bits : (net : Netlist) (port : Port) (j i q m : ℕ) → q ≡ pair_base (alone net) (port_of port) j i
    → kept (gather m (unequal_of (of_pair net port j i))) ≡ gather m (unequal_bit q)
unfolding unequal_of pair_literals
unequal-bits net port j i q m e = rw (kept-gather m (unequal_of (of_pair net port j i)), e) (simp (add_assoc, kept-one))

-- the clause of all bits, from its parts; no literal of it is a constant
pub all-bits-kept : (m : ℕ) (x : PairLiterals) → kept (all_bits m x) ≡ kept (gather m (unequal_of x)) ++ kept_of x.E
unfolding all_bits
all-bits-kept m x =
    kept_append (gather m (unequal_of x)) (x.E ∷ []) ∙ ap (λ (zs : List ℤ). kept (gather m (unequal_of x)) ++ zs) (kept-one x.E)

pub all-bits-none : (net : Netlist) (port : Port) (j i m : ℕ) → has_true (all_bits m (of_pair net port j i)) ≡ false
unfolding all_bits unequal_of pair_literals neg is_true has_true
all-bits-none net port j i m =
    let x = of_pair net port j i in
    has_true-append (gather m (unequal_of x)) (x.E ∷ []) ∙ rw (none-gather m (unequal_of x) (λ t. refl))
