-- Netlists that agree below their sizes (specs/Agree.antt) have the same variables and the same clauses, group by group: no entry
-- past a size is asked for. No contract cites this file.
use Prim.Native.Nat.{ℕ, zero, suc, ◌+◌, ◌-◌, ◌<◌}
use mathlib.Core.Path.{◌≡◌, refl, ◌∙◌, ap, ap₂}
use mathlib.Core.Bool.{true}
use mathlib.Core.List.{List, [], ◌∷◌, ◌++◌}
use Rattle.model.specs.Netlist.{Netlist, Start, given, unknown, start, ports, IsPort, port}
use Rattle.model.specs.Clauses.{Clause, Literal, PairLiterals, ClosingLiterals, address_bit_clauses, unequal_of, all_bits, forwarded_clauses, agreed_clauses, agreed_reads, pair_clauses, initial_read_clauses, initial_reads, held_clauses, held_reads, selected_of, some_source, closing_clauses, plus, neg, and_clauses}
use Rattle.model.specs.Variables.{base, pair_base, none_since_of, selected, read_bit, pair_literals, closing_literals}
use Rattle.model.specs.Groups.{gate_clauses, reset_clauses, latch_clauses, violation_of, clauses_of, in_depth}
use Rattle.model.specs.Numbers.{written, numbers_of}
use Rattle.model.specs.declared.Group.{Group}
use Rattle.model.specs.declared.Group.TheVariants.{Wires, Pair, Closing, Property}
use Rattle.model.specs.Agree.{Agree}
use Rattle.model.proofs.Gather.{gather-same, gathers_same}
use Rattle.model.proofs.Ports.{first-port}
use Rattle.model.proofs.Joined.{pair-in_depth, closing-in_depth}
use Rattle.model.proofs.Agree.{inputs-same, latches-same, gates-same, m-same, n-same, second-same, start-same, last_wire-same}

module _ (c d : Netlist) (q : Agree c d) where
  pub base_same : (i : ℕ) → base c i ≡ base d i
  unfolding base
  base_same i = rw (last_wire-same c d q, second-same c d q, m-same c d q)

  gate_same : (i g : ℕ) → g < c.gates → gate_clauses c i g ≡ gate_clauses d i g
  unfolding gate_clauses
  gate_same i g b = rw (q.left-same g b, q.right-same g b, base_same i, inputs-same c d q, latches-same c d q, n-same c d q, second-same c d q)

  reset-same : (l : ℕ) → l < c.latches → reset_clauses c l ≡ reset_clauses d l
  unfolding reset_clauses
  reset-same l b = rw (q.reset-same l b, base_same 0, inputs-same c d q)

  latch-same : (i l : ℕ) → l < c.latches → latch_clauses c i l ≡ latch_clauses d i l
  unfolding latch_clauses
  latch-same i l b = rw (q.next-same l b, base_same i, base_same (i + 1), inputs-same c d q)

  wires-same : (k i : ℕ) → clauses_of c k (Wires i) ≡ clauses_of d k (Wires i)
  unfolding clauses_of
  wires-same k zero =
      ap₂ (λ (xs ys : List Clause). (plus 1 ∷ []) ∷ xs ++ ys) (gathers_same (latches-same c d q) reset-same) (gathers_same (gates-same c d q) (gate_same 0))
  wires-same k (suc i) = ap₂ ◌++◌ (gathers_same (latches-same c d q) (latch-same i)) (gathers_same (gates-same c d q) (gate_same (suc i)))

  -- at a port
  module _ (p : ℕ) (here : IsPort c p) where
    pair_base-same : (j i : ℕ) → pair_base c (port c p) j i ≡ pair_base d (port d p) j i
    unfolding pair_base
    pair_base-same j i = rw (base_same i, last_wire-same c d q, second-same c d q, m-same c d q)

    none-same : (j i : ℕ) → none_since_of c (port c p) j i ≡ none_since_of d (port d p) j i
    unfolding none_since_of
    none-same j i = rw (pair_base-same j i, base_same i, q.RE-same p here, m-same c d q)

    selected-same : (j i : ℕ) → selected c (port c p) j i ≡ selected d (port d p) j i
    unfolding selected
    selected-same j i = rw (pair_base-same j i, m-same c d q)

    read_bit-same : (i t : ℕ) → read_bit c (port c p) i t ≡ read_bit d (port d p) i t
    unfolding read_bit
    read_bit-same i t = rw (base_same i, inputs-same c d q, latches-same c d q, n-same c d q)

    module _ (j i : ℕ) where
      abbrev x : PairLiterals
      x = pair_literals c (port c p) j i

      abbrev y : PairLiterals
      y = pair_literals d (port d p) j i

      bit-same : (t : ℕ) → t < c.m → address_bit_clauses x t ≡ address_bit_clauses y t
      unfolding address_bit_clauses pair_literals
      bit-same t b = rw (pair_base-same j i, base_same j, base_same i, q.address_same 1 (first-port c) t b, q.address_same p here t b)

      own_same : (t : ℕ) → t < c.m → unequal_of x t ≡ unequal_of y t
      unfolding unequal_of pair_literals
      own_same t b = rw (pair_base-same j i)

      data-same : (t : ℕ) → t < c.n → forwarded_clauses x t ≡ forwarded_clauses y t
      unfolding forwarded_clauses pair_literals
      data-same t b = rw (selected-same j i, read_bit-same i t, base_same j, q.data-same t b)

      -- its three gates
      valid_same : and_clauses x.s x.E x.WE ≡ and_clauses y.s y.E y.WE
      unfolding pair_literals
      valid_same = rw (pair_base-same j i, base_same j, q.WE-same, m-same c d q)

      newer-same : and_clauses x.PS (neg x.s) x.N ≡ and_clauses y.PS (neg y.s) y.N
      unfolding pair_literals
      newer-same = rw (none-same j i, none-same (j + 1) i, pair_base-same j i, m-same c d q)

      exclusive-same : and_clauses x.S x.s x.N ≡ and_clauses y.S y.s y.N
      unfolding pair_literals
      exclusive-same = rw (none-same (j + 1) i, selected-same j i, pair_base-same j i, m-same c d q)

      compared_same : x.E ≡ y.E
      unfolding pair_literals
      compared_same = rw (pair_base-same j i)

      all_same : all_bits c.m x ≡ all_bits d.m y
      unfolding all_bits
      all_same = ap₂ (λ (a : Clause) (e : Literal). a ++ e ∷ []) (gathers_same (m-same c d q) own_same) compared_same

      -- its reads that agree
      agreed-same : (t : ℕ) → t < c.n → agreed_clauses x t ≡ agreed_clauses y t
      unfolding agreed_clauses pair_literals
      agreed-same t b = rw (pair_base-same j i, none-same 0 j, none-same 0 i, read_bit-same i t, read_bit-same j t)

      agreed-reads-same : (s : Start) → agreed_reads c.n s x ≡ agreed_reads d.n s y
      unfolding agreed_reads
      agreed-reads-same (given word) = refl
      agreed-reads-same unknown = gathers_same (n-same c d q) agreed-same

      pair_same : pair_clauses c.m c.n (start c) x ≡ pair_clauses d.m d.n (start d) y
      unfolding pair_clauses
      pair_same =
          ap₂ ◌++◌
          (ap₂ ◌++◌
          (ap₂ ◌++◌ (ap₂ ◌++◌ (ap₂ ◌++◌ (ap₂ (λ (b : List Clause) (a : Clause). b ++ a ∷ []) (gathers_same (m-same c d q) bit-same) all_same) valid_same) newer-same)
          exclusive-same)
          (gathers_same (n-same c d q) data-same))
          (agreed-reads-same (start c) ∙ ap (λ (s : Start). agreed_reads d.n s y) (start-same c d q))

    module _ (i : ℕ) where
      abbrev u : ClosingLiterals
      u = closing_literals c (port c p) i

      abbrev v : ClosingLiterals
      v = closing_literals d (port d p) i

      initial-bit-same : (word t : ℕ) → t < c.n → initial_read_clauses word u t ≡ initial_read_clauses word v t
      unfolding initial_read_clauses closing_literals
      initial-bit-same word t b = rw (none-same 0 i, read_bit-same i t)

      initial-same : (s : Start) → initial_reads c.n s u ≡ initial_reads d.n s v
      unfolding initial_reads
      initial-same (given word) = gathers_same (n-same c d q) (initial-bit-same word)
      initial-same unknown = refl

      held-bit-same : (t : ℕ) → t < c.n → held_clauses u t ≡ held_clauses v t
      unfolding held_clauses closing_literals
      held-bit-same t b = rw (read_bit-same i t, read_bit-same (i - 1) t, base_same i, q.RE-same p here)

      source-same : (j : ℕ) → j < i → selected_of u j ≡ selected_of v j
      unfolding selected_of closing_literals
      source-same j b = rw (selected-same j i)

      some_same : some_source i u ≡ some_source i v
      unfolding some_source closing_literals
      some_same =
          ap₂ (λ (r : Literal) (zs : Clause). neg r ∷ zs) (rw (base_same i, q.RE-same p here))
          (ap₂ (λ (z : Literal) (ss : Clause). z ∷ ss) (none-same 0 i) (gather-same i (selected_of u) (selected_of v) source-same))

    held_same : (i : ℕ) → held_reads c.n i (closing_literals c (port c p) i) ≡ held_reads d.n i (closing_literals d (port d p) i)
    unfolding held_reads
    held_same zero = refl
    held_same (suc i) = gathers_same (n-same c d q) (held-bit-same (suc i))

    closing_same : (i : ℕ) → closing_clauses c.n (start c) i (closing_literals c (port c p) i) ≡ closing_clauses d.n (start d) i (closing_literals d (port d p) i)
    unfolding closing_clauses
    closing_same i =
        ap₂ (λ (a : List Clause) (s : Clause). a ++ s ∷ []) (ap₂ ◌++◌ (initial-same i (start c) ∙ ap (λ (s : Start). initial_reads d.n s (closing_literals d (port d p) i)) (start-same c d q)) (held_same i)) (some_same i)

  violated-same : (i : ℕ) → violation_of c i ≡ violation_of d i
  unfolding violation_of
  violated-same i = rw (base_same i, q.P-same)

  pub clauses-same : (k : ℕ) (g : Group) → in_depth (ports c) k g ≡ true → clauses_of c k g ≡ clauses_of d k g
  unfolding clauses_of
  clauses-same k (Wires i) h = wires-same k i
  clauses-same k (Pair j i p) h = pair_same p ((pair-in_depth (ports c) k j i p).0 h).2 j i
  clauses-same k (Closing i p) h = closing_same p ((closing-in_depth (ports c) k i p).0 h).1 i
  clauses-same k Property h = ap (λ (x : Clause). x ∷ []) (gather-same (k + 1) (violation_of c) (violation_of d) (λ i b. violated-same i))

  pub numbers-same : (k : ℕ) (g : Group) → in_depth (ports c) k g ≡ true → numbers_of c k g ≡ numbers_of d k g
  unfolding numbers_of
  numbers-same k g h = ap written (clauses-same k g h)
