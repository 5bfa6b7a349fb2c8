-- The memory that a run begins with to show an assignment whose frames hold: the initial word everywhere; or, where that is unknown, at
-- each address what the first frame has read there that reaches the start. No contract cites this file.
use Prim.Native.Nat.{ℕ, ◌+◌, ◌≤◌, ◌<◌}
use mathlib.Core.Path.{◌≡◌, refl, sym, ◌∙◌, ap, subst}
use mathlib.Core.Bool.{Bool, true, false, ◌&&◌, true≢false}
use mathlib.Core.Logic.{⊎_elim}
use native.Mathlib.Nat.{eq-or-lt_of_le}
use native.Mathlib.Omega.{arith}
use lib.Dec.{eqb}
use borrow.Author.Tests.{eqb-true, eq-eqb}
use Rattle.model.specs.Bits.{bit, from_bits}
use Rattle.model.specs.Netlist.{Netlist, Start, given, unknown, is_unknown, IsPort, port}
use Rattle.model.specs.Circuit.{address_of, Begins}
use Rattle.model.specs.Variables.{none_since_of, read_bit, pair_literals, closing_literals}
use Rattle.model.specs.Numbers.{Assignment}
use Rattle.model.specs.Search.{first_where, IsFirst}
use Rattle.model.specs.Trace.{assigned}
use Rattle.model.proofs.Ports.{first-port}
use Rattle.model.proofs.Booleans.{and-true}
use Rattle.model.proofs.Bits.{from_bits-below, bit-from_bits}
use Rattle.model.proofs.Search.{first_where-is, first-least}
use Rattle.model.proofs.Truth.{value, AgreedHold, PairHolds, InitialHold}
use Rattle.model.proofs.AssignedReads.{E-value}

module _ (c : Netlist) (a : Assignment) where
  -- the address that a port reads in frame i, as assigned
  abbrev at : ℕ → ℕ → ℕ
  at p i = address_of c (port c p) (assigned c a i)

  -- its read in frame i reaches the start: Z
  abbrev reaches : ℕ → ℕ → Bool
  reaches p i = value a (none_since_of c (port c p) 0 i)

  -- each read of frames 0 to k that reaches the start is one of this memory
  abbrev pub Explains : ℕ → (ℕ → ℕ) → Type 0
  Explains k memory =
      (p : ℕ) → IsPort c p → (i : ℕ) → i ≤ k → reaches p i ≡ true → (t : ℕ) → t < c.n
      → value a (read_bit c (port c p) i t) ≡ bit (memory (at p i)) t

  -- at the first port: whether frame i reads the word x of the start, and what the first such frame reads
  reads : ℕ → ℕ → Bool
  reads x i = reaches 1 i && eqb (at 1 i) x

  first_read : ℕ → ℕ → ℕ
  first_read k x = from_bits c.n (λ t. value a (read_bit c (port c 1) (first_where (reads x) (k + 1)) t))

  module _ (k : ℕ) where
    -- from a given start, any that a run may begin with
    pub given-explains : (s : Start) → is_unknown s ≡ false
        → ((p : ℕ) → IsPort c p → (i : ℕ) → i ≤ k → InitialHold a c.n s (closing_literals c (port c p) i))
        → (memory : ℕ → ℕ) → Begins c.n s memory → Explains k memory
    unfolding InitialHold Begins is_unknown closing_literals
    given-explains (given word) e closings memory begins = λ p here i d z t b.
        closings p here i d t b z ∙ ap (λ (w : ℕ). bit w t) (sym (begins (at p i)))
    given-explains unknown e closings memory begins = absurd (true≢false e)

    -- from an unknown one, with one port: reads of one address that reach it agree, so all of them are what the first is
    first-explains : ((j i : ℕ) → j < i → i ≤ k → PairHolds a c.m c.n unknown (pair_literals c (port c 1) j i))
        → (i : ℕ) → i ≤ k → reaches 1 i ≡ true → (t : ℕ) → t < c.n
        → value a (read_bit c (port c 1) i t) ≡ bit (first_read k (at 1 i)) t
    unfolding AgreedHold pair_literals reads first_read
    first-explains pairs i d z t b =
        ⊎_elim (λ e. ap (λ (j : ℕ). value a (read_bit c (port c 1) j t)) (sym e)) (λ l. earlier l) (eq-or-lt_of_le least)
        ∙ sym (bit-from_bits c.n (λ t. value a (read_bit c (port c 1) first t)) t b)
      where
        first : ℕ
        first = first_where (reads (at 1 i)) (k + 1)

        is : IsFirst (reads (at 1 i)) (k + 1) first
        is = first_where-is (reads (at 1 i)) (k + 1)

        least : first ≤ i
        least = first-least is ((and-true (reaches 1 i) (eqb (at 1 i) (at 1 i))).1 (z, eq-eqb (at 1 i) (at 1 i) refl))

        there : (reaches 1 first ≡ true) × (eqb (at 1 first) (at 1 i) ≡ true)
        there = (and-true (reaches 1 first) (eqb (at 1 first) (at 1 i))).0 (is.holds-there (omega (arith, least)))

        earlier : first < i → value a (read_bit c (port c 1) i t) ≡ value a (read_bit c (port c 1) first t)
        earlier l =
            let pair = pairs first i l d in
            pair.agreed t b
            (E-value c (port c 1) a first i pair ∙ eq-eqb (at 1 i) (at 1 first) (sym (eqb-true (at 1 first) (at 1 i) there.1))) there.0 z

    -- there is one, whatever the start
    pub start-explains : (s : Start) → (is_unknown s ≡ true → (p : ℕ) → IsPort c p → p ≡ 1)
        → ((p : ℕ) → IsPort c p → (j i : ℕ) → j < i → i ≤ k → PairHolds a c.m c.n s (pair_literals c (port c p) j i))
        → ((p : ℕ) → IsPort c p → (i : ℕ) → i ≤ k → InitialHold a c.n s (closing_literals c (port c p) i))
        → (memory : ℕ → ℕ) × Begins c.n s memory × Explains k memory
    unfolding Begins is_unknown first_read
    start-explains (given word) single pairs closings =
        ((λ x. word), (λ x. refl), given-explains (given word) refl closings (λ x. word) (λ x. refl))
    start-explains unknown single pairs closings = (
      first_read k,
      (λ x. from_bits-below c.n _),
      λ p here.
          subst (λ (q : ℕ). (i : ℕ) → i ≤ k → reaches q i ≡ true → (t : ℕ) → t < c.n → value a (read_bit c (port c q) i t) ≡ bit (first_read k (at q i)) t)
          (sym (single refl p here)) (first-explains (pairs 1 (first-port c))),
    )
