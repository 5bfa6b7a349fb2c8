-- What an assignment says of a read, at any port and whatever the word is at the start: where the clauses of the pairs of frame i hold,
-- E, s, S and the chain of `none_since_of` are those of the writes assigned, and the read bits are the word that these leave.
-- No contract cites this file.
use Prim.Native.Nat.{ℕ, suc, ◌+◌, ◌<◌, ◌≤◌}
use mathlib.Core.Path.{◌≡◌, sym, ◌∙◌, ap, ap₂}
use mathlib.Core.Bool.{Bool, true, not, ◌&&◌, and_comm}
use native.Mathlib.Numerals.{add-one}
use native.Mathlib.Nat.{le_refl}
use lib.Dec.{eqb}
use borrow.Author.Tests.{eqb-true, eq-eqb}
use Rattle.model.specs.Bits.{bit}
use Rattle.model.specs.Netlist.{Netlist, Start, Port, port, read_wire}
use Rattle.model.specs.Circuit.{Values, code_value, address_of, write_address, word_written}
use Rattle.model.specs.Clauses.{PairLiterals}
use Rattle.model.specs.Variables.{none_since_of, read_bit, pair_literals}
use Rattle.model.specs.Numbers.{Assignment}
use Rattle.model.specs.Trace.{writes, hits, assigned}
use Rattle.model.proofs.Booleans.{iff-eq}
use Rattle.model.proofs.Bits.{from_bits-same}
use Rattle.model.proofs.Truth.{value, PairHolds}
use Rattle.model.proofs.InFrame.{read_bit-value, code_in-value}
use Rattle.model.proofs.Forwarding.{Chain, selected-read}
use Rattle.model.proofs.Variables.{none_since-last}
use Rattle.model.proofs.Agreement.{address-bits, word-bit, word_before}

module _ (c : Netlist) (p : Port) (a : Assignment) where
  -- the frames as assigned, the address read in a frame, and the literals of a pair
  abbrev u : ℕ → Values
  u = assigned c a

  abbrev at : ℕ → ℕ
  at i = address_of c p (u i)

  abbrev literals : ℕ → ℕ → PairLiterals
  literals = pair_literals c p

  -- E is true exactly where frame i reads the address that frame j has for a write
  pub E-value : (j i : ℕ) {s : Start} → PairHolds a c.m c.n s (literals j i) → value a (literals j i).E ≡ eqb (at i) (write_address c (u j))
  unfolding pair_literals address_of
  E-value j i h =
      iff-eq _ _
      (λ e. eq-eqb _ _ (from_bits-same c.m _ _ (λ t b. sym (Ai t) ∙ sym ((h.address-bit t b).0 e) ∙ Aj t)))
      (λ e. h.E-where-all-e (λ t b. (h.address-bit t b).1
      (Aj t ∙ sym (address-bits c p (port c 1) (u i) (u j) (eqb-true _ _ e) t b) ∙ sym (Ai t))))
    where
      Aj : (t : ℕ) → value a ((literals j i).Aj t) ≡ code_value (u j) (c.address t)
      Aj t = code_in-value c a j (c.address t)

      Ai : (t : ℕ) → value a ((literals j i).Ai t) ≡ code_value (u i) (p.address t)
      Ai t = code_in-value c a i (p.address t)

  -- s is true exactly where frame j writes the word that frame i reads
  pub s-value : (j i : ℕ) {s : Start} → PairHolds a c.m c.n s (literals j i) → value a (literals j i).s ≡ hits c p u i j
  unfolding hits writes pair_literals
  s-value j i h =
      h.valid ∙ and_comm (value a (literals j i).E) (value a (literals j i).WE)
      ∙ ap₂ ◌&&◌ (code_in-value c a j c.WE) (E-value j i h)

  -- N of pair (j, i) is `none_since_of` of the next frame
  N-value : (j i : ℕ) → value a (literals j i).N ≡ value a (none_since_of c p (suc j) i)
  unfolding pair_literals
  N-value j i = ap (λ (x : ℕ). value a (none_since_of c p x i)) (add-one j)

  -- of a frame whose pairs hold
  module _ (i : ℕ) {s : Start} (pairs : (j : ℕ) → j < i → PairHolds a c.m c.n s (literals j i)) where
    -- the literals `none_since_of` are the chain of the writes to the word read
    pub chain-value : Chain i (hits c p u i) (λ j. value a (none_since_of c p j i))
    unfolding pair_literals
    chain-value =
        record {
          link = λ j b. (pairs j b).none-since ∙ ap₂ (λ (x y : Bool). not x && y) (s-value j i (pairs j b)) (N-value j i);
        }

    -- S is true exactly where frame j's write is the newest to the word read
    pub S-value : (j : ℕ) → j < i → value a (literals j i).S ≡ (hits c p u i j && value a (none_since_of c p (suc j) i))
    S-value j b = (pairs j b).exclusive ∙ ap₂ ◌&&◌ (s-value j i (pairs j b)) (N-value j i)

    -- Where RE is true, the read bits assigned are the word that the writes assigned leave, if they are the start word where Z is true.
    pub word_read : (start : ℕ) → (value a (none_since_of c p 0 i) ≡ true → (t : ℕ) → t < c.n → value a (read_bit c p i t) ≡ bit start t)
        → code_value (u i) p.RE ≡ true → (t : ℕ) → t < c.n
        → u i (read_wire c (p.first_read + t)) ≡ bit (word_before c u start (at i) i) t
    unfolding pair_literals hits
    word_read start first r t b = sym (read_bit-value c p a i t) ∙ reads i (le_refl i) RE t b
      where
        -- the read bits of frame i are the word w
        Reads : ℕ → Type 0
        Reads w = (t : ℕ) → t < c.n → value a (read_bit c p i t) ≡ bit w t

        forwarded : (j : ℕ) → j < i → (hits c p u i j && value a (none_since_of c p (suc j) i)) ≡ true → Reads (word_written c (u j))
        forwarded j b h t l =
            (pairs j b).data-where-S t l (S-value j b ∙ h) ∙ code_in-value c a j (c.write_data t) ∙ sym (word-bit c (u j) t l)

        RE : value a (none_since_of c p i i) ≡ true
        RE = ap (value a) (none_since-last c p i) ∙ code_in-value c a i p.RE ∙ r

        reads : (j : ℕ) → j ≤ i → value a (none_since_of c p j i) ≡ true → Reads (word_before c u start (at i) j)
        reads =
            selected-read i (hits c p u i) (λ j. value a (none_since_of c p j i)) chain-value start (λ j. word_written c (u j)) Reads first
            forwarded
