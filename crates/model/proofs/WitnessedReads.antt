-- What an assignment that is made from frames makes of a read, at any port and whatever the word is at the start: where it has the
-- frames' codes, the values of a pair's own variables that these give, and the word read, the clauses of the pairs and the closing
-- of frame i hold. No contract cites this file.
use Prim.Native.Nat.{ℕ, suc, zero-le, ◌-◌, ◌≤◌, ◌<◌}
use mathlib.Core.Path.{◌≡◌, sym, ◌∙◌, ap, ap₂}
use mathlib.Core.Bool.{Bool, true, false, cond, not, ◌&&◌, and_comm, beq}
use mathlib.Core.Logic.{⊎_elim, ⊎_map}
use native.Mathlib.Numerals.{add-one}
use native.Mathlib.Nat.{le_refl, le_of_lt, eq-or-lt_of_le}
use native.Mathlib.Omega.{arith}
use lib.Dec.{eqb}
use borrow.Author.Tests.{eqb-true, eq-eqb}
use Rattle.model.specs.Bits.{bit}
use Rattle.model.specs.Netlist.{Netlist, Start, Port, port}
use Rattle.model.specs.Circuit.{Values, code_value, address_of, write_address, word_written}
use Rattle.model.specs.Acceptance.{CodesFit, IsCode}
use Rattle.model.specs.Variables.{code_in, none_since_of, selected, read_bit, pair_literals, closing_literals}
use Rattle.model.specs.Numbers.{Assignment}
use Rattle.model.specs.Trace.{writes, hits}
use Rattle.model.proofs.Booleans.{and-true, beq-true}
use Rattle.model.proofs.Bits.{from_bits-same}
use Rattle.model.proofs.Ports.{first-port}
use Rattle.model.proofs.Truth.{value, AgreedHold, PairHolds, InitialHold, ClosingHolds}
use Rattle.model.proofs.Forwarding.{stepped, Chain, none_from, none_from-last, none_from-chain, none-unchanged, source-exists}
use Rattle.model.proofs.Variables.{none_since-last}
use Rattle.model.proofs.Agreement.{word-bit, address-bits}

-- the chain that the writes to the word that frame i reads at a port make with its RE
unfoldable pub nones : Netlist → Port → (ℕ → Values) → ℕ → ℕ → Bool
nones c p u i = none_from (hits c p u i) (code_value (u i) p.RE) i

-- the values of a pair's own variables that the frames give
pub record PairValues (c : Netlist) (p : Port) (u : ℕ → Values) (a : Assignment) (j i : ℕ) : Type 0 where
  pub E-is : value a (pair_literals c p j i).E ≡ eqb (address_of c p (u i)) (write_address c (u j))
  pub e-is : (t : ℕ) → t < c.m
      → value a ((pair_literals c p j i).e t) ≡ beq (code_value (u j) (c.address t)) (code_value (u i) (p.address t))
  pub s-is : value a (pair_literals c p j i).s ≡ hits c p u i j
  pub PS-is : value a (none_since_of c p j i) ≡ nones c p u i j
  pub S-is : value a (selected c p j i) ≡ (hits c p u i j && nones c p u i (suc j))

-- what the assignment has of frame i's read
pub record HasRead (c : Netlist) (p : Port) (u : ℕ → Values) (a : Assignment) (i start : ℕ) : Type 0 where
  pub address-codes : (t : ℕ) → t < c.m → IsCode c (p.address t)
  pub RE-code : IsCode c p.RE
  pub codes : (j : ℕ) → j ≤ i → (x : ℕ) → IsCode c x → value a (code_in c j x) ≡ code_value (u j) x
  pub pairs : (j : ℕ) → j < i → PairValues c p u a j i
  pub word : code_value (u i) p.RE ≡ true → (t : ℕ) → t < c.n
      → value a (read_bit c p i t) ≡ bit (stepped start (hits c p u i) (λ j. word_written c (u j)) i) t
  pub held : 0 < i → code_value (u i) p.RE ≡ false → (t : ℕ) → t < c.n
      → value a (read_bit c p i t) ≡ value a ((closing_literals c p i).before t)

module _ {c : Netlist} (fit : CodesFit c) {p : Port} {u : ℕ → Values} {a : Assignment} {i start : ℕ} (has : HasRead c p u a i start) where
  -- the writes to the word read, and RE, make a chain
  chain-at : Chain i (hits c p u i) (nones c p u i)
  unfolding nones
  chain-at = none_from-chain (hits c p u i) (code_value (u i) p.RE) i

  -- where no frame from j on writes the word, frame i reads what it was before frame j
  read-since : (j : ℕ) → j ≤ i → nones c p u i j ≡ true → (t : ℕ) → t < c.n
      → value a (read_bit c p i t) ≡ bit (stepped start (hits c p u i) (λ j. word_written c (u j)) j) t
  unfolding nones
  read-since j d h t b =
      let r = none-unchanged i (hits c p u i) (nones c p u i) chain-at start (λ j. word_written c (u j)) (i - j) j (omega arith) h in
      has.word (sym (none_from-last (hits c p u i) (code_value (u i) p.RE) i) ∙ r.1) t b ∙ ap (λ (w : ℕ). bit w t) r.0

  -- the literal `none_since_of` is the chain's
  none_since-value : (j : ℕ) → j ≤ i → value a (none_since_of c p j i) ≡ nones c p u i j
  unfolding nones
  none_since-value j b = ⊎_elim last (λ (l : j < i). (has.pairs j l).PS-is) (eq-or-lt_of_le b)
    where
      last : j ≡ i → value a (none_since_of c p j i) ≡ nones c p u i j
      last e =
          rw e
          (ap (value a) (none_since-last c p i) ∙ has.codes i (le_refl i) p.RE has.RE-code
          ∙ sym (none_from-last (hits c p u i) (code_value (u i) p.RE) i))

  -- a read that reaches the start is of the word there
  pub read-start : value a (none_since_of c p 0 i) ≡ true → (t : ℕ) → t < c.n → value a (read_bit c p i t) ≡ bit start t
  unfolding stepped nones
  read-start h t b = read-since 0 zero-le (sym (none_since-value 0 zero-le) ∙ h) t b

  -- the clauses of a pair hold, if its reads agree
  pub pair-witnessed : {s : Start} (j : ℕ) → j < i → AgreedHold a c.n s (pair_literals c p j i)
      → PairHolds a c.m c.n s (pair_literals c p j i)
  unfolding pair_literals hits writes stepped address_of
  pair-witnessed j l agreed =
      record {
        address-bit = λ t b. (
          λ h. Aj t b ∙ sym (address-bits c p (port c 1) (u i) (u j) (eqb-true _ _ (sym given.E-is ∙ h)) t b) ∙ sym (Ai t b),
          λ h. given.e-is t b ∙ (beq-true _ _).1 (sym (Aj t b) ∙ h ∙ Ai t b),
        );
        E-where-all-e = λ h. given.E-is
            ∙ eq-eqb _ _ (from_bits-same c.m _ _ (λ t b. sym ((beq-true _ _).0 (sym (given.e-is t b) ∙ h t b))));
        valid = given.s-is ∙ and_comm (code_value (u j) c.WE) _
            ∙ ap₂ ◌&&◌ (sym given.E-is) (sym (has.codes j (le_of_lt l) c.WE fit.WE-fits));
        none-since = none_since-value j (le_of_lt l) ∙ chain-at.link j l ∙ ap₂ (λ (x y : Bool). not x && y) (sym given.s-is) N;
        exclusive = given.S-is ∙ ap₂ ◌&&◌ (sym given.s-is) N;
        data-where-S = λ t b h. forwards t b ((and-true (hits c p u i j) (nones c p u i (suc j))).0 (sym given.S-is ∙ h));
        agreed = agreed;
      }
    where
      given : PairValues c p u a j i
      given = has.pairs j l

      N : nones c p u i (suc j) ≡ value a (pair_literals c p j i).N
      N = sym (none_since-value (suc j) l) ∙ ap (λ (x : ℕ). value a (none_since_of c p x i)) (sym (add-one j))

      Aj : (t : ℕ) → t < c.m → value a ((pair_literals c p j i).Aj t) ≡ code_value (u j) (c.address t)
      Aj t b = has.codes j (le_of_lt l) (c.address t) (fit.address-fits 1 (first-port c) t b)

      Ai : (t : ℕ) → t < c.m → value a ((pair_literals c p j i).Ai t) ≡ code_value (u i) (p.address t)
      Ai t b = has.codes i (le_refl i) (p.address t) (has.address-codes t b)

      forwards : (t : ℕ) → t < c.n → (hits c p u i j ≡ true) × (nones c p u i (suc j) ≡ true)
          → value a ((pair_literals c p j i).RD t) ≡ value a ((pair_literals c p j i).WD t)
      forwards t b h =
          read-since (suc j) l h.1 t b
          ∙ ap (λ (x : Bool). bit (cond x (word_written c (u j)) (stepped start (hits c p u i) (λ j. word_written c (u j)) j)) t) h.0
          ∙ word-bit c (u j) t b ∙ sym (has.codes j (le_of_lt l) (c.write_data t) (fit.data-fits t b))

  -- the clauses of the closing hold, if a read that reaches the start has the initial word
  pub closing-witnessed : {s : Start} → InitialHold a c.n s (closing_literals c p i) → ClosingHolds a c.n s i (closing_literals c p i)
  unfolding closing_literals nones
  closing-witnessed first =
      record {
        initial-where-Z = first;
        held-where-idle = λ l t b h. has.held l (sym (has.codes i (le_refl i) p.RE has.RE-code) ∙ h) t b;
        source-where-RE = λ h.
            ⊎_map (λ z. none_since-value 0 zero-le ∙ z) (λ x. (x.0, x.1, (has.pairs x.0 x.1).S-is ∙ x.2))
            (source-exists i (hits c p u i) (nones c p u i) chain-at start (λ j. word_written c (u j)) i (le_refl i)
            (none_from-last (hits c p u i) (code_value (u i) p.RE) i ∙ sym (has.codes i (le_refl i) p.RE has.RE-code) ∙ h));
      }
