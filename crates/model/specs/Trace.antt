-- Where the word comes from that a port reads, as the variables S and Z of an assignment say it, and what of an assignment follows from what
-- it feeds (RULES A17 to A19). Cited by the contract of `heading`.
use Rattle.std.specs.Prelude.{ℕ, ◌+◌, ◌≤◌, ◌<◌, ◌≡◌, Bool, true, false, cond, ◌&&◌, eqb}
use Rattle.model.specs.Netlist.{Netlist, is_unknown, start, Port, IsPort, port, input_wire, read_wire}
use Rattle.model.specs.Circuit.{Values, code_value, address_of, write_address}
use Rattle.model.specs.Clauses.{Literal}
use Rattle.model.specs.Variables.{base, pair_base, none_since_of, selected}
use Rattle.model.specs.Numbers.{literal_number, Assignment, number_true}
use Rattle.model.specs.Acceptance.{Accepted}
use Rattle.model.specs.Claim.{Satisfies}

-- frame i as an assignment has it: a value for each wire; wire 0 is constantly false
unfoldable pub assigned : Netlist → Assignment → ℕ → Values
assigned c a i w = cond (eqb w 0) false (a (base c i + w))

-- of frames with the values u: whether frame j writes the word at address x; whether it writes the word that frame i reads at a port
unfoldable pub writes : Netlist → (ℕ → Values) → ℕ → ℕ → Bool
writes c u x j = code_value (u j) c.WE && eqb x (write_address c (u j))

unfoldable pub hits : Netlist → Port → (ℕ → Values) → ℕ → ℕ → Bool
hits c p u i = writes c u (address_of c p (u i))

-- What Z and the S of frames 0 to i - 1 say of a word that frame i reads and that these frames may have written: Z alone, and none of them
-- wrote it; or S of one alone, and that is the newest that wrote it (RULES A17).
pub data Source (i : ℕ) (wrote : ℕ → Bool) (Z : Bool) (S : ℕ → Bool) : Type 0 where
  from_start : Z ≡ true → ((j : ℕ) → j < i → (S j ≡ false) × (wrote j ≡ false)) → Source i wrote Z S
  from-frame : (j : ℕ) → j < i → S j ≡ true → Z ≡ false → ((l : ℕ) → l < i → (l ≡ j → ⊥) → S l ≡ false)
      → wrote j ≡ true → ((l : ℕ) → j < l → l < i → wrote l ≡ false) → Source i wrote Z S

-- a literal's value
abbrev pub literal_true : Assignment → Literal → Bool
literal_true a x = number_true a (literal_number x)

-- Z and S of frame i at a port
abbrev pub start_read : Netlist → Assignment → Port → ℕ → Bool
start_read c a p i = literal_true a (none_since_of c p 0 i)

abbrev pub frame_read : Netlist → Assignment → Port → ℕ → ℕ → Bool
frame_read c a p i j = literal_true a (selected c p j i)

-- two assignments feed alike: all inputs of frames 0 to k, and frame 0's read bits at each port whose RE is false there
pub record FedAlike (c : Netlist) (k : ℕ) (a b : Assignment) : Type 0 where
  pub inputs-alike : (i : ℕ) → i ≤ k → (x : ℕ) → x < c.inputs → a (base c i + input_wire c x) ≡ b (base c i + input_wire c x)
  pub idle-alike : (p : ℕ) → IsPort c p → code_value (assigned c a 0) (port c p).RE ≡ false → (t : ℕ) → t < c.n
      → a (base c 0 + read_wire c ((port c p).first_read + t)) ≡ b (base c 0 + read_wire c ((port c p).first_read + t))

-- v is e of an address bit, at a port, of a pair of frames of depth k (RULES V5)
pub data IsEqualBit (c : Netlist) (k v : ℕ) : Type 0 where
  equal-bit : (p j i t : ℕ) → IsPort c p → j < i → i ≤ k → t < c.m → v ≡ pair_base c (port c p) j i + 2 + t → IsEqualBit c k v

-- of one netlist and depth (RULES A17 to A19)
pub record Traced (c : Netlist) (k : ℕ) : Type 0 where
  pub one-source : (a : Assignment) → Satisfies c k a → (p : ℕ) → IsPort c p → (i : ℕ) → i ≤ k
      → code_value (assigned c a i) (port c p).RE ≡ true
      → Source i (hits c (port c p) (assigned c a) i) (start_read c a (port c p) i) (frame_read c a (port c p) i)
  pub no_source : (a : Assignment) → Satisfies c k a → (p : ℕ) → IsPort c p → (i : ℕ) → i ≤ k
      → code_value (assigned c a i) (port c p).RE ≡ false
      → (start_read c a (port c p) i ≡ false) × ((j : ℕ) → j < i → frame_read c a (port c p) i j ≡ false)
  pub settled : is_unknown (start c) ≡ false → (a b : Assignment) → Satisfies c k a → Satisfies c k b → FedAlike c k a b
      → (v : ℕ) → 1 ≤ v → v ≤ base c (k + 1) → (IsEqualBit c k v → ⊥) → a v ≡ b v

-- `traced` in proofs/Trace.antt is of this type.
abbrev pub TraceTheorem : Type 0
TraceTheorem = (c : Netlist) → Accepted c → (k : ℕ) → Traced c k
