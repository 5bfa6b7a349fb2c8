-- Clauses over literals, and the clauses of a gate, a pair and a closing: nothing here knows a variable's number.
-- RULES G1 to G13, G25 and G32 to G34; Ganai et al. 2004, section 4.1 and equations (3) and (4); reads of an unknown
-- memory that agree, as in Velev et al. 1997. Cited by `Groups` and by what writes clauses.
use Rattle.std.specs.Prelude.{ℕ, zero, suc, Bool, not, List, [], ◌∷◌, ◌++◌}
use Rattle.model.specs.Bits.{bit}
use Rattle.model.specs.Netlist.{Start, given, unknown}
use Rattle.model.specs.Gather.{gather}

-- A literal: a constant, or a variable, inverted or not. What is written of a constant is said in `Numbers` alone.
pub data Literal : Type 0 where
  known : Bool → Literal
  plus : ℕ → Literal
  minus : ℕ → Literal

abbrev pub Clause : Type 0
Clause = List Literal

-- negation, ¬ of the rules (RULES G2)
unfoldable pub neg : Literal → Literal
neg (known b) = known (not b)
neg (plus v) = minus v
neg (minus v) = plus v

-- g = a ∧ b (RULES G1)
unfoldable pub and_clauses : Literal → Literal → Literal → List Clause
and_clauses g a b = (neg g ∷ a ∷ []) ∷ (neg g ∷ b ∷ []) ∷ (g ∷ neg a ∷ neg b ∷ []) ∷ []

-- q = d (RULES G4)
unfoldable pub same_clauses : Literal → Literal → List Clause
same_clauses q d = (neg q ∷ d ∷ []) ∷ (q ∷ neg d ∷ []) ∷ []

-- where p is true, a = b (RULES G10, G12 and G25)
unfoldable pub same_if_clauses : Literal → Literal → Literal → List Clause
same_if_clauses p a b = (neg p ∷ neg a ∷ b ∷ []) ∷ (neg p ∷ a ∷ neg b ∷ []) ∷ []

-- where p, q and r are true, a = b (RULES G32)
unfoldable pub same_if_all_clauses : Literal → Literal → Literal → Literal → Literal → List Clause
same_if_all_clauses p q r a b = (neg p ∷ neg q ∷ neg r ∷ neg a ∷ b ∷ []) ∷ (neg p ∷ neg q ∷ neg r ∷ a ∷ neg b ∷ []) ∷ []

-- One address bit x of frame j and y of frame i, with E and the bit's own e (RULES G6). The paper's e lost its subscript: it is per bit.
unfoldable pub bit_clauses : Literal → Literal → Literal → Literal → List Clause
bit_clauses E e x y =
    (neg E ∷ x ∷ neg y ∷ []) ∷ (neg E ∷ neg x ∷ y ∷ []) ∷ (e ∷ x ∷ y ∷ []) ∷ (e ∷ neg x ∷ neg y ∷ []) ∷ []

-- The literals of a pair (j, i), by the paper's letters. j < i only: a read does not see its own frame's write.
pub record PairLiterals : Type 0 where
  -- the address comparison, and its bits' own variables
  pub E : Literal
  pub e : ℕ → Literal
  -- valid read; no valid read from j on, with RE; exclusive valid read
  pub s : Literal
  pub PS : Literal
  pub S : Literal
  -- PS of pair (j + 1, i), or RE of frame i where j = i - 1
  pub N : Literal
  -- of frame j: write enable, write address, write data
  pub WE : Literal
  pub Aj : ℕ → Literal
  pub WD : ℕ → Literal
  -- of frame i: read address, read data
  pub Ai : ℕ → Literal
  pub RD : ℕ → Literal
  -- Z of frame j and of frame i, a read of a word that no earlier frame wrote; and the read data of frame j
  pub Zj : Literal
  pub Zi : Literal
  pub RDj : ℕ → Literal

unfoldable pub address_bit_clauses : PairLiterals → ℕ → List Clause
address_bit_clauses x t = bit_clauses x.E (x.e t) (x.Aj t) (x.Ai t)

-- ¬e of address bit t
unfoldable pub unequal_of : PairLiterals → ℕ → List Literal
unequal_of x t = neg (x.e t) ∷ []

-- (¬e of bits 0 to m - 1, E) (RULES G7)
unfoldable pub all_bits : ℕ → PairLiterals → Clause
all_bits m x = gather m (unequal_of x) ++ x.E ∷ []

unfoldable pub forwarded_clauses : PairLiterals → ℕ → List Clause
forwarded_clauses x t = same_if_clauses x.S (x.RD t) (x.WD t)

-- Two reads of one address that both reach the start agree (RULES G32). A given initial word says so by itself.
unfoldable pub agreed_clauses : PairLiterals → ℕ → List Clause
agreed_clauses x t = same_if_all_clauses x.E x.Zj x.Zi (x.RD t) (x.RDj t)

unfoldable pub agreed_reads : ℕ → Start → PairLiterals → List Clause
agreed_reads n (given word) x = []
agreed_reads n unknown x = gather n (agreed_clauses x)

-- Equation (1) of Ganai et al. has a misprinted inner sign (RULES G24); its sentence decides: all frames strictly between j and i.
-- That is what N carries from pair to pair, by equation (3). RULES G6 to G10 and G32, in their order.
unfoldable pub pair_clauses : ℕ → ℕ → Start → PairLiterals → List Clause
pair_clauses m n start x =
    gather m (address_bit_clauses x) ++ all_bits m x ∷ [] ++ and_clauses x.s x.E x.WE ++ and_clauses x.PS (neg x.s) x.N
    ++ and_clauses x.S x.s x.N ++ gather n (forwarded_clauses x) ++ agreed_reads n start x

-- The literals of the customer's "closing" of frame i (RULES G11): the paper's j = -1, a read of a word that no earlier frame wrote;
-- and what the read bits are where nothing is read.
pub record ClosingLiterals : Type 0 where
  -- PS of pair (0, i), or RE where i = 0
  pub Z : Literal
  pub RE : Literal
  -- S of pair (j, i)
  pub S : ℕ → Literal
  -- read data, and, where i is not 0, the read data of frame i - 1
  pub RD : ℕ → Literal
  pub before : ℕ → Literal

-- (¬Z ¬RDi start bit), (¬Z RDi ¬start bit): a read of a word that no frame wrote is of the initial word (RULES G12)
unfoldable pub initial_read_clauses : ℕ → ClosingLiterals → ℕ → List Clause
initial_read_clauses word x t = same_if_clauses x.Z (x.RD t) (known (bit word t))

-- of every data bit; none where the start is unknown (RULES G33)
unfoldable pub initial_reads : ℕ → Start → ClosingLiterals → List Clause
initial_reads n (given word) x = gather n (initial_read_clauses word x)
initial_reads n unknown x = []

-- (RE ¬RDi RDi−1), (RE RDi ¬RDi−1): where RE is false, the word of the frame before is held (RULES G25)
unfoldable pub held_clauses : ClosingLiterals → ℕ → List Clause
held_clauses x t = same_if_clauses (neg x.RE) (x.RD t) (x.before t)

-- of every data bit; frame 0 has none before it
unfoldable pub held_reads : ℕ → ℕ → ClosingLiterals → List Clause
held_reads n zero x = []
held_reads n (suc i) x = gather n (held_clauses x)

-- S of pair (j, i)
unfoldable pub selected_of : ClosingLiterals → ℕ → List Literal
selected_of x j = x.S j ∷ []

-- (¬RE Z S(0,i) .. S(i−1,i)): a read has some source
unfoldable pub some_source : ℕ → ClosingLiterals → Clause
some_source i x = neg x.RE ∷ x.Z ∷ gather i (selected_of x)

-- RULES G12, G25 and G13, in their order
unfoldable pub closing_clauses : ℕ → Start → ℕ → ClosingLiterals → List Clause
closing_clauses n start i x = initial_reads n start x ++ held_reads n i x ++ some_source i x ∷ []
