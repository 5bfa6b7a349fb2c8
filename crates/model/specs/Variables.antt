-- The numbering of variables (RULES V2 to V8), and the literals that it gives. Cited by `Groups`, by the
-- claim, and by what makes a literal.
use Rattle.std.specs.Prelude.{ℕ, ◌+◌, ◌-◌, ◌*◌, ◌/◌, ◌≤◌, ◌<◌, ◌≡◌, cond, eqb, ltb}
use Rattle.model.specs.Bits.{odd}
use Rattle.model.specs.Netlist.{Netlist, Port, ports, port, last_wire, read_wire}
use Rattle.model.specs.Clauses.{Literal, known, plus, minus, PairLiterals, ClosingLiterals}

-- how many variables a pair of frames has, over all ports (RULES V5 and V8)
abbrev pub stride : Netlist → ℕ
stride c = ports c * (c.m + 4)

-- B(i): frame i's variables start after it (RULES V2); the whole product is halved
unfoldable pub base : Netlist → ℕ → ℕ
base c i = 1 + i * last_wire c + stride c * i * (i - 1) / 2

-- Q: the variables of pair (j, i) at a port start after it (RULES V4 and V8)
unfoldable pub pair_base : Netlist → Port → ℕ → ℕ → ℕ
pair_base c p j i = base c i + last_wire c + j * stride c + p.first_variable

-- a wire, and a code, in a frame whose variables start after b. Codes 0 and 1 are constants (RULES V7 and V3)
unfoldable pub wire_at : ℕ → ℕ → Literal
wire_at b w = plus (b + w)

unfoldable pub code_at : ℕ → ℕ → Literal
code_at b x = cond (ltb x 2) (known (odd x)) (cond (odd x) (minus (b + x / 2)) (plus (b + x / 2)))

-- in frame i
abbrev pub wire_in : Netlist → ℕ → ℕ → Literal
wire_in c i = wire_at (base c i)

abbrev pub code_in : Netlist → ℕ → ℕ → Literal
code_in c i = code_at (base c i)

-- PS of pair (j, i), or RE of frame i where j = i (RULES G9 and G11): frame i reads, and no frame since j has written what it reads
unfoldable pub none_since_of : Netlist → Port → ℕ → ℕ → Literal
none_since_of c p j i = cond (eqb j i) (code_in c i p.RE) (plus (pair_base c p j i + c.m + 3))

unfoldable pub selected : Netlist → Port → ℕ → ℕ → Literal
selected c p j i = plus (pair_base c p j i + c.m + 4)

unfoldable pub read_bit : Netlist → Port → ℕ → ℕ → Literal
read_bit c p i t = wire_in c i (read_wire c (p.first_read + t))

unfoldable pub pair_literals : Netlist → Port → ℕ → ℕ → PairLiterals
pair_literals c p j i =
    record {
      E = plus (pair_base c p j i + 1);
      e = λ t. plus (pair_base c p j i + 2 + t);
      s = plus (pair_base c p j i + c.m + 2);
      PS = none_since_of c p j i;
      S = selected c p j i;
      N = none_since_of c p (j + 1) i;
      WE = code_in c j c.WE;
      Aj = λ t. code_in c j (c.address t);
      WD = λ t. code_in c j (c.write_data t);
      Ai = λ t. code_in c i (p.address t);
      RD = read_bit c p i;
      Zj = none_since_of c p 0 j;
      Zi = none_since_of c p 0 i;
      RDj = read_bit c p j;
    }

unfoldable pub closing_literals : Netlist → Port → ℕ → ClosingLiterals
closing_literals c p i =
    record {
      Z = none_since_of c p 0 i;
      RE = code_in c i p.RE;
      S = λ j. selected c p j i;
      RD = read_bit c p i;
      before = read_bit c p (i - 1);
    }

-- what a variable of depth k stands for: the constant, a wire of a frame, or one of a pair (RULES V6)
pub data Numbered (c : Netlist) (k v : ℕ) : Type 0 where
  constant : v ≡ 1 → Numbered c k v
  wire : (i w : ℕ) → i ≤ k → 1 ≤ w → w ≤ last_wire c → v ≡ base c i + w → Numbered c k v
  pair : (j i x : ℕ) → j < i → i ≤ k → 1 ≤ x → x ≤ stride c → v ≡ pair_base c (port c 1) j i + x → Numbered c k v
