-- A netlist with two ports without the second (RULES O1 and O2), and netlists with the same runs (RULES O5). Cited by the conversion of sheets.
use Rattle.std.specs.Prelude.{ℕ, ◌+◌, ◌-◌, ◌*◌, ◌/◌, ◌≤◌, ◌≡◌, Bool, cond, ◌&&◌, ◌↔◌, leb, ltb}
use Rattle.model.specs.Netlist.{Netlist, read_wire, gate_wire, last_wire}
use Rattle.model.specs.Circuit.{code_value, State, Feeds, run, Starts}
use Rattle.model.specs.Network.{renamed}

-- whether a code is of a read bit of the second port
unfoldable pub names_second : Netlist → ℕ → Bool
names_second c x = leb (read_wire c c.n) (x / 2) && ltb (x / 2) (gate_wire c 0)

-- the number of a wire once those read bits are gone; and, back, the wire that has a number then
unfoldable pub one_wire : Netlist → ℕ → ℕ
one_wire c w = cond (ltb w (gate_wire c 0)) w (w - c.second_port * c.n)

unfoldable pub kept_wire : Netlist → ℕ → ℕ
kept_wire c w = cond (ltb w (read_wire c c.n)) w (w + c.second_port * c.n)

-- so of a code
abbrev pub one_code : Netlist → ℕ → ℕ
one_code c = renamed (one_wire c)

-- the netlist without its second port
unfoldable pub one_port : Netlist → Netlist
one_port c =
    record {
      inputs = c.inputs;
      latches = c.latches;
      gates = c.gates;
      m = c.m;
      n = c.n;
      initial_word = c.initial_word;
      unknown_start = c.unknown_start;
      second_port = 0;
      next = λ l. one_code c (c.next l);
      reset = c.reset;
      left = λ g. one_code c (c.left g);
      right = λ g. one_code c (c.right g);
      address = λ t. one_code c (c.address t);
      write_data = λ t. one_code c (c.write_data t);
      WE = one_code c c.WE;
      RE = one_code c c.RE;
      P = one_code c c.P;
      address2 = λ t. 0;
      RE2 = 0;
    }

-- Every run of one is a run of the other: from the same states, whatever is fed, with the same values on the wires that both have, and in each
-- frame alike in whether the property is broken.
pub record SameRuns (c d : Netlist) : Type 0 where
  pub starts-alike : (s : State) → Starts c s ↔ Starts d s
  pub wires-alike : (s : State) (f : Feeds) (i w : ℕ) → w ≤ last_wire d → run d s f i w ≡ run c s f i (kept_wire c w)
  pub property-alike : (s : State) (f : Feeds) (i : ℕ) → code_value (run d s f i) d.P ≡ code_value (run c s f i) c.P
