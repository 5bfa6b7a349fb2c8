-- The model's netlist that a record and its unpacked lists stand for (RULES W14 to W17). Cited by every contract over a record.
use Rattle.std.specs.Prelude.{ℕ, ◌+◌, ◌*◌, List, [], get_or, set}
use Rattle.model.specs.Netlist as M
use Rattle.literals.specs.declared.Code.{Code}
use Rattle.netlist.specs.declared.Netlist.{Netlist}

-- the code at an index of a record's array
unfoldable pub code_of : List Code → ℕ → ℕ
code_of xs t = (get_or xs t (record { 0 = 0 })).0

-- an unpacked list has two numbers a record: the first and the second of record x
abbrev pub first_at : List ℕ → ℕ → ℕ
first_at list x = get_or list (2 * x) 0

abbrev pub second_at : List ℕ → ℕ → ℕ
second_at list x = get_or list (2 * x + 1) 0

-- record x's two numbers put at its place
unfoldable pub put_numbers : ℕ → ℕ → ℕ → List ℕ → List ℕ
put_numbers x first second list = set (set list (2 * x) first) (2 * x + 1) second

unfoldable pub net_of : Netlist → List ℕ → List ℕ → M.Netlist
net_of r latches gates =
    record {
      inputs = r.inputs;
      latches = r.latches;
      gates = r.gates;
      m = r.m;
      n = r.n;
      initial_word = r.initial_word;
      unknown_start = r.unknown_start;
      second_port = r.second_port;
      next = first_at latches;
      reset = second_at latches;
      left = first_at gates;
      right = second_at gates;
      address = code_of r.address;
      write_data = code_of r.write_data;
      WE = r.we.0;
      RE = r.re.0;
      P = r.p.0;
      address2 = code_of r.address2;
      RE2 = r.re2.0;
    }

-- A record without its lists: all that the sizes, lines and numbering look at, and pairs, closings and the property. What looks at
-- no list is lent none.
abbrev pub alone : Netlist → M.Netlist
alone r = net_of r [] []
