-- The graph of a record, by its own wires and codes: the read bits are its last inputs, its outputs the codes behind the gates in the order of
-- the sheet: address, write data, of a second port address and RE, then WE, RE and P (RULES I6 and I12). Cited by what is said of a text that is
-- imported and of a file that is exported.
use Rattle.std.specs.Prelude.{ℕ, ◌+◌, ◌-◌, ◌*◌, Bool, cond, ltb, eqb}
use Rattle.model.specs.Netlist.{Netlist, read_bits, input_wire, latch_wire, read_wire, gate_wire}
use Rattle.model.specs.Circuit.{Values, evaluate}
use Rattle.aiger_graph.specs.Aig.{Aig}

-- the wire of input x, where the read bits follow the inputs
unfoldable pub input_or_read : Netlist → ℕ → ℕ
input_or_read c x = cond (ltb x c.inputs) (input_wire c x) (read_wire c (x - c.inputs))

-- the number of the output WE, by m, n and how many ports there are beside the first; RE and P follow it, and are the last
abbrev pub control_output : ℕ → ℕ → ℕ → ℕ
control_output m n second = m + n + second * (m + 1)

-- the code of output o
unfoldable pub output_of : Netlist → ℕ → ℕ
output_of c o =
    let control = control_output c.m c.n c.second_port in
    let t = o - (c.m + c.n) in
    cond (ltb o c.m) (c.address o)
    (cond (ltb o (c.m + c.n)) (c.write_data (o - c.m))
    (cond (ltb o control) (cond (ltb t c.m) (c.address2 t) c.RE2)
    (cond (eqb o control) c.WE
    (cond (eqb o (control + 1)) c.RE c.P))))

abbrev pub record_aig : Netlist → Aig
record_aig c =
    record {
      inputs = c.inputs + read_bits c;
      latches = c.latches;
      outputs = control_output c.m c.n c.second_port + 3;
      input_variable = input_or_read c;
      latch_variable = latch_wire c;
      next = c.next;
      output = output_of c;
      network = record { gates = c.gates; own = gate_wire c; left = c.left; right = c.right };
    }

-- a record's values, where the read bits are the inputs that follow the others
abbrev pub values_of : Netlist → (ℕ → Bool) → (ℕ → Bool) → Values
values_of c input latch = evaluate c input latch (λ t. input (c.inputs + t))
