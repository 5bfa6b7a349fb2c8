-- The graph that is exported for a record (RULES X2 and X4): inputs, read bits, latches and gates numbered in this order, and of a gate's codes the larger
-- by these numbers first. Cited by the functions that number a wire, a code and a gate's two, and by what is said of a file that is
-- exported.
use Rattle.std.specs.Prelude.{ℕ, ◌+◌, ◌-◌, min, max, cond, ltb}
use Rattle.model.specs.Netlist.{Netlist, read_bits, gate_wire}
use Rattle.model.specs.Network.{renamed}
use Rattle.aiger_graph.specs.Aig.{Aig}
use Rattle.aiger_graph.specs.RecordAig.{control_output, output_of}
use Rattle.aiger_ordered.specs.declared.FileOrder.{FileOrder}

-- how many inputs, latches and read bits a record has
abbrev pub order_of : Netlist → FileOrder
order_of c = record { inputs = c.inputs; latches = c.latches; reads = read_bits c }

-- the variable of a wire: the read bits come before the latches, all else stays
unfoldable pub file_variable : FileOrder → ℕ → ℕ
file_variable o w =
    cond (ltb w (1 + o.inputs)) w
    (cond (ltb w (1 + o.inputs + o.latches)) (w + o.reads)
    (cond (ltb w (1 + o.inputs + o.latches + o.reads)) (w - o.latches) w))

-- and of a code
abbrev pub file_code : Netlist → ℕ → ℕ
file_code c x = renamed (file_variable (order_of c)) x

abbrev pub aig_of : Netlist → Aig
aig_of c =
    record {
      inputs = c.inputs + read_bits c;
      latches = c.latches;
      outputs = control_output c.m c.n c.second_port + 3;
      input_variable = λ x. 1 + x;
      latch_variable = λ l. 1 + (c.inputs + read_bits c) + l;
      next = λ l. file_code c (c.next l);
      output = λ o. file_code c (output_of c o);
      network =
          record {
            gates = c.gates;
            own = gate_wire c;
            left = λ g. max (file_code c (c.left g)) (file_code c (c.right g));
            right = λ g. min (file_code c (c.left g)) (file_code c (c.right g));
          };
    }
