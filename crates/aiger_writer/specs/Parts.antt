-- The lines and gates of a record's file, one by one, from unpacked lists. Cited by the functions that write them, and by no public contract.
use Rattle.std.specs.Prelude.{ℕ, ◌+◌, ◌*◌, ◌≤◌, ◌<◌, min, max, List}
use Rattle.model.specs.Netlist.{Netlist}
use Rattle.model.specs.Network.{renamed}
use Rattle.netlist.specs.NetOf.{first_at, second_at}
use Rattle.aiger_graph.specs.RecordAig.{output_of}
use Rattle.aiger_binary.specs.BinaryText.{code_line, gate_text}
use Rattle.aiger_ordered.specs.OrderedAig.{file_variable}
use Rattle.aiger_ordered.specs.declared.FileOrder.{FileOrder}

-- an order of at most 600 wires
abbrev pub OrderFits : FileOrder → Type 0
OrderFits order = order.inputs + order.latches + order.reads ≤ 600

abbrev pub code_in : FileOrder → ℕ → ℕ
code_in order x = renamed (file_variable order) x

-- the line of latch l's next code, and that of output o
abbrev pub next_text : FileOrder → List ℕ → ℕ → List ℕ
next_text order latches l = code_line (code_in order (first_at latches l))

abbrev pub output_text : FileOrder → Netlist → ℕ → List ℕ
output_text order c o = code_line (code_in order (output_of c o))

-- the variable of gate g
abbrev pub own_in : FileOrder → ℕ → ℕ
own_in order g = 1 + order.inputs + order.latches + order.reads + g

-- `count` gates whose codes are below their own variables
pub record GatesFit (order : FileOrder) (gates : List ℕ) (count : ℕ) : Type 0 where
  pub wires-fit : order.inputs + order.latches + order.reads + count ≤ 600
  pub left_below : (g : ℕ) → g < count → first_at gates g < 2 * own_in order g
  pub right-below : (g : ℕ) → g < count → second_at gates g < 2 * own_in order g

-- gate g
abbrev pub gate_text_at : FileOrder → List ℕ → ℕ → List ℕ
gate_text_at order gates g =
    gate_text (own_in order g)
    (max (code_in order (first_at gates g)) (code_in order (second_at gates g)))
    (min (code_in order (first_at gates g)) (code_in order (second_at gates g)))
