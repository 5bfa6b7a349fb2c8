-- The model's netlist that a record and its lent lists stand for (RULES W14, W16 and W17). Cited by what the public calls promise (calls/specs/LentCalls,
-- sheet_reader/specs/ReadCall, aiger_import/specs/ImportCall).
use Rattle.std.specs.Prelude.{List}
use Rattle.model.specs.Netlist as M
use Rattle.netlist.specs.NetOf.{net_of}
use Rattle.netlist.specs.declared.Netlist.{Netlist}
use Rattle.call_lists.specs.Unpacked.{latch_codes, gate_codes}
use Rattle.call_lists.specs.declared.LatchEntry.{LatchEntry}
use Rattle.call_lists.specs.declared.GateEntry.{GateEntry}

abbrev pub net_lent : Netlist → List LatchEntry → List GateEntry → M.Netlist
net_lent net latches gates = net_of net (latch_codes latches) (gate_codes gates)
