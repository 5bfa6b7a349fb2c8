-- What the lent lists hold after a call that reads a netlist c into them, beside its verdict (RULES T45, "only the first L and the first A
-- records of the lent lists change", and T44, "After a refusal"). Cited by sheet_reader/specs/ReadCall and aiger_import/specs/ImportCall.
use Rattle.std.specs.Prelude.{ℕ, List}
use Rattle.refusals.specs.Verdict.{Verdict}
use Rattle.model.specs.Netlist.{Netlist}
use Rattle.refusals.specs.Slices.{contents_after}
use Rattle.call_lists.specs.Delivered.{first_records}
use Rattle.call_lists.specs.declared.LatchEntry.{LatchEntry}
use Rattle.call_lists.specs.declared.GateEntry.{GateEntry}

-- a latch and a gate of a netlist, as records
abbrev pub latch_of : Netlist → ℕ → LatchEntry
latch_of c l = record { next = record { 0 = c.next l }; reset = c.reset l }

abbrev pub gate_of : Netlist → ℕ → GateEntry
gate_of c g = record { left = record { 0 = c.left g }; right = record { 0 = c.right g } }

-- the netlist's latches and gates in front, and everything behind as it was; at a refusal all as it was
unfoldable pub latches_beside : Verdict → Netlist → List LatchEntry → List LatchEntry
latches_beside v c old = contents_after v (first_records c.latches (latch_of c)) old

unfoldable pub gates_beside : Verdict → Netlist → List GateEntry → List GateEntry
gates_beside v c old = contents_after v (first_records c.gates (gate_of c)) old
