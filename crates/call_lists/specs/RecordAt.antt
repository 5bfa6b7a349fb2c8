-- A record of unpacked codes. Cited by the functions that deliver, and by no public contract.
use Rattle.std.specs.Prelude.{ℕ, List}
use Rattle.netlist.specs.NetOf.{first_at, second_at}
use Rattle.call_lists.specs.declared.LatchEntry.{LatchEntry}
use Rattle.call_lists.specs.declared.GateEntry.{GateEntry}

abbrev pub latch_at : List ℕ → ℕ → LatchEntry
latch_at codes l = record { next = record { 0 = first_at codes l }; reset = second_at codes l }

abbrev pub gate_at : List ℕ → ℕ → GateEntry
gate_at codes g = record { left = record { 0 = first_at codes g }; right = record { 0 = second_at codes g } }
