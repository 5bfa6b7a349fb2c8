-- The steps of unpacking a lent list, record by record. Cited by the functions that do so, and by no public contract.
use Rattle.std.specs.Prelude.{ℕ, Bool, true, false, ltb}
use Rattle.model.specs.Limits.{most_wires}
use Rattle.call_lists.specs.declared.GateEntry.{GateEntry}
use Rattle.call_lists.specs.declared.LatchEntry.{LatchEntry}

-- how many records of a list of this length are looked at
abbrev pub bounded : Bool → ℕ → ℕ
bounded true n = n
bounded false n = most_wires

unfoldable pub span_of : ℕ → ℕ
span_of n = bounded (ltb n most_wires) n

-- what stands behind the end of a list (no place there is looked at)
unfoldable pub no_gate : GateEntry
no_gate = record { left = record { 0 = 0 }; right = record { 0 = 0 } }

unfoldable pub no_latch : LatchEntry
no_latch = record { next = record { 0 = 0 }; reset = 0 }
