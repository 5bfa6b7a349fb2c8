-- What is claimed of the calls over a record and its lent lists (RULES A1, A13 and A14): demand 3 of the calls over a netlist (call_unpacked/specs/Calls),
-- for the netlist that record and lists stand for. Cited by `heading`, here and in `marrubigai`.
use Rattle.std.specs.Prelude.{ℕ, ◌≤◌, ◌≡◌, ◌↔◌, List, length}
use Rattle.refusals.specs.Verdict.{Passed}
use Rattle.model.specs.Limits.{most_depth}
use Rattle.model.specs.Netlist as model
use Rattle.model.specs.Acceptance.{Accepted}
use Rattle.netlist.specs.declared.Netlist.{Netlist}
use Rattle.netlist_tests.specs.Record.{record_verdict}
use Rattle.call_lists.specs.Lent.{net_lent}
use Rattle.call_lists.specs.declared.LatchEntry.{LatchEntry}
use Rattle.call_lists.specs.declared.GateEntry.{GateEntry}
use Rattle.call_unpacked.specs.Calls.{CallsEncode}

-- demand 3, for every accepted record and every depth from 0 to 255
abbrev pub HeadingClaim : Netlist → List LatchEntry → List GateEntry → ℕ → Type 0
HeadingClaim net latches gates k =
    record_verdict (net_lent net latches gates) (length latches) (length gates) ≡ Passed → k ≤ most_depth
    → CallsEncode (net_lent net latches gates) (length latches) (length gates) k

-- The tests of a record pass exactly the netlists of which the theorems speak (RULES A1), with lists that are long enough. Promised by
-- `heading`; `passes-accepted` in netlist_tests/proofs/Acceptance.antt is of this type.
abbrev pub AcceptedTheorem : Type 0
AcceptedTheorem = (c : model.Netlist) (latch_count gate_count : ℕ)
    → (record_verdict c latch_count gate_count ≡ Passed) ↔ (Accepted c × (c.latches ≤ latch_count) × (c.gates ≤ gate_count))
