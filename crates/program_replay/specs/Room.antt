-- What a program that lends the largest memory and trace knows (RULES P15, "Only 1 to 7, 14, 15 and 17 occur in `replay`"). Promised by `write_replay`.
use Rattle.std.specs.Prelude.{ℕ, ◌+◌, ◌*◌, ◌^◌, ◌≤◌, ◌≡◌}
use Rattle.refusals.specs.Verdict.{Passed}
use Rattle.model.specs.Limits.{most_wires, most_address_bits, most_depth}
use Rattle.model.specs.Netlist.{Netlist}
use Rattle.model.specs.Acceptance.{Accepted}
use Rattle.replay_call.specs.ReplayCall.{replay_tests}

-- a word for each address
abbrev pub most_words : ℕ
most_words = 2 ^ most_address_bits

-- for each frame a line, with a byte for each wire and its line feed
abbrev pub most_trace_bytes : ℕ
most_trace_bytes = (most_depth + 1) * (most_wires + 1)

-- of an accepted netlist, on lists of 600 records, no test before the answer's refuses
abbrev pub ReplayRoomSuffices : Type 0
ReplayRoomSuffices = (c : Netlist) → Accepted c → (k : ℕ) → k ≤ most_depth → replay_tests c most_wires most_wires k most_words most_trace_bytes ≡ Passed
