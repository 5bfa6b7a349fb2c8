-- The largest memory and the longest trace suffice for every accepted netlist (specs/Room.antt). No contract cites this file.
use Prim.Native.Nat.{◌^◌, ◌≤◌}
use native.Mathlib.Omega.{arith}
use lib.Pow.{pow_mono}
use Rattle.model.specs.Netlist.{last_wire}
use Rattle.netlist_tests.proofs.Acceptance.{passes-accepted}
use Rattle.replay_call.proofs.ReplayCall.{trace-small, asked-passed, tests-passed}
use Rattle.program_replay.specs.Room.{most_words, most_trace_bytes, ReplayRoomSuffices}

pub room-suffices : ReplayRoomSuffices
room-suffices c accepted k d =
    let sizes = accepted.limits.sizes in
    let words : 2 ^ c.m ≤ 2 ^ 12 = pow_mono {i = c.m} {j = 12} sizes.m-most in
    let passed = (passes-accepted c 600 600).1 (accepted, omega (arith, sizes), omega (arith, sizes)) in
    tests-passed c 600 600 k most_words most_trace_bytes (asked-passed c 600 600 k most_words most_trace_bytes passed d) words (trace-small k (last_wire c) d sizes.wires-fit)
