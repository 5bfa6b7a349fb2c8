-- A replay does not depend on what stands for an unclear variable (RULES Y13). Promised by `marrubigai_replay`; the proof is in
-- proofs/Settled.antt.
use Rattle.std.specs.Prelude.{ℕ, ◌≡◌, false, List, ℤ}
use Rattle.model.specs.Search.{any_below}
use Rattle.model.specs.Netlist.{Netlist}
use Rattle.model.specs.Acceptance.{Accepted}
use Rattle.answer_signs.specs.Signs.{assignment_of, unclear}
use Rattle.replay_frame.specs.Replay.{Said, feed_fault}

-- RULES Y13: "Whatever stands for an unclear variable, it does not change whether there is one". Two that say the same of every clear variable
abbrev pub FaultsSettled : Type 0
FaultsSettled = (c : Netlist) → Accepted c → (y z : Said) → ((v : ℕ) → y.unclear v ≡ z.unclear v)
    → ((v : ℕ) → y.unclear v ≡ false → y.value v ≡ z.value v) → (n : ℕ) → any_below n (feed_fault c y) ≡ any_below n (feed_fault c z)

-- what an answer's numbers ys say
abbrev pub said_by : List ℤ → Said
said_by ys = record { value = assignment_of ys; unclear = unclear ys }
