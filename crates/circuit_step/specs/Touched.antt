-- Which words of the memory a run has read or written (RULES Y12). Cited by what a replay fills from an answer (replay_frame/specs/Replay).
use Rattle.std.specs.Prelude.{ℕ, Bool, ◌&&◌, ◌||◌, eqb}
use Rattle.model.specs.Search.{any_below}
use Rattle.model.specs.Netlist.{Netlist, port}
use Rattle.model.specs.Circuit.{Values, code_value, State, Feeds, address_of, run}

-- a frame with the values v reads or writes the word at x, by the first port: an unknown start has no other
unfoldable pub touches : Netlist → Values → ℕ → Bool
touches c v x = eqb x (address_of c (port c 1) v) && (code_value v (port c 1).RE || code_value v c.WE)

-- a frame before frame i of the run from state s does
unfoldable pub touched_before : Netlist → State → Feeds → ℕ → ℕ → Bool
touched_before c s f i x = any_below i (λ j. touches c (run c s f j) x)
