-- The bits of a whole state (RULES H3), numbered from 0: the latches, then the words held, then the memory word by word, bit 0 first. Cited by the terms of a
-- step and the test of the start.
use Rattle.std.specs.Prelude.{ℕ, ◌+◌, ◌*◌, ◌^◌}
use Rattle.model.specs.Netlist.{Netlist, read_bits}

unfoldable pub state_count : Netlist → ℕ
state_count c = c.latches + read_bits c + 2 ^ c.m * c.n

-- the number of a bit held, and of bit t of word x
unfoldable pub held_bit : Netlist → ℕ → ℕ
held_bit c r = c.latches + r

unfoldable pub word_bit : Netlist → ℕ → ℕ → ℕ
word_bit c x t = c.latches + read_bits c + (x * c.n + t)
