-- The test of an invariant at the start (RULES H3): each of its numbers is of a bit of the state, and each of its clauses has one that is true in every state
-- that a run may begin in. None of this is believed. Cited by what tests it.
use Rattle.std.specs.Prelude.{ℕ, suc, ◌+◌, ◌-◌, ◌%◌, Bool, true, false, cond, ◌&&◌, List, eqb, ltb, ℤ, pos, negsuc}
use Rattle.std.specs.Bool.{beq}
use Rattle.model.specs.Bits.{bit}
use Rattle.model.specs.Netlist.{Netlist, Start, given, unknown, start, read_bits}
use Rattle.refutation_hints.specs.Propagation.{every, within}
use Rattle.invariant_terms.specs.StateBits.{state_count}
use Rattle.invariant_terms.specs.Walk.{holds_in}

-- whether bit t of every word is this one at the start
unfoldable pub word_starts : Start → ℕ → Bool → Bool
word_starts (given word) t value = beq (bit word t) value
word_starts unknown t value = false

-- whether bit j of a state is this one at the start: a bit held may be any
unfoldable pub bit_starts : Netlist → ℕ → Bool → Bool
bit_starts c j value =
    cond (ltb j c.latches) (beq (eqb (c.reset j) 1) value)
    (cond (ltb j (c.latches + read_bits c)) false (word_starts (start c) ((j - c.latches - read_bits c) % c.n) value))

unfoldable pub number_starts : Netlist → ℤ → Bool
number_starts c (pos v) = bit_starts c (v - 1) true
number_starts c (negsuc v) = bit_starts c (suc v - 1) false

unfoldable pub holds_at_start : Netlist → List ℤ → Bool
holds_at_start c zs = every (within (suc (state_count c))) zs && holds_in (number_starts c) false zs
