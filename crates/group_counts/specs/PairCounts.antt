-- The clauses of a depth's pairs that are written, counted by one pair of each class (RULES G23, G34 and G37). Cited by every function of this
-- crate that counts frames or pairs.
use Rattle.std.specs.Prelude.{ℕ, zero, suc, ◌+◌, ◌-◌, ◌*◌, ◌/◌, cond, eqb, length}
use Rattle.model.specs.Netlist.{Netlist}
use Rattle.model.specs.Numbers.{numbers_of, clauses_in}
use Rattle.model.specs.declared.Group.{Group}
use Rattle.model.specs.declared.Group.TheVariants.{Pair}

-- the clauses of a group that are written. But for the property, they are the same at any depth
abbrev pub group_count : Netlist → Group → ℕ
group_count c g = length (clauses_in (numbers_of c 255 g))

-- those of a pair, or of a closing, over all ports
unfoldable pub ports_count : Netlist → (ℕ → Group) → ℕ
ports_count c f = group_count c (f 1) + cond (eqb c.second_port 0) 0 (group_count c (f 2))

-- Of frames 0 to k: pair (0, 1); each later frame's pairs with the frame before it and with frame 0; and all others.
unfoldable pub pair_counts : Netlist → ℕ → ℕ
pair_counts c zero = 0
pair_counts c (suc i) =
    ports_count c (Pair 0 1) + i * (ports_count c (Pair 1 2) + ports_count c (Pair 0 2)) + (i * (i + 1) / 2 - i) * ports_count c (Pair 1 3)
