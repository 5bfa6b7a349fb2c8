-- What stands first in a list of groups, and that the walk from group to group ends (RULES L14). Cited by `next_group` and by the text of a
-- depth.
use Rattle.std.specs.Prelude.{ℕ, ◌+◌, ◌-◌, ◌*◌, List, [], ◌∷◌, Option, Some, None}
use Rattle.model.specs.declared.Group.{Group}
use Rattle.model.specs.declared.Group.TheVariants.{Wires, Pair, Closing, Property}

abbrev pub first_group : List Group → Option Group
first_group [] = None
first_group (g ∷ gs) = Some g

-- at most so many groups follow at depth k, with so many ports: for each later frame those of frame k, those of its own frame, and the property
abbrev pub remaining_after : ℕ → ℕ → Group → ℕ
remaining_after ports k (Wires i) = (k - i) * (ports * (k + 1) + 1) + (ports * (i + 1) + 1)
remaining_after ports k (Pair j i p) = (k - i) * (ports * (k + 1) + 1) + (ports * (j + 1) + (ports - p) + 1)
remaining_after ports k (Closing i p) = (k - i) * (ports * (k + 1) + 1) + (ports - p + 1)
remaining_after ports k Property = 0

-- the same of what comes next, itself included
abbrev pub remaining_from : ℕ → ℕ → Option Group → ℕ
remaining_from ports k (Some g) = remaining_after ports k g + 1
remaining_from ports k None = 0
