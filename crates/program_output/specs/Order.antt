-- Where a group stands in the order of the whole (RULES G15). Asked by `print_group` and `print_groups`, and cited by no promise.
use Rattle.std.specs.Prelude.{ℕ, ◌≡◌, List, ◌∷◌, ◌++◌}
use Rattle.model.specs.Netlist.{Netlist, ports}
use Rattle.model.specs.Groups.{group_order}
use Rattle.model.specs.declared.Group.{Group}

-- the order of the whole has this group, between those before and those behind
pub record OrderHas (c : Netlist) (k : ℕ) (group : Group) : Type 0 where
  pub before : List Group
  pub behind : List Group
  pub order : group_order (ports c) k ≡ before ++ group ∷ behind
