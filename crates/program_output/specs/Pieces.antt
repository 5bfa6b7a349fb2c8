-- The text of all groups of a depth, piece by piece in the order of the whole (RULES P2 and G15): what is still due. Cited by `print_groups`.
use Rattle.std.specs.Prelude.{ℕ, ◌≡◌, List, ◌++◌, take, Option}
use Rattle.model.specs.Netlist.{Netlist, ports}
use Rattle.model.specs.Groups.{group_order}
use Rattle.model.specs.Numbers.{numbers_of, joined}
use Rattle.model.specs.declared.Group.{Group}
use Rattle.group_order.specs.Next.{first_group}
use Rattle.dimacs.specs.Text.{clause_text}
use Rattle.program_output.specs.declared.Piece.{Piece}

-- `text` is still due: that of the last groups of the order of the whole, of which `next` is the first
pub record TextDue (c : Netlist) (k : ℕ) (next : Option Group) (text : List ℕ) : Type 0 where
  pub before : List Group
  pub groups : List Group
  pub order : group_order (ports c) k ≡ before ++ groups
  pub next-is : next ≡ first_group groups
  pub text-is : text ≡ clause_text (joined (numbers_of c k) groups)

-- of the text that was due, the piece is the beginning, at the start of a buffer, and the rest is due next
pub record Continues (c : Netlist) (k : ℕ) (text buffer : List ℕ) (piece : Piece) : Type 0 where
  pub rest : List ℕ
  pub text-is : text ≡ take piece.bytes buffer ++ rest
  pub rest-due : TextDue c k piece.next rest
