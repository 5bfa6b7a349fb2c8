-- What the numbers of an exported function stand for: a group for four numbers, and the fields of a reply (RULES L5 and L12 to L14). Cited by
-- the functions of `call_replies` and by the exported functions.
use Rattle.std.specs.Prelude.{ℕ, cond, ◌&&◌, List, [], eqb, leb, Option, Some, None}
use Rattle.refusals.specs.Verdict.{Verdict}
use Rattle.model.specs.Groups.{group_order}
use Rattle.model.specs.declared.Group.{Group}
use Rattle.model.specs.declared.Group.TheVariants.{Wires, Pair, Closing, Property}
use Rattle.refusals.specs.Refusal.{reply_of}
use Rattle.netlist.specs.declared.Netlist.{Netlist}
use Rattle.call_replies.specs.declared.GroupReply.{GroupReply}
use Rattle.call_replies.specs.declared.VersionReply.{VersionReply}
use Rattle.call_replies.specs.declared.SheetReply.{SheetReply}

-- By kind, j, i and port. Another kind than 0 to 3 is no group: a pair of a frame with itself is none at any depth, so it gets refusal 8.
unfoldable pub group_of : ℕ → ℕ → ℕ → ℕ → Group
group_of kind j i p =
    cond (eqb kind 0) (Wires i) (cond (eqb kind 1) (Pair j i p) (cond (eqb kind 2) (Closing i p) (cond (eqb kind 3) Property (Pair i i p))))

-- the order of the groups with so many ports: no record has another number of them than 1 or 2 (RULES L14)
unfoldable pub order_for : ℕ → ℕ → List Group
order_for ports k = cond (leb 1 ports && leb ports 2) (group_order ports k) []

-- the four numbers of a group, and of what comes next in the order
unfoldable pub group_numbers : Group → GroupReply
group_numbers (Wires i) = record { end = 0; kind = 0; j = 0; i = i; port = 0 }
group_numbers (Pair j i p) = record { end = 0; kind = 1; j = j; i = i; port = p }
group_numbers (Closing i p) = record { end = 0; kind = 2; j = 0; i = i; port = p }
group_numbers Property = record { end = 0; kind = 3; j = 0; i = 0; port = 0 }

unfoldable pub next_numbers : Option Group → GroupReply
next_numbers (Some g) = group_numbers g
next_numbers None = record { end = 1; kind = 0; j = 0; i = 0; port = 0 }

-- the version of the header (RULES L12)
unfoldable pub header_version : VersionReply
header_version = record { major = 0; minor = 11 }

unfoldable pub sheet_numbers : Verdict → Netlist → SheetReply
sheet_numbers verdict net = record { number = (reply_of verdict).number; place = (reply_of verdict).place; net = net }
