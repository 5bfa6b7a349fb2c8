-- The literal that says where a word that a port reads comes from (RULES L15 and T56): S of a pair, Z of a closing, as `Traced` speaks of them.
-- Cited by `source_literal` and by the exported function.
use Rattle.std.specs.Prelude.{ℕ, ◌+◌, ◌*◌, false, not, ◌&&◌, leb, ltb}
use Rattle.refusals.specs.Verdict.{Verdict}
use Rattle.model.specs.Netlist.{Netlist, ports, port, last_wire}
use Rattle.model.specs.Clauses.{Literal, known}
use Rattle.model.specs.Variables.{pair_literals, closing_literals}
use Rattle.model.specs.Groups.{in_depth}
use Rattle.model.specs.Numbers.{literal_number}
use Rattle.model.specs.declared.Group.{Group}
use Rattle.model.specs.declared.Group.TheVariants.{Wires, Pair, Closing, Property}
use Rattle.refusals.specs.Tests.{refuse_if, ◌then◌}
use Rattle.refusals.specs.declared.Refusal.TheVariants.{NoSuchGroup, CodeOutside}
use Rattle.call_position.specs.Literals.{numbering_verdict, with_literal}
use Rattle.call_position.specs.declared.LiteralReply.{LiteralReply}

-- in the group's own clauses; the other groups have none
unfoldable pub source_in : Netlist → Group → Literal
source_in c (Wires i) = known false
source_in c (Pair j i p) = (pair_literals c (port c p) j i).S
source_in c (Closing i p) = (closing_literals c (port c p) i).Z
source_in c Property = known false

-- the port of a pair or a closing; 0, which is no port, of the others
unfoldable pub port_in : Group → ℕ
port_in (Wires i) = 0
port_in (Pair j i p) = p
port_in (Closing i p) = p
port_in Property = 0

-- RULES T56: "4, then 7, 8, then 5 where RE of the port is above 2V + 1"
unfoldable pub source_verdict : Netlist → ℕ → Group → Verdict
source_verdict c k g =
    numbering_verdict c k then refuse_if (not (in_depth (ports c) k g && leb 1 (port_in g))) NoSuchGroup 0
    then refuse_if (ltb (2 * last_wire c + 1) (port c (port_in g)).RE) CodeOutside 0

unfoldable pub source_sent : Netlist → ℕ → Group → LiteralReply
source_sent c k g = with_literal (source_verdict c k g) (literal_number (source_in c g))
