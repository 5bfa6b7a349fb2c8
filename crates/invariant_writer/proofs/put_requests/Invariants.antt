-- `invariant_writer::put_requests` meets its contract. The loop has written the clauses of the requests passed.

use Prim.Native.Nat.{◌/◌}
use lib.ListN.{length}
use Rattle.netlist.specs.NetOf.{net_of}
use Rattle.clause_writer.proofs.Turns.{Turns}
use Rattle.invariant_formula.specs.Formula.{requested_clause}
use Rattle.invariant_writer.proofs.put_requests.Given as goal

abbrev pub invariant-loop-x : goal.invariant-loop-x
invariant-loop-x l = Turns (length l.requests / 3) 5 (requested_clause (net_of l.net l.latches l.gates) l.invariant' l.requests) l.initial.out l.out l.x l.at
