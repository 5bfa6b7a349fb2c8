-- `netlist::memory_fault` meets its contract: it is the definition's disjunction, whose first part is decided first.

use Prim.Native.Nat.{◌+◌, ◌≤◌}
use mathlib.Core.Path.{sym, ◌∙◌}
use native.Mathlib.Omega.{arith}
use Rattle.netlist.specs.NetOf.{net_of, alone}
use Rattle.netlist.specs.Faults.{size_fault}
use Rattle.netlist.proofs.Faults.{at_most, memory-rest}
use Rattle.netlist.proofs.memory_fault.Goals as goal

pub is_kind_outside-requires : goal.is_kind_outside-requires
is_kind_outside-requires c = tt

pub returns-then-is_kind_outside : goal.returns-then-is_kind_outside
unfolding net_of size_fault
returns-then-is_kind_outside c = rw (sym c.is_kind_outside.ensures ∙ c.if-is_kind_outside.true)

pub is_outside-requires : goal.is_outside-requires
is_outside-requires c = tt

pub is_outside-requires-2 : goal.is_outside-requires-2
is_outside-requires-2 c = tt

pub is_start_outside-requires : goal.is_start_outside-requires
is_start_outside-requires c = tt

pub is_last_wire_outside-requires : goal.is_last_wire_outside-requires
is_last_wire_outside-requires c =
    let a = c.args.net in
    let kind : a.unknown_start + a.second_port ≤ 1 =
    (at_most 1 (a.unknown_start + a.second_port)).0 (sym c.is_kind_outside.ensures ∙ c.if-is_kind_outside.false) in
    omega arith

pub returns : goal.returns
unfolding net_of
returns c =
    rw (
      c.is_outside.ensures,
      c.is_outside-2.ensures,
      c.is_start_outside.ensures,
      c.is_last_wire_outside.ensures,
    )
    (sym (memory-rest (alone c.args.net) (sym c.is_kind_outside.ensures ∙ c.if-is_kind_outside.false)))
