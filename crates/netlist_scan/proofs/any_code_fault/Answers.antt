-- `netlist_scan::any_code_fault` meets its contract: it is the definition's disjunction, list by list.

use Prim.Native.Nat.{ℕ, ◌+◌}
use mathlib.Core.Path.{◌≡◌}
use native.Mathlib.Omega.{arith}
use Rattle.model.specs.Netlist.{gate_wire}
use Rattle.netlist.specs.NetOf.{net_of, alone}
use Rattle.netlist.specs.Faults.{code_fault}
use Rattle.netlist_scan.specs.AnyLine.{any_latch, any_gate, any_above, any_in_second, any_in_record, any_line}
use Rattle.netlist_scan.proofs.any_code_fault.Goals as goal

pub any_latch-requires : goal.any_latch-requires
unfolding net_of
any_latch-requires c = c.requires.latches-fit

pub any_gate-requires : goal.any_gate-requires
unfolding net_of
any_gate-requires c = (omega (arith, c.first_gate_wire-first.ensures, c.requires), c.requires.gates-fit)

pub returns : goal.returns
unfolding net_of code_fault any_latch any_gate any_above any_in_second any_in_record any_line
returns c =
    let net = c.args.net in
    let own : (g : ℕ) → c.first_gate_wire-first.result.0 + g ≡ gate_wire (alone net) g = λ g. omega (arith, c.first_gate_wire-first.ensures) in
    rw (c.any_latch.ensures, c.any_gate.ensures, c.any_in_record.ensures, c.last_wire-last.ensures)
    (simp own)
