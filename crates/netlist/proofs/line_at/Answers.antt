-- `netlist::line_at` meets its contract: the tests put the place between the first lines of two kinds.

use Prim.Native.Nat.{◌+◌, ◌-◌}
use mathlib.Core.Path.{sym}
use native.Mathlib.Omega.{arith}
use Rattle.netlist.specs.NetOf.{net_of, alone}
use Rattle.netlist.proofs.Places.{at-sizes, at-memory, at-latch, at-gate, at_address, at-data, at-second-address, at-second-enable, at-control, second-some}
use Rattle.netlist.proofs.line_at.Goals as goal

pub overflow_add-gate : goal.overflow_add-gate
unfolding net_of
overflow_add-gate c = omega arith

pub overflow_add-address : goal.overflow_add-address
unfolding net_of
overflow_add-address c = omega arith

pub overflow_add-data : goal.overflow_add-data
unfolding net_of
overflow_add-data c = omega arith

pub returns-then-place-lt2 : goal.returns-then-place-lt2
unfolding net_of
returns-then-place-lt2 c =
    sym (at-sizes (alone c.args.net) c.args.place (omega arith))

pub returns-then-place-lt3 : goal.returns-then-place-lt3
unfolding net_of
returns-then-place-lt3 c =
    sym (at-memory (alone c.args.net) c.args.place (omega arith))

pub returns-then-place-gate : goal.returns-then-place-gate
unfolding net_of
returns-then-place-gate c =
    sym (at-latch (alone c.args.net) c.args.place (c.args.place - 3) (omega arith) (omega arith))

pub returns-then-place-address : goal.returns-then-place-address
unfolding net_of
returns-then-place-address c =
    sym (at-gate (alone c.args.net) c.args.place (c.args.place - (3 + c.args.net.latches)) (omega arith) (omega arith))

pub returns-then-place-data : goal.returns-then-place-data
unfolding net_of
returns-then-place-data c =
    sym (at_address (alone c.args.net) c.args.place (c.args.place - (3 + c.args.net.latches + c.args.net.gates)) (omega arith) (omega arith))

pub overflow_add-second : goal.overflow_add-second
unfolding net_of
overflow_add-second c = omega arith

pub returns-then-place-second : goal.returns-then-place-second
unfolding net_of
returns-then-place-second c =
    sym (at-data (alone c.args.net) c.args.place (c.args.place - (3 + c.args.net.latches + c.args.net.gates + c.args.net.m)) (omega arith) (omega arith))

pub control_line-requires : goal.control_line-requires
control_line-requires c = c.requires

pub returns-then-control_line-place : goal.returns-then-control_line-place
unfolding net_of
returns-then-control_line-place c =
    sym (at-control (alone c.args.net) c.args.place (omega arith))

pub overflow_add-second-2 : goal.overflow_add-second-2
unfolding net_of
overflow_add-second-2 c = omega arith

pub returns-then-place-second-2 : goal.returns-then-place-second-2
unfolding net_of
returns-then-place-second-2 c =
    let second = 3 + c.args.net.latches + c.args.net.gates + c.args.net.m + c.args.net.n in
    sym (at-second-address (alone c.args.net) c.args.place (second-some (alone c.args.net) (omega arith)) (c.args.place - second) (omega arith) (omega arith))

pub returns : goal.returns
unfolding net_of
returns c =
    sym (at-second-enable (alone c.args.net) c.args.place (omega arith) (omega arith))
