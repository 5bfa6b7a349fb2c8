-- `sheet_steps::store` meets its contract: each arm knows its line.

use Prim.Native.Nat.{◌<◌}
use mathlib.Core.Path.{◌≡◌, subst}
use Rattle.netlist.specs.declared.Line.{Line}
use Rattle.sheet_steps.specs.LineIndex.{line_index, room_for}
use Rattle.sheet_steps.specs.Steps.{stored}
use Rattle.sheet_steps.proofs.Steps.{holds-latch, holds-gate}
use Rattle.sheet_steps.proofs.store.Goals as goal

-- the number of a line whose kind is known is within its room
within : {due known : Line} → due ≡ known → line_index due < room_for due → line_index known < room_for known
within e h = subst (λ (x : Line). line_index x < room_for x) e h

pub put_numbers-requires : goal.put_numbers-requires
put_numbers-requires c = within c.in-Latch.is c.requires.1

pub put_numbers-requires-in-Gate : goal.put_numbers-requires-in-Gate
put_numbers-requires-in-Gate c = within c.in-Gate.is c.requires.1

pub store_address-requires : goal.store_address-requires
store_address-requires c = within c.in-Address.is c.requires.1

pub store_data-requires : goal.store_data-requires
store_data-requires c = within c.in-WriteData.is c.requires.1

pub store_second_address-requires : goal.store_second_address-requires
store_second_address-requires c = within c.in-SecondAddress.is c.requires.1

pub returns-in-Sizes : goal.returns-in-Sizes
unfolding stored
returns-in-Sizes c =
    rw c.in-Sizes.is (c.store_sizes.ensures c.args.latches.now c.args.gates.now c.requires.0)

pub returns-in-Memory : goal.returns-in-Memory
returns-in-Memory c =
    rw c.in-Memory.is (c.store_memory.ensures c.args.latches.now c.args.gates.now c.requires.0)

pub returns-in-Latch : goal.returns-in-Latch
returns-in-Latch c =
    rw (c.in-Latch.is, c.put_numbers.ensures)
    (holds-latch c.args.net c.args.latches.now c.args.gates.now c.requires.0 c.args.kind c.args.first c.args.second c.args.third c.args.empty c.in-Latch.l (within c.in-Latch.is c.requires.1))

pub returns-in-Gate : goal.returns-in-Gate
returns-in-Gate c =
    rw (c.in-Gate.is, c.put_numbers-in-Gate.ensures)
    (holds-gate c.args.net c.args.latches.now c.args.gates.now c.requires.0 c.args.kind c.args.first c.args.second c.args.third c.args.empty c.in-Gate.g (within c.in-Gate.is c.requires.1))

pub returns-in-Address : goal.returns-in-Address
unfolding stored
returns-in-Address c =
    rw c.in-Address.is (c.store_address.ensures c.args.latches.now c.args.gates.now c.requires.0)

pub returns-in-WriteData : goal.returns-in-WriteData
unfolding stored
returns-in-WriteData c =
    rw c.in-WriteData.is (c.store_data.ensures c.args.latches.now c.args.gates.now c.requires.0)

pub returns-in-SecondAddress : goal.returns-in-SecondAddress
unfolding stored
returns-in-SecondAddress c =
    rw c.in-SecondAddress.is (c.store_second_address.ensures c.args.latches.now c.args.gates.now c.requires.0)

pub returns-in-SecondEnable : goal.returns-in-SecondEnable
unfolding stored
returns-in-SecondEnable c =
    rw c.in-SecondEnable.is (c.store_second_enable.ensures c.args.latches.now c.args.gates.now c.requires.0)

pub returns-in-Control : goal.returns-in-Control
unfolding stored
returns-in-Control c =
    rw c.in-Control.is (c.store_control.ensures c.args.latches.now c.args.gates.now c.requires.0)
