-- `text_writer::write_long_spaced` meets its contract: the leading digits, one or two, and then four and the byte into the rest.

use Prim.Native.Nat.{ℕ, ◌-◌, ◌*◌, ◌/◌, ◌%◌, ◌≤◌}
use mathlib.Core.Path.{◌≡◌}
use mathlib.Core.List.{List, [], ◌∷◌, ◌++◌}
use native.Mathlib.Omega.{arith}
use lib.ListN.{length}
use Rattle.decimal.specs.Digits.{digits, space}
use Rattle.model.specs.Wrote.{Wrote}
use Rattle.model.proofs.Wrote.{wrote_then}
use Rattle.text_writer.specs.Table.{four_digits}
use Rattle.text_writer.proofs.Table.{digits-behind-four}
use Rattle.text_writer.proofs.Writing.{front-room, behind-room}
use Rattle.text_writer.proofs.write_long_spaced.Goals as goal
use Rattle.text_writer.proofs.write_long_spaced.Goals.{After-write_leading-first, Start}

-- the two parts of the text
abbrev leading : (c : Start) → List ℕ
leading c = digits (c.args.x / 10000)

abbrev others : (c : Start) → List ℕ
others c = four_digits (c.args.x % 10000) ++ space ∷ []

room : (c : Start) → length (leading c ++ others c) ≤ length c.args.out.now
room c = rw (digits-behind-four c.args.x (space ∷ []) c.requires.1) at c.requires.3

first :
    (c : After-write_leading-first) →
    Wrote (digits (c.args.x / 10000)) c.args.out.now c.write_leading-first.new.out c.write_leading-first.result
first c = rw c.ten_thousands-high.ensures at c.write_leading-first.ensures

pub write_leading-first-requires : goal.write_leading-first-requires
write_leading-first-requires c =
    (c.requires.0, omega arith, rw c.ten_thousands-high.ensures (front-room (leading (goal.at.write_leading-first-requires c).Start) (others (goal.at.write_leading-first-requires c).Start) _ (room (goal.at.write_leading-first-requires c).Start)))

pub write_four_spaced-requires : goal.write_four_spaced-requires
write_four_spaced-requires c =
    (c.requires.0, omega arith, behind-room (leading (goal.at.write_four_spaced-requires c).Start) (others (goal.at.write_four_spaced-requires c).Start) c.args.out.now c.write_leading-first.new.out c.write_leading-first.result (first (goal.at.write_four_spaced-requires c).After-write_leading-first) (room (goal.at.write_four_spaced-requires c).Start))

pub returns : goal.returns
returns c =
    let x : ℕ = c.args.x in
    let low : x - c.ten_thousands-high.result * 10000 ≡ x % 10000 = omega (arith, c.ten_thousands-high.ensures) in
    rw (digits-behind-four x (space ∷ []) c.requires.1)
    (wrote_then (leading (goal.at.returns c).Start) (others (goal.at.returns c).Start) c.args.out.now c.write_leading-first.new.out c.write_four_spaced.new.out c.write_leading-first.result c.write_four_spaced.result
    (first (goal.at.returns c).After-write_leading-first) (rw low at c.write_four_spaced.ensures))
