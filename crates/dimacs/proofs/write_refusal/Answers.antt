-- `dimacs::write_refusal` meets its contract: the word, the two fields and the line feed, one behind the other.

use Prim.Native.Nat.{ℕ, ◌+◌, ◌-◌, ◌≤◌}
use mathlib.Core.List.{List, [], ◌∷◌, ◌++◌}
use native.Mathlib.Omega.{arith}
use borrow.Rule.Slice.PartMut.{put_mid}
use lib.ListN.{length}
use Rattle.decimal.specs.Digits.{line_feed, field}
use Rattle.model.specs.Wrote.{Wrote}
use Rattle.decimal.proofs.Digits.{length-field}
use Rattle.model.proofs.Wrote.{wrote_then}
use Rattle.dimacs.specs.Text.{refused, refusal_text}
use Rattle.text_writer.proofs.Writing.{front-room, behind-room}
use Rattle.dimacs.proofs.write_refusal.Goals as goal
use Rattle.dimacs.proofs.write_refusal.Goals.{After-put_field, After-put_field-2, Start}

-- the two fields, and what was there
abbrev number : (c : Start) → List ℕ
number c = field c.args.number

abbrev place : (c : Start) → List ℕ
place c = field c.args.place

abbrev old : (c : Start) → List ℕ
old c = c.args.out.now

-- there is room for all, for all but the line feed, and for the word and the number
room : (c : Start) → length (refused ++ number c ++ place c ++ line_feed ∷ []) ≤ length (old c)
unfolding refusal_text
room c = c.requires

room-place : (c : Start) → length (refused ++ number c ++ place c) ≤ length (old c)
room-place c = front-room (refused ++ number c ++ place c) (line_feed ∷ []) (length (old c)) (room c)

room-number : (c : Start) → length (refused ++ number c) ≤ length (old c)
room-number c = front-room (refused ++ number c) (place c) (length (old c)) (room-place c)

-- the word and the number are written
numbered :
    (c : After-put_field) →
    Wrote (refused ++ field c.args.number) c.args.out.now
    (put_mid c.write_word-before.result (length c.write_word-before.new.out - c.write_word-before.result) c.write_word-before.new.out c.put_field.new.out) (c.write_word-before.result + c.put_field.result)
numbered c =
    wrote_then refused (field c.args.number) c.args.out.now c.write_word-before.new.out c.put_field.new.out c.write_word-before.result c.put_field.result c.write_word-before.ensures c.put_field.ensures

-- and the place
placed :
    (c : After-put_field-2) →
    let mid : List ℕ = put_mid c.write_word-before.result (length c.write_word-before.new.out - c.write_word-before.result) c.write_word-before.new.out c.put_field.new.out in
    let i : ℕ = c.write_word-before.result + c.put_field.result in
    Wrote (refused ++ field c.args.number ++ field c.args.place) c.args.out.now (put_mid i (length mid - i) mid c.put_field-2.new.out) (i + c.put_field-2.result)
placed c =
    wrote_then (refused ++ field c.args.number) (field c.args.place) c.args.out.now _ c.put_field-2.new.out _ c.put_field-2.result (wrote_then refused (field c.args.number) c.args.out.now c.write_word-before.new.out c.put_field.new.out c.write_word-before.result c.put_field.result c.write_word-before.ensures c.put_field.ensures) c.put_field-2.ensures

pub write_word-before-requires : goal.write_word-before-requires
write_word-before-requires c =
    front-room refused (number (goal.at.write_word-before-requires c).Start) (length (old (goal.at.write_word-before-requires c).Start)) (room-number (goal.at.write_word-before-requires c).Start)

pub put_field-requires : goal.put_field-requires
put_field-requires c =
    omega (arith, length-field c.args.number c.ranges.number.fits, behind-room refused (number (goal.at.put_field-requires c).Start) (old (goal.at.put_field-requires c).Start) c.write_word-before.new.out c.write_word-before.result c.write_word-before.ensures (room-number (goal.at.put_field-requires c).Start))

pub put_field-requires-2 : goal.put_field-requires-2
put_field-requires-2 c =
    omega (arith, length-field c.args.place c.ranges.place.fits, behind-room (refused ++ number (goal.at.put_field-requires-2 c).Start) (place (goal.at.put_field-requires-2 c).Start) (old (goal.at.put_field-requires-2 c).Start) _ _ (numbered (goal.at.put_field-requires-2 c).After-put_field) (room-place (goal.at.put_field-requires-2 c).Start))

pub write_byte-requires : goal.write_byte-requires
write_byte-requires c =
    behind-room (refused ++ number (goal.at.write_byte-requires c).Start ++ place (goal.at.write_byte-requires c).Start) (line_feed ∷ []) (old (goal.at.write_byte-requires c).Start) _ _ (placed (goal.at.write_byte-requires c).After-put_field-2) (room (goal.at.write_byte-requires c).Start)

pub returns : goal.returns
unfolding refusal_text
returns c =
    wrote_then (refused ++ number (goal.at.returns c).Start ++ place (goal.at.returns c).Start) (line_feed ∷ []) (old (goal.at.returns c).Start) _ c.write_byte.new.out _ c.write_byte.result (placed (goal.at.returns c).After-put_field-2) c.write_byte.ensures
