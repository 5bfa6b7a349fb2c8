-- `dimacs::write_header` meets its contract: the words, the variables and the clauses, one behind the other.

use Prim.Native.Nat.{ℕ, ◌+◌, ◌-◌, ◌≤◌}
use mathlib.Core.List.{List, [], ◌∷◌, ◌++◌}
use borrow.Rule.Slice.PartMut.{put_mid}
use lib.ListN.{length}
use Rattle.decimal.specs.Digits.{digits, space, line_feed}
use Rattle.model.specs.Wrote.{Wrote}
use Rattle.model.proofs.Wrote.{wrote_then}
use Rattle.dimacs.specs.Text.{problem, header_text}
use Rattle.text_writer.proofs.Writing.{front-room, behind-room}
use Rattle.dimacs.proofs.write_header.Goals as goal
use Rattle.dimacs.proofs.write_header.Goals.{After-write_ended, Start}

-- the second and the third part of the header
abbrev variables : (c : Start) → List ℕ
variables c = digits c.args.variables ++ space ∷ []

abbrev clauses : (c : Start) → List ℕ
clauses c = digits c.args.clauses ++ line_feed ∷ []

abbrev old : (c : Start) → List ℕ
old c = c.args.out.now

-- there is room for all, and for the first two
room : (c : Start) → length (problem ++ variables c ++ clauses c) ≤ length (old c)
unfolding header_text
room c = c.requires

room-first : (c : Start) → length (problem ++ variables c) ≤ length (old c)
room-first c = front-room (problem ++ variables c) (clauses c) (length (old c)) (room c)

-- the first two are written
both :
    (c : After-write_ended) →
    Wrote (problem ++ (digits c.args.variables ++ space ∷ [])) c.args.out.now
    (put_mid c.write_word-before.result (length c.write_word-before.new.out - c.write_word-before.result) c.write_word-before.new.out c.write_ended.new.out) (c.write_word-before.result + c.write_ended.result)
both c =
    wrote_then problem (digits c.args.variables ++ space ∷ []) c.args.out.now c.write_word-before.new.out c.write_ended.new.out c.write_word-before.result c.write_ended.result c.write_word-before.ensures c.write_ended.ensures

pub write_word-before-requires : goal.write_word-before-requires
write_word-before-requires c =
    front-room problem (variables (goal.at.write_word-before-requires c).Start) (length (old (goal.at.write_word-before-requires c).Start)) (room-first (goal.at.write_word-before-requires c).Start)

pub write_ended-requires : goal.write_ended-requires
write_ended-requires c =
    behind-room problem (variables (goal.at.write_ended-requires c).Start) (old (goal.at.write_ended-requires c).Start) c.write_word-before.new.out c.write_word-before.result c.write_word-before.ensures (room-first (goal.at.write_ended-requires c).Start)

pub write_ended-requires-2 : goal.write_ended-requires-2
write_ended-requires-2 c =
    behind-room (problem ++ variables (goal.at.write_ended-requires-2 c).Start) (clauses (goal.at.write_ended-requires-2 c).Start) (old (goal.at.write_ended-requires-2 c).Start) _ _ (both (goal.at.write_ended-requires-2 c).After-write_ended) (room (goal.at.write_ended-requires-2 c).Start)

pub returns : goal.returns
unfolding header_text
returns c =
    wrote_then (problem ++ variables (goal.at.returns c).Start) (clauses (goal.at.returns c).Start) (old (goal.at.returns c).Start) _ c.write_ended-2.new.out _ c.write_ended-2.result (both (goal.at.returns c).After-write_ended) c.write_ended-2.ensures
