-- `text_writer::write_signed_spaced` meets its contract: a minus, and then the digits, behind it or over it.

use Prim.Native.Nat.{ℕ, ◌+◌, ◌≤◌}
use mathlib.Core.Path.{◌≡◌, ap, ◌∙◌}
use mathlib.Core.List.{List, [], ◌∷◌, ◌++◌}
use native.Mathlib.Omega.{arith}
use borrow.Rule.Slice.PartMut.{mid_len}
use lib.IntN.{ℤ}
use lib.ListN.{length, length-append, set, length-set}
use Rattle.decimal.specs.Digits.{digits, space, minus_sign, signed_digits}
use Rattle.decimal.proofs.Signed.{read_back}
use Rattle.text_writer.specs.Signed.{parts_of}
use Rattle.text_writer.proofs.Signed.{length-parts, wrote-signed}
use Rattle.text_writer.proofs.write_signed_spaced.Goals as goal
use Rattle.text_writer.proofs.write_signed_spaced.Goals.{After-parts_of-parts}

-- the number's parts, and that there is room for them
parts_are : (c : After-parts_of-parts) → c.parts_of-parts.result ≡ parts_of c.args.z
parts_are c = c.parts_of-parts.ensures ∙ ap parts_of (read_back c.args.z c.ranges.z)

room :
    (c : After-parts_of-parts) →
    c.args.at + c.parts_of-parts.result.sign + length (digits c.parts_of-parts.result.value ++ space ∷ [])
    ≤ length c.args.out.now
room c =
    let z : ℤ = c.args.z in
    rw (parts_are c, length-append (digits (parts_of z).value) (space ∷ []))
    (omega (arith, c.requires.1, length-parts z, length-append (signed_digits z) (space ∷ [])))

pub bounds-out-at : goal.bounds-out-at
bounds-out-at c = omega (arith, room c, length-append (digits c.parts_of-parts.result.value) (space ∷ []))

pub write_spaced-requires : goal.write_spaced-requires
write_spaced-requires c =
    let signed : List ℕ = set c.args.out.now c.args.at minus_sign in
    (c.requires.0, rw (mid_len (c.args.at + c.parts_of-parts.result.sign) (length signed) signed (omega arith), length-set) (omega (arith, room (goal.at.write_spaced-requires c).After-parts_of-parts)))

pub returns : goal.returns
returns c =
    rw (parts_are (goal.at.returns c).After-parts_of-parts)
    (wrote-signed c.args.z (space ∷ []) c.args.out.now c.write_spaced.new.out c.args.at c.write_spaced.result (bounds-out-at (goal.at.returns c).After-parts_of-parts) (rw (parts_are (goal.at.returns c).After-parts_of-parts) at c.write_spaced.ensures))
