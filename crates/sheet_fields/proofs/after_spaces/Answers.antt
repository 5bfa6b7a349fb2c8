-- `sheet_fields::after_spaces` meets its contract. The loop's invariant: what is behind the spaces from i on is what is behind those of
-- the whole.

use Prim.Native.Nat.{ℕ, ◌-◌}
use mathlib.Core.Path.{◌≡◌, sym, ◌∙◌}
use mathlib.Core.List.{List}
use native.Mathlib.Omega.{arith}
use lib.ListN.{length, take, drop, length-drop, drop_of_length-le}
use lib.Seq.{take_all}
use Rattle.sheet_fields.proofs.Fields.{drop_spaces-space, drop_spaces-other, drop_spaces-end}
use Rattle.sheet_fields.proofs.after_spaces.Goals as goal

-- a part that goes to the end is all that is left
to_end : (s : List ℕ) (i : ℕ) → take (length s - i) (drop i s) ≡ drop i s
to_end s i = take_all (length s - i) (drop i s) (rw length-drop (omega arith))

pub loop-i-preserved : goal.loop-i-preserved
loop-i-preserved c = sym (drop_spaces-space c.args.field.now c.loop-i.i (omega arith) (omega arith)) ∙ c.loop-i.invariant

pub returns-then-c-ne32 : goal.returns-then-c-ne32
returns-then-c-ne32 c =
    let field = c.args.field.now in
    to_end field c.loop-i.i ∙ sym (drop_spaces-other field c.loop-i.i (omega arith) c.if-c-ne32.true) ∙ c.loop-i.invariant

pub returns : goal.returns
returns c =
    let field = c.args.field.now in
    sym (drop_of_length-le field (omega arith)) ∙ sym (drop_spaces-end field c.loop-i.i (omega arith)) ∙ c.loop-i.invariant
