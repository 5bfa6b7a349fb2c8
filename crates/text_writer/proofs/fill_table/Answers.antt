-- `text_writer::fill_table` meets its contract. The loop's invariant: the four digits of each number below x are written.

use mathlib.Core.Path.{refl}
use mathlib.Core.List.{List}
use Prim.Native.Nat.{ℕ}
use native.Mathlib.Numerals.{add-one}
use native.Mathlib.Omega.{arith}
use borrow.Rule.Slice.PartMut.{mid_len}
use lib.ListN.{length}
use Rattle.model.proofs.Wrote.{wrote_then}
use Rattle.text_writer.specs.Table.{four_digits, table_below}
use Rattle.text_writer.proofs.Table.{length-table_below}
use Rattle.text_writer.proofs.fill_table.Goals as goal

pub loop-x-init : goal.loop-x-init
unfolding table_below
loop-x-init c = record { counted = refl; leaves = refl }

pub put_four_digits-at-requires : goal.put_four_digits-at-requires
put_four_digits-at-requires c =
    let table : List ℕ = c.loop-x.table in
    (omega arith, rw (mid_len c.loop-x.at (length table) table (omega arith)) (omega (arith, length-table_below c.loop-x.x)))

pub loop-x-preserved : goal.loop-x-preserved
unfolding table_below
loop-x-preserved c =
    rw add-one
    (wrote_then (table_below c.loop-x.x) (four_digits c.loop-x.x) c.args.table.now c.loop-x.table c.put_four_digits-at.new.out c.loop-x.at c.put_four_digits-at.result c.loop-x.invariant c.put_four_digits-at.ensures)
