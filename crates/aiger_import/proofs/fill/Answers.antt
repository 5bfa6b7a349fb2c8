-- `aiger_import::fill` meets its contract: codes are looked up in the table of the text.

use mathlib.Core.Path.{refl}
use native.Mathlib.Omega.{arith}
use Rattle.aiger_lines.specs.Parts.{counts_in}
use Rattle.aiger_import.proofs.Sized.{sized, ahead}
use Rattle.aiger_import.proofs.Net.{lists-none, no-outputs, filled}
use Rattle.aiger_import.proofs.fill.Goals as goal

pub put_codes-requires : goal.put_codes-requires
put_codes-requires c =
    let pre = c.requires in
    let is = sized c.args.text.now c.args.sizes pre.1 c.args.header.counts pre.0.counts-are in
    let own = sized c.args.text.now c.args.sizes pre.1 (counts_in c.args.text.now) refl in (
      ahead c.args.text.now c.args.sizes pre.1 _ _ _ (omega arith) (omega (arith, is, own)) (omega (arith, is, own)) c.text_table-table.ensures.latches-behind,
      omega (arith, is),
      lists-none pre.2,
    )

pub put_codes-requires-2 : goal.put_codes-requires-2
put_codes-requires-2 c =
    let pre = c.requires in
    let is = sized c.args.text.now c.args.sizes pre.1 c.args.header.counts pre.0.counts-are in
    let own = sized c.args.text.now c.args.sizes pre.1 (counts_in c.args.text.now) refl in (
      ahead c.args.text.now c.args.sizes pre.1 _ _ _ (omega arith) (omega (arith, is, own)) (omega (arith, is, own)) c.text_table-table.ensures.gates-behind,
      omega (arith, is),
      lists-none pre.3,
    )

pub put_outputs-requires : goal.put_outputs-requires
put_outputs-requires c =
    let pre = c.requires in
    let is = sized c.args.text.now c.args.sizes pre.1 c.args.header.counts pre.0.counts-are in
    let none = no-outputs c.args.text.now c.args.sizes pre.1 in
    (is.m-most, is.n-most, is.second-most, none.0, none.1, none.2)

pub returns : goal.returns
returns c =
    let pre = c.requires in
    filled c.args.text.now c.args.sizes pre.1 c.text_table-table.result.entries c.text_table-table.result.latches c.text_table-table.result.gates c.text_table-table.ensures
    c.args.header.counts pre.0.counts-are _ _ c.put_codes.ensures c.put_codes-2.ensures _ c.put_outputs.ensures
