-- `aiger_import::text_table` meets its contract: each part of the table is filled from lines that are due, behind those of the part before.

use Prim.Native.Nat.{ℕ, ◌+◌, ◌*◌}
use mathlib.Core.Path.{◌≡◌, refl, subst}
use native.Mathlib.Omega.{arith}
use lib.ListN.{replicate}
use Rattle.aiger_lines.specs.Parts.{counts_in}
use Rattle.aiger_lines.specs.Steps.{Behind}
use Rattle.aiger_import.proofs.Sized.{sized, ahead}
use Rattle.aiger_import.proofs.Table.{table-for}
use Rattle.aiger_import.proofs.text_table.Goals as goal

pub overflow_add-read_bits : goal.overflow_add-read_bits
overflow_add-read_bits c =
    let is = sized c.args.text.now c.args.sizes c.requires.1 c.args.header.counts c.requires.0.counts-are in
    omega (arith, is)

pub overflow_mul-read_bits : goal.overflow_mul-read_bits
overflow_mul-read_bits c =
    let is = sized c.args.text.now c.args.sizes c.requires.1 c.args.header.counts c.requires.0.counts-are in
    omega (arith, is)

pub put_firsts-reads-requires : goal.put_firsts-reads-requires
put_firsts-reads-requires c =
    let pre = c.requires in
    let is = sized c.args.text.now c.args.sizes pre.1 c.args.header.counts pre.0.counts-are in
    let own = sized c.args.text.now c.args.sizes pre.1 (counts_in c.args.text.now) refl in
    (ahead c.args.text.now c.args.sizes pre.1 _ _ _ (omega arith) (omega (arith, is, own)) (omega (arith, is)) c.requires.0.behind, omega (arith, is), refl)

pub put_firsts-latches-requires : goal.put_firsts-latches-requires
put_firsts-latches-requires c =
    let pre = c.requires in
    let is = sized c.args.text.now c.args.sizes pre.1 c.args.header.counts pre.0.counts-are in
    let own = sized c.args.text.now c.args.sizes pre.1 (counts_in c.args.text.now) refl in
    (ahead c.args.text.now c.args.sizes pre.1 _ _ _ (omega arith) (omega (arith, is, own)) (omega (arith, is)) c.put_firsts-reads.ensures.next, omega (arith, is), c.put_firsts-reads.ensures.table.full)

pub put_firsts-outputs-requires : goal.put_firsts-outputs-requires
put_firsts-outputs-requires c =
    let pre = c.requires in
    let is = sized c.args.text.now c.args.sizes pre.1 c.args.header.counts pre.0.counts-are in
    let own = sized c.args.text.now c.args.sizes pre.1 (counts_in c.args.text.now) refl in
    (ahead c.args.text.now c.args.sizes pre.1 _ _ _ (omega arith) (omega (arith, is, own)) (omega (arith, is)) c.put_firsts-latches.ensures.next, omega (arith, is), c.put_firsts-latches.ensures.table.full)

pub put_firsts-gates-requires : goal.put_firsts-gates-requires
put_firsts-gates-requires c =
    let pre = c.requires in
    let is = sized c.args.text.now c.args.sizes pre.1 c.args.header.counts pre.0.counts-are in
    let own = sized c.args.text.now c.args.sizes pre.1 (counts_in c.args.text.now) refl in
    (ahead c.args.text.now c.args.sizes pre.1 _ _ _ (omega arith) (omega (arith, is, own)) (omega (arith, is)) c.put_firsts-outputs.ensures.next, omega (arith, is), c.put_firsts-outputs.ensures.table.full)

pub put_firsts-requires : goal.put_firsts-requires
put_firsts-requires c =
    let pre = c.requires in
    let is = sized c.args.text.now c.args.sizes pre.1 c.args.header.counts pre.0.counts-are in
    let own = sized c.args.text.now c.args.sizes pre.1 (counts_in c.args.text.now) refl in
    (ahead c.args.text.now c.args.sizes pre.1 _ _ _ (omega arith) (omega (arith, is, own)) (omega (arith, is)) c.put_firsts-gates.ensures.next, omega (arith, is), c.put_firsts-gates.ensures.table.full)

pub returns : goal.returns
returns c =
    let pre = c.requires in
    let is = sized c.args.text.now c.args.sizes pre.1 c.args.header.counts pre.0.counts-are in
    let reads : 1 + c.args.sizes.inputs + (c.args.sizes.second_port + 1) * c.args.sizes.n ≡ 1 + c.args.header.counts.inputs = omega (arith, is) in
    table-for c.args.text.now c.args.sizes pre.1 (replicate 661 0) c.put_firsts-reads.new.table c.put_firsts-latches.new.table c.put_firsts-outputs.new.table c.put_firsts-gates.new.table c.put_firsts.new.table
    c.args.header.counts pre.0.counts-are
    (record {
      none = refl;
      inputs = c.put_firsts-reads.ensures.table;
      reads = c.put_firsts-latches.ensures.table;
      latches = c.put_firsts-outputs.ensures.table;
      outputs = c.put_firsts-gates.ensures.table;
      gates = c.put_firsts.ensures.table;
    }) _ _ (subst (λ (p : ℕ). Behind c.args.text.now p c.put_firsts-latches.result) reads c.put_firsts-latches.ensures.next) c.put_firsts-gates.ensures.next
