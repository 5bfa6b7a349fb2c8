-- `group_closing::put_initial` meets its contract: each data bit of a given word, or nothing.

use native.Mathlib.Omega.{arith}
use borrow.Author.Rules.{rules}
use Rattle.clause_variables.proofs.Start.{given-whole, unknown-nothing, room-given}
use Rattle.clause_writer.proofs.Wrote.{wrote_nothing}
use Rattle.group_closing.proofs.OfClosing.{initial-given, initial-unknown}
use Rattle.group_closing.proofs.put_initial.Goals as goal

pub put_initial_reads-requires : goal.put_initial_reads-requires
put_initial_reads-requires c = search (rules, room-given)

pub returns-then-net-eq0 : goal.returns-then-net-eq0
returns-then-net-eq0 c =
    let given = c.if-net-eq0.true in
    let w = c.put_initial_reads.ensures in
    rw (initial-given _ _ _ _ given, given-whole _ _ _ given) (w.0, omega (arith, w.1))

pub returns : goal.returns
returns c =
    let unknown = c.if-net-eq0.false in
    rw (initial-unknown _ _ _ _ unknown, unknown-nothing _ _ _ unknown) (wrote_nothing _, omega arith)
