-- `group_pair::put_agreed` meets its contract: nothing of a given word, or each data bit.

use native.Mathlib.Omega.{arith}
use borrow.Author.Rules.{rules}
use Rattle.clause_variables.proofs.Start.{given_nothing, unknown-whole, room-unknown}
use Rattle.clause_writer.proofs.Wrote.{wrote_nothing}
use Rattle.group_pair.proofs.OfPair.{agreed-given, agreed-unknown}
use Rattle.group_pair.proofs.put_agreed.Goals as goal

pub returns-then-net-eq0 : goal.returns-then-net-eq0
returns-then-net-eq0 c =
    let given = c.if-net-eq0.true in
    rw (agreed-given _ _ _ _ given, given_nothing _ _ _ given) (wrote_nothing _, omega arith)

pub put_agreed_reads-requires : goal.put_agreed_reads-requires
put_agreed_reads-requires c = search (rules, room-unknown)

pub returns : goal.returns
returns c =
    let unknown = c.if-net-eq0.false in
    let w = c.put_agreed_reads.ensures in
    rw (agreed-unknown _ _ _ _ unknown, unknown-whole _ _ _ unknown) (w.0, omega (arith, w.1))
