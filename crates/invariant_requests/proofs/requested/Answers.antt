-- `invariant_requests::requested` meets its contract: the family decides which law is worked out.

use mathlib.Core.Path.{◌∙◌}
use borrow.Author.Tests.{eq-eqb, ne_eqb}
use Prim.Native.Nat.{◌/◌, ◌%◌}
use Rattle.invariant_axioms.specs.Laws.{requested}
use Rattle.invariant_requests.proofs.Lists.{count-lists, circuit-lists, gate-lists, read-lists, word-lists, match-lists}
use Rattle.invariant_requests.proofs.requested.Goals as goal

pub returns-then-family-eq0 : goal.returns-then-family-eq0
unfolding requested
returns-then-family-eq0 c =
    c.circuit_law.ensures ∙ circuit-lists c.args.net c.args.latches.now c.args.gates.now (c.args.request / 2 % 4) c.args.i ∙ rw (eq-eqb (c.args.request / 8) 0 c.if-family-eq0.true)

pub returns-then-family-eq1 : goal.returns-then-family-eq1
unfolding requested
returns-then-family-eq1 c =
    c.gate_law.ensures ∙ gate-lists c.args.net c.args.latches.now c.args.gates.now (c.args.request / 2 % 4) c.args.i
    ∙ rw (
      ne_eqb (c.args.request / 8) 0 c.if-family-eq0.false,
      eq-eqb (c.args.request / 8) 1 c.if-family-eq1.true,
    )

pub returns-then-family-eq2 : goal.returns-then-family-eq2
unfolding requested
returns-then-family-eq2 c =
    c.read_law.ensures ∙ read-lists c.args.net c.args.latches.now c.args.gates.now (c.args.request / 2 % 4) c.args.i c.args.j
    ∙ rw (
      ne_eqb (c.args.request / 8) 0 c.if-family-eq0.false,
      ne_eqb (c.args.request / 8) 1 c.if-family-eq1.false,
      eq-eqb (c.args.request / 8) 2 c.if-family-eq2.true,
    )

pub returns-then-family-eq3 : goal.returns-then-family-eq3
unfolding requested
returns-then-family-eq3 c =
    c.word_law.ensures ∙ word-lists c.args.net c.args.latches.now c.args.gates.now (c.args.request / 2 % 4) c.args.i c.args.j
    ∙ rw (
      ne_eqb (c.args.request / 8) 0 c.if-family-eq0.false,
      ne_eqb (c.args.request / 8) 1 c.if-family-eq1.false,
      ne_eqb (c.args.request / 8) 2 c.if-family-eq2.false,
      eq-eqb (c.args.request / 8) 3 c.if-family-eq3.true,
    )

pub returns-then-family-eq4 : goal.returns-then-family-eq4
unfolding requested
returns-then-family-eq4 c =
    c.match_law.ensures ∙ match-lists c.args.net c.args.latches.now c.args.gates.now (c.args.request / 2 % 4) c.args.i c.args.j
    ∙ rw (
      ne_eqb (c.args.request / 8) 0 c.if-family-eq0.false,
      ne_eqb (c.args.request / 8) 1 c.if-family-eq1.false,
      ne_eqb (c.args.request / 8) 2 c.if-family-eq2.false,
      ne_eqb (c.args.request / 8) 3 c.if-family-eq3.false,
      eq-eqb (c.args.request / 8) 4 c.if-family-eq4.true,
    )

pub returns-then-family-eq5 : goal.returns-then-family-eq5
unfolding requested
returns-then-family-eq5 c =
    c.invariant_law.ensures
    ∙ rw (
      c.requires.1 ∙ count-lists c.args.net c.args.latches.now c.args.gates.now,
      ne_eqb (c.args.request / 8) 0 c.if-family-eq0.false,
      ne_eqb (c.args.request / 8) 1 c.if-family-eq1.false,
      ne_eqb (c.args.request / 8) 2 c.if-family-eq2.false,
      ne_eqb (c.args.request / 8) 3 c.if-family-eq3.false,
      ne_eqb (c.args.request / 8) 4 c.if-family-eq4.false,
      eq-eqb (c.args.request / 8) 5 c.if-family-eq5.true,
    )

pub returns : goal.returns
unfolding requested
returns c =
    c.no_law.ensures
    ∙ rw (
      ne_eqb (c.args.request / 8) 0 c.if-family-eq0.false,
      ne_eqb (c.args.request / 8) 1 c.if-family-eq1.false,
      ne_eqb (c.args.request / 8) 2 c.if-family-eq2.false,
      ne_eqb (c.args.request / 8) 3 c.if-family-eq3.false,
      ne_eqb (c.args.request / 8) 4 c.if-family-eq4.false,
      ne_eqb (c.args.request / 8) 5 c.if-family-eq5.false,
    )
