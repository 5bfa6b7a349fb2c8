-- `invariant_writer::put_clause` meets its contract.

use native.Mathlib.Omega.{arith}
use mathlib.Core.Path.{sym}
use borrow.Author.Tests.{eq-eqb, ne_eqb}
use Rattle.invariant_laws.specs.LawForms.{clause_of}
use Rattle.invariant_writer.proofs.Five.{small, opposite-most}
use Rattle.invariant_writer.proofs.put_clause.Goals as goal

pub put_terms-requires : goal.put_terms-requires
put_terms-requires c =
    let s = small c.args.law (sym c.if-fits.ensures) in
    (c.requires, s.guard-most, s.second-most, omega (arith, c.opposite.ensures, opposite-most c.args.law.left, s.left-most), omega (arith, s.right-most))

pub returns-then-direction-eq0 : goal.returns-then-direction-eq0
unfolding clause_of
returns-then-direction-eq0 c =
    rw (sym c.if-fits.ensures, eq-eqb c.args.direction 0 c.if-direction-eq0.true) (rw c.opposite.ensures at c.put_terms.ensures)

pub put_terms-requires-then-fits : goal.put_terms-requires-then-fits
put_terms-requires-then-fits c =
    let s = small c.args.law (sym c.if-fits.ensures) in
    (c.requires, s.guard-most, s.second-most, omega (arith, s.left-most), omega (arith, c.opposite-then-fits.ensures, opposite-most c.args.law.right, s.right-most))

pub returns-then-fits : goal.returns-then-fits
unfolding clause_of
returns-then-fits c =
    rw (sym c.if-fits.ensures, ne_eqb c.args.direction 0 c.if-direction-eq0.false) (rw c.opposite-then-fits.ensures at c.put_terms-then-fits.ensures)

pub returns : goal.returns
unfolding clause_of
returns c =
    rw (sym c.if-fits.ensures) c.put_terms-2.ensures
