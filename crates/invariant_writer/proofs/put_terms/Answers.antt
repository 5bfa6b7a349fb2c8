-- `invariant_writer::put_terms` meets its contract.

use native.Mathlib.Omega.{arith}
use lib.ListN.{length-set}
use Rattle.invariant_writer.proofs.Five.{wrote-five, read_number}
use Rattle.invariant_writer.proofs.put_terms.Goals as goal

pub bounds-out-1 : goal.bounds-out-1
bounds-out-1 c =
    simp length-set (omega arith)

pub bounds-out-2 : goal.bounds-out-2
bounds-out-2 c =
    simp length-set (omega arith)

pub bounds-out-3 : goal.bounds-out-3
bounds-out-3 c =
    simp length-set (omega arith)

pub returns : goal.returns
returns c = (
  rw (
    c.number_of-4.ensures,
    c.number_of-3.ensures,
    c.number_of-2.ensures,
    c.number_of.ensures,
    read_number c.args.a c.requires.1,
    read_number c.args.b c.requires.2,
    read_number c.args.c c.requires.3,
    read_number c.args.d c.requires.4,
  ) (wrote-five _ _ _ _ _ _ c.requires.0),
  omega arith,
)
