-- `aiger_definitions::pass` meets its contract. The loop's invariant: the lines passed were looked at, and the next begins at `at`.

use Prim.Native.Nat.{◌<◌}
use native.Mathlib.Omega.{arith}
use lib.ListN.{length}
use Rattle.aiger_definitions.proofs.Passes.{pass-starts, pass-next}
use Rattle.aiger_definitions.proofs.pass.Goals as goal

pub loop-line-init : goal.loop-line-init
loop-line-init c = (
  pass-starts c.args.look c.args.text.now c.args.lines c.args.base 4294967296 c.requires.5 c.requires.1.some-line c.requires.2 c.requires.3,
  c.requires.0.behind,
  c.requires.0.counts-are,
)

pub loop-line-preserved : goal.loop-line-preserved
loop-line-preserved c =
    let read = c.next_variables-read.ensures in
    let after = c.mark.ensures in
    let some : 0 < length c.loop-line.marks = omega (arith, c.requires.4) in (
      rw (after, c.look_at-found.ensures, c.uses_of.ensures, read.variables-are)
          (pass-next c.args.look c.args.text.now c.args.lines c.args.base c.loop-line.invariant.0 some c.loop-line-test.true),
      read.behind,
      c.loop-line.invariant.2,
    )
