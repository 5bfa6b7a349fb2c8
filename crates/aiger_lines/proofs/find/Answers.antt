-- `aiger_lines::find` meets its contract. The loop's invariant: the byte stands as far behind i as is still to be found.

use native.Mathlib.Omega.{arith}
use Rattle.aiger_lines.proofs.Steps.{span-here, span-later, span_none}
use Rattle.aiger_lines.proofs.find.Goals as goal

pub returns-then-text-i : goal.returns-then-text-i
returns-then-text-i c =
    omega (arith, c.loop-i.invariant, span-here c.args.end c.args.text.now c.loop-i.i (omega arith) (omega arith))

pub loop-i-preserved : goal.loop-i-preserved
loop-i-preserved c =
    omega (arith, c.loop-i.invariant, span-later c.args.end c.args.text.now c.loop-i.i (omega arith) c.if-text-i.false)

pub returns : goal.returns
returns c = omega (arith, c.loop-i.invariant, span_none c.args.end c.args.text.now c.loop-i.i (omega arith))
