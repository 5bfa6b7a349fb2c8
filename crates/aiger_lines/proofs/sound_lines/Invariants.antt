-- `aiger_lines::sound_lines` meets its contract. The loop's invariant is `SoundSoFar`.

use Rattle.aiger_lines.proofs.Lines.{SoundSoFar}
use Rattle.aiger_lines.proofs.sound_lines.Given as goal

abbrev pub invariant-loop-line : goal.invariant-loop-line
invariant-loop-line l = SoundSoFar l.text l.line l.at
