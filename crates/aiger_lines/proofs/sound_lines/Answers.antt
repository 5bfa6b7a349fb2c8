-- `aiger_lines::sound_lines` meets its contract. The loop's invariant is `SoundSoFar`.

use mathlib.Core.Path.{◌≡◌, sym, ap, ◌∙◌}
use native.Mathlib.Omega.{arith}
use Rattle.aiger_lines.specs.Parts.{lines_due}
use Rattle.aiger_lines.proofs.Lines.{read-holds, header-malformed, line-malformed, none-sound, sound-starts, sound-next, sound-stops}
use Rattle.aiger_lines.proofs.sound_lines.Goals as goal

pub is_malformed-requires : goal.is_malformed-requires
is_malformed-requires c =
    let text = c.args.text.now in
    read-holds text 0 c.first_line-first.result.numbers c.first_line-first.result.next c.first_line-first.ensures

pub returns-then-is_malformed : goal.returns-then-is_malformed
returns-then-is_malformed c =
    let text = c.args.text.now in
    let test = header-malformed text c.args.header.counts c.requires.counts-are c.first_line-first.result.numbers c.first_line-first.result.next c.first_line-first.ensures in
    none-sound text (test ∙ sym c.is_malformed.ensures ∙ c.if-is_malformed.true)

pub loop-line-init : goal.loop-line-init
loop-line-init c =
    let text = c.args.text.now in
    let test = header-malformed text c.args.header.counts c.requires.counts-are c.first_line-first.result.numbers c.first_line-first.result.next c.first_line-first.ensures in
    sound-starts text c.args.header.next c.requires.behind (test ∙ sym c.is_malformed.ensures ∙ c.if-is_malformed.false)

pub is_malformed-requires-in-loop-line : goal.is_malformed-requires-in-loop-line
is_malformed-requires-in-loop-line c =
    let text = c.args.text.now in
    read-holds text c.loop-line.line c.next_line-read.result.numbers c.next_line-read.result.next c.next_line-read.ensures

pub returns-then-is_malformed-2 : goal.returns-then-is_malformed-2
returns-then-is_malformed-2 c =
    let text = c.args.text.now in
    let test =
    line-malformed text c.args.header.counts c.requires.counts-are c.loop-line.line c.next_line-read.result.numbers c.next_line-read.result.next c.next_line-read.ensures
    c.part_at.result c.part_at.ensures in
    sound-stops text c.loop-line.line c.loop-line.at c.loop-line.invariant (test ∙ sym c.is_malformed-in-loop-line.ensures ∙ c.if-is_malformed-2.true)

pub loop-line-preserved : goal.loop-line-preserved
loop-line-preserved c =
    let text = c.args.text.now in
    let test =
    line-malformed text c.args.header.counts c.requires.counts-are c.loop-line.line c.next_line-read.result.numbers c.next_line-read.result.next c.next_line-read.ensures
    c.part_at.result c.part_at.ensures in
    let due : c.lines_due-due.result ≡ lines_due c.args.header.counts = c.lines_due-due.ensures in
    sound-next text c.loop-line.line c.loop-line.at c.loop-line.invariant c.next_line-read.result.next (omega (arith, ap lines_due c.requires.counts-are)) c.next_line-read.ensures.behind
    (test ∙ sym c.is_malformed-in-loop-line.ensures ∙ c.if-is_malformed-2.false)
