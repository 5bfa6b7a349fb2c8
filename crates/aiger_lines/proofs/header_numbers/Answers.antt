-- `aiger_lines::header_numbers` meets its contract: the word before the first space, then the rest.

use mathlib.Core.Path.{◌≡◌, sym, ap, ◌∙◌}
use mathlib.Core.List.{List, []}
use Rattle.aiger_lines.specs.Parts.{aag, numbers_behind}
use Prim.Native.Nat.{ℕ, ◌+◌, ◌-◌}
use native.Mathlib.Omega.{arith}
use lib.ListN.{length, drop, length-drop}
use lib.Seq.{take_all}
use Rattle.text_words.specs.Words.{words_of}
use Rattle.aiger_lines.specs.Numbers.{word_numbers}
use Rattle.aiger_lines.specs.Steps.{first_five}
use Rattle.aiger_lines.proofs.Lines.{header_read, header-other, header-alone}
use Rattle.aiger_lines.proofs.header_numbers.Goals as goal
use Rattle.aiger_lines.proofs.header_numbers.Goals.{else-end-line-via-then-end-line+else-is_aag, else-end-line-via-else-end-line}

pub returns-then-is_aag : goal.returns-then-is_aag
returns-then-is_aag c =
    let line = c.args.line.now in
    c.read_numbers.ensures.numbers
    ∙ ap (λ (t : List ℕ). first_five (word_numbers (words_of t)))
    (take_all (length line - (c.find-end.result + 1)) (drop (c.find-end.result + 1) line) (rw length-drop (omega arith)))
    ∙ ap first_five
    (sym (header_read line c.find-end.result c.find-end.ensures (omega arith) (sym c.is_aag.ensures ∙ c.if-is_aag.true)))

pub returns : goal.returns
returns c =
    let line = c.args.line.now in
    let none : numbers_behind aag (words_of line) ≡ [] =
    elim c.else-end-line.branch [
      | else-end-line-via-then-end-line+else-is_aag w ↦ header-other line c.find-end.result c.find-end.ensures (omega arith) (sym w.is_aag.ensures ∙ w.if-is_aag.false)
      | else-end-line-via-else-end-line w ↦ header-alone line c.find-end.result c.find-end.ensures (omega arith)
    ] in
    c.no_numbers.ensures ∙ ap first_five (sym none)
