-- `program_import::line_count` meets its contract. The loop has counted the line feeds passed.

use Prim.Native.Nat.{ℕ}
use mathlib.Core.Path.{refl, ◌∙◌, ap}
use mathlib.Core.List.{List}
use native.Mathlib.Numerals.{add-one}
use native.Mathlib.Omega.{arith}
use lib.ListN.{length}
use lib.Seq.{take_all}
use Rattle.text_words.specs.Words.{parts_after, lines_of}
use Rattle.program_import.proofs.Lines.{lines_next}
use Rattle.program_import.proofs.line_count.Goals as goal

pub loop-x-init : goal.loop-x-init
unfolding parts_after
loop-x-init c = (refl, omega arith)

pub overflow_add-lines : goal.overflow_add-lines
overflow_add-lines c = omega (arith, c.loop-x.invariant.1, c.line_end-lines.ensures.1)

pub loop-x-preserved : goal.loop-x-preserved
loop-x-preserved c =
    let text : List ℕ = c.args.text.now in (
      rw (add-one, lines_next text c.loop-x.x-index (omega arith)) (omega (arith, c.line_end-lines.ensures.0, c.loop-x.invariant.0)),
      omega (arith, c.loop-x.invariant.1, c.line_end-lines.ensures.1),
    )

pub returns : goal.returns
returns c =
    let text : List ℕ = c.args.text.now in
    c.loop-x.invariant.0 ∙ ap (λ (s : List ℕ). length (lines_of s)) (take_all c.loop-x.x-index text (omega arith))
