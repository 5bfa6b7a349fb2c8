-- `sheet_lines::line_with` meets its contract: its four tests in turn.

use mathlib.Core.Path.{◌≡◌, refl, sym, ◌∙◌}
use mathlib.Core.Bool.{true, false}
use native.Mathlib.Omega.{arith}
use borrow.Author.Tests.{lt-ltb, le-ltb}
use Rattle.sheet_lines.specs.Letters.{row_of, is_known, content_of}
use Rattle.sheet_lines.specs.Lines.{as_wanted}
use Rattle.sheet_lines.proofs.Lines.{line_with-tests}
use Rattle.sheet_lines.proofs.line_with.Goals as goal
use Rattle.sheet_lines.proofs.line_with.Goals.{Else-not-is_wanted, Else-not-is_wanted-2, Else-not-is_wanted-3, Else-row_of-ge10}

-- what each test that is passed says
known : (c : Else-row_of-ge10) → is_known c.args.kind ≡ true
known c = lt-ltb (row_of c.args.kind) 10 (omega arith)

first-wanted :
    (c : Else-not-is_wanted) →
    as_wanted (content_of c.args.kind 0) c.args.first ≡ true
first-wanted c = sym c.is_wanted.ensures ∙ c.if-not-is_wanted.false

second-wanted :
    (c : Else-not-is_wanted-2) →
    as_wanted (content_of c.args.kind 1) c.args.second ≡ true
second-wanted c = sym c.is_wanted-2.ensures ∙ c.if-not-is_wanted-2.false

third-wanted :
    (c : Else-not-is_wanted-3) →
    as_wanted (content_of c.args.kind 2) c.args.third ≡ true
third-wanted c = sym c.is_wanted-3.ensures ∙ c.if-not-is_wanted-3.false

pub returns-then-row_of-ge10 : goal.returns-then-row_of-ge10
returns-then-row_of-ge10 c =
    let unknown = le-ltb (row_of c.args.kind) 10 (omega (arith, c.row_of.ensures)) in
    sym (line_with-tests c.args.kind c.args.first c.args.second c.args.third false _ _ _ unknown refl refl refl)

pub returns-then-not-is_wanted : goal.returns-then-not-is_wanted
returns-then-not-is_wanted c =
    let other = sym c.is_wanted.ensures ∙ c.if-not-is_wanted.true in
    sym (line_with-tests c.args.kind c.args.first c.args.second c.args.third true false _ _ (known (goal.at.returns-then-not-is_wanted c).Else-row_of-ge10) other refl refl)

pub returns-then-not-is_wanted-2 : goal.returns-then-not-is_wanted-2
returns-then-not-is_wanted-2 c =
    let other = sym c.is_wanted-2.ensures ∙ c.if-not-is_wanted-2.true in
    sym
    (line_with-tests c.args.kind c.args.first c.args.second c.args.third true true false _ (known (goal.at.returns-then-not-is_wanted-2 c).Else-row_of-ge10) (first-wanted (goal.at.returns-then-not-is_wanted-2 c).Else-not-is_wanted)
    other refl)

pub returns-then-not-is_wanted-3 : goal.returns-then-not-is_wanted-3
returns-then-not-is_wanted-3 c =
    let other = sym c.is_wanted-3.ensures ∙ c.if-not-is_wanted-3.true in
    sym
    (line_with-tests c.args.kind c.args.first c.args.second c.args.third true true true false (known (goal.at.returns-then-not-is_wanted-3 c).Else-row_of-ge10)
    (first-wanted (goal.at.returns-then-not-is_wanted-3 c).Else-not-is_wanted) (second-wanted (goal.at.returns-then-not-is_wanted-3 c).Else-not-is_wanted-2) other)

pub returns : goal.returns
returns c =
    rw (c.value_of.ensures, c.value_of-2.ensures, c.value_of-3.ensures, c.left_empty.ensures)
    (sym
    (line_with-tests c.args.kind c.args.first c.args.second c.args.third true true true true (known (goal.at.returns c).Else-row_of-ge10)
    (first-wanted (goal.at.returns c).Else-not-is_wanted) (second-wanted (goal.at.returns c).Else-not-is_wanted-2) (third-wanted (goal.at.returns c).Else-not-is_wanted-3)))
