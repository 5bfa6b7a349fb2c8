-- `aiger_tests::test_text` meets its contract: each test refuses at the first line concerned, and the next one is made where none is.

use Prim.Native.Nat.{◌≤◌}
use mathlib.Core.Path.{◌≡◌, sym, ◌∙◌, ap}
use native.Mathlib.Omega.{arith}
use Rattle.aiger_lines.specs.Parts.{counts_in, lines_due}
use Rattle.aiger_lines.specs.Steps.{SoundTo}
use Rattle.aiger_lines.specs.declared.Counts.{Counts}
use Rattle.aiger_netlist.specs.ImportVerdict.{wrong_interface}
use Rattle.aiger_tests.proofs.TextVerdict.{not-aiger, all_sound, interface, undefined, passed}
use Rattle.aiger_tests.proofs.test_text.Goals as goal
use Rattle.aiger_tests.proofs.test_text.Goals.{After-has_wrong_interface, After-lines_due-due, Else-first-due}

-- how many lines are due, and which interface is wrong, by the text's header
due : (c : After-lines_due-due) → c.lines_due-due.result ≡ lines_due (counts_in c.args.text.now)
due c = c.lines_due-due.ensures ∙ ap lines_due c.requires.counts-are

faced : (c : After-has_wrong_interface)
    → c.has_wrong_interface.result ≡ wrong_interface (counts_in c.args.text.now) c.args.m c.args.n c.args.second_port
faced c =
    c.has_wrong_interface.ensures
    ∙ ap (λ (h : Counts). wrong_interface h c.args.m c.args.n c.args.second_port) c.requires.counts-are

-- where no line is not AIGER
aiger : (c : Else-first-due) → lines_due (counts_in c.args.text.now) ≤ c.first_repeat-first.result
aiger c =
    let due-are : c.lines_due-due.result ≡ lines_due (counts_in c.args.text.now) = c.lines_due-due.ensures ∙ ap lines_due c.requires.counts-are in
    omega arith

pub returns-then-first-due : goal.returns-then-first-due
returns-then-first-due c =
    rw c.place_of.ensures
    (sym (not-aiger c.args.text.now c.args.m c.args.n c.args.second_port c.sound_lines-sound.ensures c.first_repeat-first.ensures (omega (arith, due (goal.at.returns-then-first-due c).After-lines_due-due))))

pub returns-then-has_wrong_interface : goal.returns-then-has_wrong_interface
returns-then-has_wrong_interface c =
    sym (interface c.args.text.now c.args.m c.args.n c.args.second_port c.sound_lines-sound.ensures c.first_repeat-first.ensures (aiger (goal.at.returns-then-has_wrong_interface c).Else-first-due)
    (sym (faced (goal.at.returns-then-has_wrong_interface c).After-has_wrong_interface) ∙ c.if-has_wrong_interface.true))

-- all lines due are well-formed
whole : (c : Else-first-due) → SoundTo c.args.text.now (lines_due (counts_in c.args.text.now))
whole c =
    all_sound c.args.text.now c.args.m c.args.n c.args.second_port c.sound_lines-sound.ensures c.first_repeat-first.ensures (aiger c)

pub first_undefined-undefined-requires : goal.first_undefined-undefined-requires
first_undefined-undefined-requires c =
    (c.requires, rw c.requires.counts-are (whole (goal.at.first_undefined-undefined-requires c).Else-first-due))

pub returns-then-undefined-due : goal.returns-then-undefined-due
returns-then-undefined-due c =
    rw c.place_of-then-undefined-due.ensures
    (sym (undefined c.args.text.now c.args.m c.args.n c.args.second_port c.sound_lines-sound.ensures c.first_repeat-first.ensures (aiger (goal.at.returns-then-undefined-due c).Else-first-due)
    (sym (faced (goal.at.returns-then-undefined-due c).After-has_wrong_interface) ∙ c.if-has_wrong_interface.false) c.first_undefined-undefined.ensures (omega (arith, due (goal.at.returns-then-undefined-due c).After-lines_due-due))))

pub returns : goal.returns
returns c =
    sym (passed c.args.text.now c.args.m c.args.n c.args.second_port c.sound_lines-sound.ensures c.first_repeat-first.ensures (aiger (goal.at.returns c).Else-first-due)
    (sym (faced (goal.at.returns c).After-has_wrong_interface) ∙ c.if-has_wrong_interface.false) c.first_undefined-undefined.ensures (omega (arith, due (goal.at.returns c).After-lines_due-due)))
