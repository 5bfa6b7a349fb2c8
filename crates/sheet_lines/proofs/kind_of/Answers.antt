-- `sheet_lines::kind_of` meets its contract: each letter's arm by what the letter is, the rest by what it is not.

use borrow.Author.Tests.{ne_eqb}
use Rattle.sheet_lines.specs.Letters.{kind_of}
use Rattle.sheet_lines.proofs.kind_of.Goals as goal

pub returns-in-78 : goal.returns-in-78
unfolding kind_of
returns-in-78 c = rw c.in-78.is

pub returns-in-77 : goal.returns-in-77
unfolding kind_of
returns-in-77 c = rw c.in-77.is

pub returns-in-84 : goal.returns-in-84
unfolding kind_of
returns-in-84 c = rw c.in-84.is

pub returns-in-76 : goal.returns-in-76
unfolding kind_of
returns-in-76 c = rw c.in-76.is

pub returns-in-71 : goal.returns-in-71
unfolding kind_of
returns-in-71 c = rw c.in-71.is

pub returns-in-65 : goal.returns-in-65
unfolding kind_of
returns-in-65 c = rw c.in-65.is

pub returns-in-68 : goal.returns-in-68
unfolding kind_of
returns-in-68 c = rw c.in-68.is

pub returns-in-66 : goal.returns-in-66
unfolding kind_of
returns-in-66 c = rw c.in-66.is

pub returns-in-82 : goal.returns-in-82
unfolding kind_of
returns-in-82 c = rw c.in-82.is

pub returns-in-67 : goal.returns-in-67
unfolding kind_of
returns-in-67 c = rw c.in-67.is

pub returns-in_default : goal.returns-in_default
unfolding kind_of
returns-in_default c =
    let letter = c.args.letter in
    let none = c.in_default.in_default-own.rest in
    simp (
      ne_eqb letter 78 none.0.0.0.0.0.0.0.0.0.1,
      ne_eqb letter 77 none.0.0.0.0.0.0.0.0.1,
      ne_eqb letter 84 none.0.0.0.0.0.0.0.1,
      ne_eqb letter 76 none.0.0.0.0.0.0.1,
      ne_eqb letter 71 none.0.0.0.0.0.1,
      ne_eqb letter 65 none.0.0.0.0.1,
      ne_eqb letter 68 none.0.0.0.1,
      ne_eqb letter 66 none.0.0.1,
      ne_eqb letter 82 none.0.1,
      ne_eqb letter 67 none.1,
    )
