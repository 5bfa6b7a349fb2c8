-- `program_replay::write_answer` meets its contract: one of the three texts, none longer than a refusal.

use Prim.Native.Nat.{ℕ, ◌^◌, ◌≤◌, ◌<◌}
use mathlib.Core.Path.{sym, ◌∙◌}
use mathlib.Core.List.{[], ◌∷◌, ◌++◌}
use native.Mathlib.Omega.{arith}
use borrow.Author.Rules.{rules}
use borrow.Author.Tests.{eq-eqb, ne_eqb}
use lib.ListN.{length, length-append}
use Rattle.decimal.specs.Digits.{line_feed, digits}
use Rattle.decimal.proofs.Digits.{length-digits-ten}
use Rattle.dimacs.proofs.Text.{length-refusal_text}
use Rattle.program_replay.specs.Printed.{answer_text}
use Rattle.program_replay.proofs.write_answer.Goals as goal

-- a frame's line is short
frame-most : (first : ℕ) → first < 2 ^ 32 → length (digits first ++ line_feed ∷ []) ≤ 11
frame-most first f = omega (arith, length-append (digits first) (line_feed ∷ []), length-digits-ten first f)

pub write_ended-requires : goal.write_ended-requires
write_ended-requires c =
    omega (arith, c.requires, frame-most c.args.reply.first (search rules))

pub returns-then-is_broken : goal.returns-then-is_broken
unfolding answer_text
returns-then-is_broken c =
    let broken = sym c.is_broken.ensures ∙ c.if-is_broken.true in
    record { text = rw broken c.write_ended.ensures; most = omega (arith, c.write_ended.ensures.counted, frame-most c.args.reply.first (search rules)) }

pub returns-then-reply-eq0 : goal.returns-then-reply-eq0
unfolding answer_text
returns-then-reply-eq0 c =
    let broken = sym c.is_broken.ensures ∙ c.if-is_broken.false in
    record { text = rw (broken, eq-eqb c.args.reply.number 0 (omega arith)) c.write_word.ensures; most = omega (arith, c.write_word.ensures.counted) }

pub write_refusal-requires : goal.write_refusal-requires
write_refusal-requires c =
    omega (arith, length-refusal_text c.args.reply.number c.args.reply.place (search rules) (search rules))

pub returns : goal.returns
unfolding answer_text
returns c =
    let broken = sym c.is_broken.ensures ∙ c.if-is_broken.false in
    record { text = rw (broken, ne_eqb c.args.reply.number 0 (λ h. omega arith)) c.write_refusal.ensures; most = omega (arith, c.write_refusal.ensures.counted, length-refusal_text c.args.reply.number c.args.reply.place (search rules) (search rules)) }
