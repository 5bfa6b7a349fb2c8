-- The literal of a code in a running record's frame (RULES R8 and T52). Cited by `literal_at` and by the exported function.
use Rattle.std.specs.Prelude.{ℕ, ◌+◌, ◌-◌, ◌*◌, ◌≡◌, cond, ltb, ℤ, pos, neg_ℤ}
use Rattle.refusals.specs.Verdict.{Verdict}
use Rattle.model.specs.Netlist.{Netlist, last_wire}
use Rattle.model.specs.Bits.{odd}
use Rattle.model.specs.Clauses.{neg}
use Rattle.model.specs.Variables.{code_in}
use Rattle.model.specs.Numbers.{literal_number}
use Rattle.refusals.specs.Refusal.{reply_of}
use Rattle.refusals.specs.Tests.{refuse_if, ◌then◌, if_passed}
use Rattle.refusals.specs.declared.Refusal.TheVariants.{Size, CodeOutside}
use Rattle.netlist.specs.Faults.{size_fault}
use Rattle.netlist_tests.specs.Record.{test_lines}
use Rattle.call_unpacked.specs.Calls.{test_depth}
use Rattle.call_position.specs.Positions.{test_frame}
use Rattle.call_position.specs.declared.Position.{Position}
use Rattle.call_position.specs.declared.LiteralReply.{LiteralReply}

-- 4, then 7: what the numbering of a depth needs
unfoldable pub numbering_verdict : Netlist → ℕ → Verdict
numbering_verdict c k = test_lines c Size size_fault then test_depth k

-- RULES T52: "4, then 7, 8, 16, then 5 where the code is above 2V + 1"
unfoldable pub literal_verdict : Netlist → Position → ℕ → Verdict
literal_verdict c p x =
    numbering_verdict c p.depth then test_frame c p p.frame
    then refuse_if (ltb (2 * last_wire c + 1) x) CodeOutside 0

unfoldable pub with_literal : Verdict → ℤ → LiteralReply
with_literal v z = record { number = (reply_of v).number; place = (reply_of v).place; literal = if_passed v z (pos 0) }

unfoldable pub literal_sent : Netlist → Position → ℕ → LiteralReply
literal_sent c p x = with_literal (literal_verdict c p x) (literal_number (code_in c p.frame x))

-- the code of the inverted wire (RULES W3): its last bit is the other one
unfoldable pub inverse : ℕ → ℕ
inverse x = cond (odd x) (x - 1) (x + 1)

-- RULES R8: "that of the code of ¬P is ¬P of the frame". The inverse of a code is its negation in every clause of the frame, and where the
-- code's literal is answered, that of its inverse is the same number with the other sign, constants included
abbrev pub InverseNegated : Netlist → Position → ℕ → LiteralReply → Type 0
InverseNegated c p x r =
    (code_in c p.frame (inverse x) ≡ neg (code_in c p.frame x))
    × (r.number ≡ 0 → literal_sent c p (inverse x) ≡ record { number = 0; place = 0; literal = neg_ℤ r.literal })
