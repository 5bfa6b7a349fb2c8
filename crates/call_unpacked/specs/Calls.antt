-- What the calls over a record answer and leave (RULES T40, T41, T43 and G21 to G23). The right-hand sides of
-- the public contracts, and the subject of the claim about them. Cited by the calls over records, those through a running record, the
-- reading of a sheet, the import, the replay, and the replies in numbers.
use Rattle.std.specs.Prelude.{ℕ, ◌+◌, ◌≤◌, ◌≡◌, true, not, List, ltb, ℤ, pos, nat_abs, length, take, get_or, Result, Ok, Err}
use Rattle.refusals.specs.Verdict.{Verdict, Passed}
use Rattle.model.specs.Limits.{most_depth, most_lines}
use Rattle.model.specs.Netlist.{Netlist, ports}
use Rattle.model.specs.Variables.{base}
use Rattle.model.specs.Groups.{in_depth, group_order}
use Rattle.model.specs.Numbers.{numbers_of, joined, formula, clauses_in}
use Rattle.model.specs.Acceptance.{Accepted}
use Rattle.model.specs.Claim.{Encodes}
use Rattle.model.specs.declared.Group.{Group}
use Rattle.refusals.specs.Refusal.{reply_of}
use Rattle.refusals.specs.Tests.{refuse_if, ◌then◌, if_passed}
use Rattle.refusals.specs.Slices.{test_room, with_count, contents_after}
use Rattle.refusals.specs.declared.CountReply.{CountReply}
use Rattle.refusals.specs.declared.Refused.{Refused}
use Rattle.refusals.specs.declared.Refusal.TheVariants.{Depth, NoSuchGroup}
use Rattle.netlist.specs.Places.{control_line}
use Rattle.netlist_tests.specs.Record.{record_verdict}
use Rattle.call_unpacked.specs.declared.ProblemLine.{ProblemLine}
use Rattle.call_unpacked.specs.declared.HeadingReply.{HeadingReply}

-- RULES T7: "k is over 255"
unfoldable pub test_depth : ℕ → Verdict
test_depth k = refuse_if (ltb most_depth k) Depth 0

-- RULES T8: "the frame is over k, or it is a pair with j not below i", or the port is not one of the record's
unfoldable pub test_group : Netlist → ℕ → Group → Verdict
test_group c k g = refuse_if (not (in_depth (ports c) k g)) NoSuchGroup 0

-- 9 of the group's exact length, with a slice of `room` numbers
abbrev pub test_group_room : Netlist → ℕ → Group → ℕ → Verdict
test_group_room c k g room = test_room (length (numbers_of c k g)) room

-- RULES T40: "the record with its lists, then 7, 8, 9". It is of a record whose lists have latch_count and gate_count records
unfoldable pub group_verdict : Netlist → ℕ → ℕ → ℕ → Group → ℕ → Verdict
group_verdict c latch_count gate_count k g room =
    record_verdict c latch_count gate_count then test_depth k then test_group c k g then test_group_room c k g room

-- RULES T41: a heading call has no group and writes nothing, so no 8 and no 9
unfoldable pub heading_verdict : Netlist → ℕ → ℕ → ℕ → Verdict
heading_verdict c latch_count gate_count k = record_verdict c latch_count gate_count then test_depth k

-- a verdict, with the heading beside it. RULES T43: "A count, a heading .. is all zeros"
unfoldable pub with_heading : Verdict → ℕ → ℕ → HeadingReply
with_heading w v n = record { number = (reply_of w).number; place = (reply_of w).place; variables = if_passed w v 0; clauses = if_passed w n 0 }

-- the answer of a heading call in numbers (RULES N9)
unfoldable pub heading_reply : Result ProblemLine Refused → HeadingReply
heading_reply (Ok h) = with_heading Passed h.variables h.clauses
heading_reply (Err e) = with_heading (Err e) 0 0

-- what a group call answers, and what it leaves in the slice
unfoldable pub group_sent : Netlist → ℕ → ℕ → ℕ → Group → ℕ → CountReply
group_sent c latch_count gate_count k g room =
    with_count (group_verdict c latch_count gate_count k g room) (length (numbers_of c k g))

unfoldable pub group_leaves : Netlist → ℕ → ℕ → ℕ → Group → List ℤ → List ℤ
group_leaves c latch_count gate_count k g old =
    contents_after (group_verdict c latch_count gate_count k g (length old)) (numbers_of c k g) old

-- what a heading call answers. RULES G23: "the variables that are numbered .. and the clauses that are really written"
unfoldable pub heading_sent : Netlist → ℕ → ℕ → ℕ → HeadingReply
heading_sent c latch_count gate_count k =
    with_heading (heading_verdict c latch_count gate_count k) (base c (k + 1)) (length (clauses_in (formula c k)))

-- Demand 3 of the calls (RULES A2, A13 and A14): each group is asked for once with room enough, and the numbers are joined in the order of the whole.
-- Those numbers are the formula, and the formula encodes the runs.
abbrev pub RoomEnough : Netlist → ℕ → (Group → List ℤ) → Type 0
RoomEnough c k slice = (g : Group) → in_depth (ports c) k g ≡ true → length (numbers_of c k g) ≤ length (slice g)

pub record CallsEncode (c : Netlist) (latch_count gate_count k : ℕ) : Type 0 where
  pub calls-formula : (slice : Group → List ℤ) → RoomEnough c k slice
      → joined
      (λ g. take (group_sent c latch_count gate_count k g (length (slice g))).count (group_leaves c latch_count gate_count k g (slice g)))
      (group_order (ports c) k)
      ≡ formula c k
  pub formula-encodes : Encodes c k

-- how large a depth can be: the variables are at most 1,198,081, and so is every number of every group, negative or not, with one port 675,841 (RULES V6);
-- and the sheet has at most 627 lines (RULES S13)
pub record Bounded (c : Netlist) (k : ℕ) : Type 0 where
  pub variables-most : base c (k + 1) ≤ 1198081
  pub numbers-most : (g : Group) → in_depth (ports c) k g ≡ true → (x : ℕ) → nat_abs (get_or (numbers_of c k g) x (pos 0)) ≤ 1198081
  pub variables-single : ports c ≡ 1 → base c (k + 1) ≤ 675841
  pub lines-most : control_line c ≤ most_lines

-- of every accepted netlist: `bounded` in proofs/Calls.antt is of this type
abbrev pub BoundTheorem : Type 0
BoundTheorem = (c : Netlist) → Accepted c → (k : ℕ) → k ≤ most_depth → Bounded c k
