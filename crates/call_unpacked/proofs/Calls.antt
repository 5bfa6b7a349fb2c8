-- Laws of specs/Calls.antt: which tests a call passes, and demand 3 of the calls. No contract cites this file.
use Prim.Native.Nat.{ℕ, ◌+◌, ◌*◌, ◌≤◌}
use mathlib.Core.Path.{◌≡◌, refl, ◌∙◌, ap}
use mathlib.Core.Bool.{true, not}
use mathlib.Core.List.{List}
use native.Mathlib.Nat.{mul-le-mul_left}
use native.Mathlib.Omega.{arith}
use lib.Dec.{ltb}
use lib.IntN.{ℤ}
use lib.ListN.{length, take, drop}
use lib.Seq.{take-append_seam}
use borrow.Author.Tests.{ltb-false, le-ltb, not-false}
use Rattle.std.specs.Prelude.{Ok, Err}
use Rattle.refusals.specs.Verdict.{Verdict, Passed}
use Rattle.model.specs.Netlist.{Netlist, ports}
use Rattle.model.specs.Limits.{most_lines}
use Rattle.model.specs.Acceptance.{SizesFit, Accepted}
use Rattle.model.specs.Groups.{in_depth}
use Rattle.model.specs.Numbers.{numbers_of, formula}
use Rattle.model.specs.declared.Group.{Group}
use Rattle.model.proofs.Ports.{second-most}
use Rattle.model.proofs.Variables.{base-most, base-most-single}
use Rattle.model.proofs.Gather.{all-weaken}
use Rattle.model.proofs.Joined.{joined_same, order-in_depth}
use Rattle.model.proofs.Claim.{encodes}
use Rattle.model.proofs.Stated.{stated}
use Rattle.refusals.specs.Tests.{◌then◌}
use Rattle.refusals.specs.declared.Refusal.TheVariants.{NoSuchGroup}
use Rattle.refusals.specs.Slices.{with_count, contents_after}
use Rattle.refusals.proofs.Tests.{refuse_if-passes, then-passes}
use Rattle.refusals.proofs.Slices.{room-enough}
use Rattle.netlist.specs.Places.{control_line}
use Rattle.netlist_tests.specs.Record.{record_verdict}
use Rattle.netlist_tests.proofs.Acceptance.{passes-accepted}
use Rattle.call_unpacked.specs.Calls.{test_depth, test_group, test_group_room, group_verdict, group_sent, group_leaves, CallsEncode, BoundTheorem}

-- a depth passes up to 255
pub depth-passes : (k : ℕ) → test_depth k ≡ Passed → k ≤ 255
unfolding test_depth
depth-passes k h = ltb-false 255 k ((refuse_if-passes (ltb 255 k) _ 0).0 h)

module _ (c : Netlist) (latch_count gate_count k : ℕ) (record-passed : record_verdict c latch_count gate_count ≡ Passed) (most : k ≤ 255) where
  accepted : Accepted c
  accepted = ((passes-accepted c latch_count gate_count).0 record-passed).0

  -- no group call with room enough is refused
  group-passes : (g : Group) (room : ℕ) → in_depth (ports c) k g ≡ true → length (numbers_of c k g) ≤ room
      → group_verdict c latch_count gate_count k g room ≡ Passed
  unfolding group_verdict test_group test_depth
  group-passes g room there enough =
      passes record-passed (passes ((refuse_if-passes (ltb 255 k) _ 0).1 (le-ltb 255 k most))
      (passes ((refuse_if-passes (not (in_depth (ports c) k g)) _ 0).1 (ap not there))
      (room-enough (length (numbers_of c k g)) room enough)))
    where
      passes : {v w : Verdict} → v ≡ Passed → w ≡ Passed → (v then w) ≡ Passed
      passes {v} {w} p q = (then-passes v w).1 (p, q)

  -- so the first `count` numbers that the call leaves are the group's
  group-numbers : (g : Group) (old : List ℤ) → in_depth (ports c) k g ≡ true → length (numbers_of c k g) ≤ length old
      → take (group_sent c latch_count gate_count k g (length old)).count (group_leaves c latch_count gate_count k g old) ≡ numbers_of c k g
  unfolding group_sent group_leaves with_count contents_after
  group-numbers g old there enough =
      rw (group-passes g (length old) there enough) (take-append_seam (numbers_of c k g) (drop (length (numbers_of c k g)) old))

-- no sheet has more than 627 lines: where there are lines of a second port, it has read bits among the wires
pub lines-most : (c : Netlist) → SizesFit c → control_line c ≤ most_lines
lines-most c fit =
    let bits : c.second_port * 1 ≤ c.second_port * c.n = mul-le-mul_left c.second_port fit.n-least in
    omega (arith, fit.wires-fit, fit.m-most, second-most fit c.m)

-- demand 3 of the calls
pub calls-encode : (c : Netlist) (latch_count gate_count k : ℕ) → record_verdict c latch_count gate_count ≡ Passed → k ≤ 255
    → CallsEncode c latch_count gate_count k
unfolding formula
calls-encode c latch_count gate_count k passed most =
    record {
      calls-formula = λ slice enough.
          joined_same (all-weaken (λ g there. group-numbers c latch_count gate_count k passed most g (slice g) there (enough g there)) (order-in_depth (ports c) k));
      formula-encodes = encodes c (accepted c latch_count gate_count k passed most) k;
    }

pub bounded : BoundTheorem
bounded c ok k most =
    record {
      variables-most = base-most c ok.limits.sizes (k + 1) (omega arith);
      numbers-most = λ g there x. omega (arith, (stated c ok k).numbers-within g there x, base-most c ok.limits.sizes (k + 1) (omega arith));
      variables-single = λ single. base-most-single c ok.limits.sizes single (k + 1) (omega arith);
      lines-most = lines-most c ok.limits.sizes;
    }

-- one test more behind two whose verdict is known
tests-more : (first second more : Verdict) {v : Verdict} → v ≡ (first then second) → first then second then more ≡ v then more
unfolding ◌then◌
tests-more (Ok _) second more e = rw e
tests-more (Err f) second more e = rw e

module _ (c : Netlist) (latch_count gate_count k : ℕ) where
  -- what the tests of the record and of the depth have shown
  pub depth-shown : record_verdict c latch_count gate_count then test_depth k ≡ Passed → Accepted c × (k ≤ 255)
  depth-shown h =
      let a = (then-passes (record_verdict c latch_count gate_count) (test_depth k)).0 h in
      (((passes-accepted c latch_count gate_count).0 a.0).0, depth-passes k a.1)

  -- one test more behind them
  pub depth-more : (more : Verdict) {v : Verdict} → v ≡ (record_verdict c latch_count gate_count then test_depth k)
      → record_verdict c latch_count gate_count then test_depth k then more ≡ v then more
  depth-more more = tests-more (record_verdict c latch_count gate_count) (test_depth k) more

  module _ (g : Group) where
    -- what the tests of a group call up to 8 have shown
    pub group-shown : record_verdict c latch_count gate_count then test_depth k then test_group c k g ≡ Passed
        → Accepted c × (k ≤ 255) × (in_depth (ports c) k g ≡ true)
    unfolding test_group
    group-shown h =
        let a = (then-passes (record_verdict c latch_count gate_count) _).0 h in
        let b = (then-passes (test_depth k) (test_group c k g)).0 a.1 in (
          ((passes-accepted c latch_count gate_count).0 a.0).0,
          depth-passes k b.0,
          not-false (in_depth (ports c) k g) ((refuse_if-passes (not (in_depth (ports c) k g)) NoSuchGroup 0).0 b.1),
        )

    -- one test more behind them
    pub group-more : (more : Verdict) {v : Verdict} → v ≡ (record_verdict c latch_count gate_count then test_depth k then test_group c k g)
        → record_verdict c latch_count gate_count then test_depth k then test_group c k g then more ≡ v then more
    group-more more e =
        ap (λ v. record_verdict c latch_count gate_count then v) (tests-more (test_depth k) (test_group c k g) more refl)
        ∙ tests-more (record_verdict c latch_count gate_count) (test_depth k then test_group c k g) more e

    pub group-tested : (room : ℕ) {v : Verdict} → v ≡ (record_verdict c latch_count gate_count then test_depth k then test_group c k g)
        → group_verdict c latch_count gate_count k g room ≡ v then test_group_room c k g room
    unfolding group_verdict
    group-tested room = group-more (test_group_room c k g room)
