-- `aiger_export::export_binary` meets its contract: the tests of the record; the file aside, then the room and the copy.

use Prim.Native.Nat.{◌≤◌}
use mathlib.Core.Path.{◌≡◌, sym}
use native.Mathlib.Omega.{arith}
use borrow.Author.Rules.{rules}
use lib.ListN.{length, take}
use lib.Seq.{length-take-le}
use Rattle.std.proofs.lemmas.Result.{err_from_is_err_and}
use Rattle.refusals.specs.Verdict.{Passed}
use Rattle.refusals.specs.Tests.{◌then◌}
use Rattle.refusals.specs.Slices.{with_count, contents_after}
use Rattle.refusals.proofs.Slices.{room-enough, room-short}
use Rattle.netlist.specs.NetOf.{net_of}
use Rattle.group_counts.proofs.Counted.{wrote-front}
use Rattle.refusals.specs.Slices.{count_reply}
use Rattle.aiger_export.specs.ExportCall.{export_text, test_export, export_verdict, export_sent, export_leaves}
use Rattle.aiger_export.proofs.ExportCall.{accepted, single-port}
use Rattle.aiger_export.proofs.Exported.{exported}
use Rattle.aiger_export.proofs.export_binary.Goals as goal
use Rattle.aiger_export.proofs.export_binary.Goals.{After-put_file-count, In_ok-test_export}

pub returns-in_err-test_export : goal.returns-in_err-test_export
unfolding count_reply export_verdict export_sent export_leaves with_count contents_after ◌then◌
returns-in_err-test_export c =
    let p = err_from_is_err_and c.from_residual.result c.from_residual.ensures.1 in
    let v = sym c.in_err-test_export.ensures in
    record { answer = rw (p.1, p.2, v); borrowed = rw v; exported = exported }

-- the record passes its tests
passed : (c : In_ok-test_export) → test_export (net_of c.args.net c.args.latches.now c.args.gates.now) c.args.latch_count c.args.gate_count ≡ Passed
passed c = sym c.in_ok-test_export.ensures

single : (c : In_ok-test_export) → c.args.net.second_port ≡ 0
unfolding net_of
single c = single-port _ _ _ (passed c)

pub put_file-count-requires : goal.put_file-count-requires
put_file-count-requires c = ((accepted _ _ _ (passed (goal.at.put_file-count-requires c).In_ok-test_export)).limits, search rules, single (goal.at.put_file-count-requires c).In_ok-test_export)

pub returns-then-out-count : goal.returns-then-out-count
unfolding count_reply export_verdict export_sent export_leaves with_count contents_after ◌then◌
returns-then-out-count c =
    let v = passed (goal.at.returns-then-out-count c).In_ok-test_export in
    let w = c.put_file-count.ensures.0 in
    let short = room-short (length (export_text (net_of c.args.net c.args.latches.now c.args.gates.now))) (length c.args.out.now) (omega (arith, w.counted, c.if-out-count.true)) in
    record { answer = rw (v, short); borrowed = rw (v, short); exported = exported }

-- the file is within what was written aside
within : (c : After-put_file-count) → c.put_file-count.result ≤ length c.put_file-count.new.out
within c = search rules

pub slice_bounds-bytes-end : goal.slice_bounds-bytes-end
slice_bounds-bytes-end c = within (goal.at.slice_bounds-bytes-end c).After-put_file-count

pub slice_bounds-write_word-end : goal.slice_bounds-write_word-end
slice_bounds-write_word-end c = sym (length-take-le _ _ (within (goal.at.slice_bounds-write_word-end c).After-put_file-count))

pub write_word-requires : goal.write_word-requires
write_word-requires c =
    let e : length (take c.put_file-count.result c.put_file-count.new.out) ≡ c.put_file-count.result = length-take-le _ _ (within (goal.at.write_word-requires c).After-put_file-count) in
    omega (arith, e, c.if-out-count.false)

pub returns : goal.returns
unfolding count_reply export_verdict export_sent export_leaves with_count contents_after ◌then◌
returns c =
    let v = passed (goal.at.returns c).In_ok-test_export in
    let w = c.put_file-count.ensures.0 in
    let x = rw (wrote-front w) at c.write_word.ensures in
    let enough = room-enough (length (export_text (net_of c.args.net c.args.latches.now c.args.gates.now))) (length c.args.out.now) (omega (arith, w.counted, c.if-out-count.false)) in
    record { answer = rw (v, enough, x.counted); borrowed = rw (v, enough) x.leaves; exported = exported }
