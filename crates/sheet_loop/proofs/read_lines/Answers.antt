-- `sheet_loop::read_lines` meets its contract: each answer takes the reading one line on (`InProgress`).
use Rattle.std.proofs.Common.{◌≡◌, ◌∙◌, ◌<◌, ℕ, List, ap, refl, true}
use Rattle.netlist.specs.NetOf.{net_of, alone}
use Rattle.sheet_steps.specs.Steps.{Outcome, SizesKnown}
use Rattle.sheet_steps.specs.Lists.{FullLength}
use Rattle.sheet_parse.specs.LineAnswers.{line_answer, lines_read_of}
use Rattle.sheet_parse.specs.Progress.{answer_verdict, answer_net, more_after}
use Rattle.sheet_parse.specs.declared.LineAnswer.{LineAnswer}
use Rattle.sheet_parse.specs.declared.Progress.{Progress}
use Rattle.sheet_parse.proofs.Files.{WholeLines, whole-lines}
use Rattle.sheet_parse.proofs.InProgress.{InProgress, answers_left, one_less, starts, sizes-next, goes_on}
use Rattle.sheet_loop.proofs.read_lines.Goals as goal

-- an answer is due, and the reader answers `line` and has read q lines then
module _ (file : List ℕ) (whole : WholeLines file) (p : ℕ) (at : Progress) (latches gates : List ℕ)
    (so_far : InProgress file p at latches gates) (more : at.more ≡ true) (line : LineAnswer) (q : ℕ)
    (line_is : line ≡ line_answer file p) (q_is : q ≡ lines_read_of file p) where
  asked : FullLength at.sheet.net latches gates × SizesKnown (alone at.sheet.net) q
  asked =
      let on = so_far.going more in
      rw q_is (on.1.holds.full, sizes-next file whole p at.sheet.net latches gates on.0 on.1)

  turn : (new : Progress) (new_latches new_gates : List ℕ)
      → Outcome new.sheet new_latches new_gates (answer_verdict (net_of at.sheet.net latches gates) line q)
      (answer_net (net_of at.sheet.net latches gates) line q) × (new.more ≡ more_after line new.sheet.verdict)
      → InProgress file q new new_latches new_gates × (answers_left file q new < answers_left file p at)
  turn new new_latches new_gates taken =
      let on = so_far.going more in
      let t = rw (line_is, q_is) at taken in
      let next = goes_on file whole p at.sheet.net latches gates on.0 on.1 new new_latches new_gates t in
      rw q_is (next.0, one_less at.more _ _ more next.1)

pub loop-progress-init : goal.loop-progress-init
loop-progress-init c = record {
  same_file = refl;
  so_far = rw (c.no_progress-progress.ensures, c.requires.1, c.requires.2) (starts c.args.file.now);
}

pub take_answer-progress-requires : goal.take_answer-progress-requires
take_answer-progress-requires c =
    let e = rw c.loop-progress.invariant.same_file at c.next_line-next.ensures.0 in
    asked c.args.file.now (whole-lines c.args.file.now c.requires.0) c.loop-progress.reader.line c.loop-progress.progress
    c.loop-progress.latches c.loop-progress.gates c.loop-progress.invariant.so_far c.loop-progress-test.true
    c.next_line-next.result.line c.next_line-next.result.reader.line (ap (λ n. n.line) e) (ap (λ n. n.reader.line) e)

pub loop-progress-smaller : goal.loop-progress-smaller
loop-progress-smaller c =
    let e = rw c.loop-progress.invariant.same_file at c.next_line-next.ensures.0 in
    (turn c.args.file.now (whole-lines c.args.file.now c.requires.0) c.loop-progress.reader.line c.loop-progress.progress
    c.loop-progress.latches c.loop-progress.gates c.loop-progress.invariant.so_far c.loop-progress-test.true
    c.next_line-next.result.line c.next_line-next.result.reader.line (ap (λ n. n.line) e) (ap (λ n. n.reader.line) e)
    c.take_answer-progress.result c.take_answer-progress.new.latches c.take_answer-progress.new.gates
    c.take_answer-progress.ensures).1

pub loop-progress-preserved : goal.loop-progress-preserved
loop-progress-preserved c =
    let e = rw c.loop-progress.invariant.same_file at c.next_line-next.ensures.0 in
    record {
      same_file = ap (λ n. n.reader.file.now) c.next_line-next.ensures.0 ∙ c.loop-progress.invariant.same_file;
      so_far =
          (turn c.args.file.now (whole-lines c.args.file.now c.requires.0) c.loop-progress.reader.line c.loop-progress.progress
          c.loop-progress.latches c.loop-progress.gates c.loop-progress.invariant.so_far c.loop-progress-test.true
          c.next_line-next.result.line c.next_line-next.result.reader.line (ap (λ n. n.line) e) (ap (λ n. n.reader.line) e)
          c.take_answer-progress.result c.take_answer-progress.new.latches c.take_answer-progress.new.gates
          c.take_answer-progress.ensures).0;
    }
