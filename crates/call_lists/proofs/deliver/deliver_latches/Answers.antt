-- `call_lists::deliver::deliver_latches` meets its contract: a turn delivers one record more.
use Rattle.std.proofs.Common.{◌≡◌, ◌∙◌, ◌+◌, ℕ, sym, ap, arith, suc}
use Rattle.call_lists.specs.RecordAt.{latch_at}
use Rattle.call_lists.specs.Delivered.{delivered}
use Rattle.call_lists.proofs.Delivered.{delivered-none, delivered-next}
use Rattle.call_lists.proofs.deliver.deliver_latches.Goals as goal

pub loop-l-init : goal.loop-l-init
loop-l-init c = sym (delivered-none (latch_at c.args.codes.now) c.args.list.now)

pub loop-l-preserved : goal.loop-l-preserved
loop-l-preserved c =
    rw (c.loop-l.invariant, c.latch_at.ensures)
    (delivered-next (latch_at c.args.codes.now) c.args.list.now c.loop-l.l (omega (arith, c.requires)) ∙ ap
    (λ (n : ℕ). delivered n (latch_at c.args.codes.now) c.args.list.now) (let e : suc c.loop-l.l ≡ c.loop-l.l + 1 = omega arith in e))
