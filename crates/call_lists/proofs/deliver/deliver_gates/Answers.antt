-- `call_lists::deliver::deliver_gates` meets its contract: a turn delivers one record more.
use Rattle.std.proofs.Common.{◌≡◌, ◌∙◌, ◌+◌, ℕ, sym, ap, arith, suc}
use Rattle.call_lists.specs.RecordAt.{gate_at}
use Rattle.call_lists.specs.Delivered.{delivered}
use Rattle.call_lists.proofs.Delivered.{delivered-none, delivered-next}
use Rattle.call_lists.proofs.deliver.deliver_gates.Goals as goal

pub loop-g-init : goal.loop-g-init
loop-g-init c = sym (delivered-none (gate_at c.args.codes.now) c.args.list.now)

pub loop-g-preserved : goal.loop-g-preserved
loop-g-preserved c =
    rw (c.loop-g.invariant, c.gate_at.ensures)
    (delivered-next (gate_at c.args.codes.now) c.args.list.now c.loop-g.g (omega (arith, c.requires)) ∙ ap
    (λ (n : ℕ). delivered n (gate_at c.args.codes.now) c.args.list.now) (let e : suc c.loop-g.g ≡ c.loop-g.g + 1 = omega arith in e))
