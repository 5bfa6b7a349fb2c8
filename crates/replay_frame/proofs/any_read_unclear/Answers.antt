-- `replay_frame::any_read_unclear` meets its contract.

use Prim.Native.Nat.{ℕ, suc}
use mathlib.Core.Path.{◌≡◌, ◌∙◌, ap₂}
use mathlib.Core.Bool.{Bool, ◌||◌}
use native.Mathlib.Omega.{arith}
use Rattle.model.specs.Search.{any_below}
use Rattle.model.proofs.Ports.{second-port}
use Rattle.netlist.specs.NetOf.{net_of, alone}
use Rattle.replay_frame.proofs.any_read_unclear.Goals as goal

-- one place, and two
one_place : (f : ℕ → Bool) (u : ℕ) → u ≡ 0 → f 0 ≡ any_below (suc u) f
unfolding any_below
one_place f u e = rw e

two-places : (f : ℕ → Bool) (u : ℕ) → u ≡ 1 → (f 0 || f 1) ≡ any_below (suc u) f
unfolding any_below
two-places f u e = rw e

pub returns-then-net-eq0 : goal.returns-then-net-eq0
unfolding net_of
returns-then-net-eq0 c = c.read_unclear-first.ensures ∙ one_place _ _ c.if-net-eq0.true

pub read_unclear-requires : goal.read_unclear-requires
unfolding net_of
read_unclear-requires c =
    (c.requires.0, c.requires.1, second-port (alone c.args.net) (omega (arith, c.if-net-eq0.false)))

pub returns : goal.returns
unfolding net_of
returns c =
    ap₂ ◌||◌ c.read_unclear-first.ensures c.read_unclear.ensures
    ∙ two-places _ c.args.net.second_port (omega (arith, c.if-net-eq0.false, c.requires.0.sizes.kind_fits))
