-- The order that `marrubigai_next_group` goes by (call_replies/specs/Replies): that of the groups where there are one or two ports, and no group
-- else. No contract cites this file.
use Prim.Native.Nat.{ℕ, ◌≤◌, ◌<◌}
use mathlib.Core.Path.{◌≡◌, sym, ap, ◌∙◌}
use mathlib.Core.List.{List, [], ◌∷◌, ◌++◌}
use native.Mathlib.Omega.{arith}
use lib.ListN.{length, length-append}
use borrow.Author.Tests.{le-leb, lt-leb}
use Rattle.model.specs.Groups.{group_order}
use Rattle.model.specs.declared.Group.{Group}
use Rattle.call_replies.specs.Replies.{order_for}

pub order-some : (ports k : ℕ) → 1 ≤ ports → ports ≤ 2 → order_for ports k ≡ group_order ports k
unfolding order_for
order-some ports k least most = rw (le-leb 1 ports least, le-leb ports 2 most)

pub order-zero : (ports k : ℕ) → ports ≡ 0 → order_for ports k ≡ []
unfolding order_for
order-zero ports k e = rw (lt-leb 1 ports (omega arith))

pub order-many : (ports k : ℕ) → 2 < ports → order_for ports k ≡ []
unfolding order_for
order-many ports k l = rw (le-leb 1 ports (omega arith), lt-leb ports 2 l)

-- no group stands in an order of none
pub no-group : {order : List Group} → order ≡ [] → (xs ys : List Group) (g : Group) → order ≡ xs ++ g ∷ ys → ⊥
no-group none xs ys g e =
    let empty : length (xs ++ g ∷ ys) ≡ 0 = ap length (sym e ∙ none) in
    omega (arith, empty, length-append xs (g ∷ ys))
