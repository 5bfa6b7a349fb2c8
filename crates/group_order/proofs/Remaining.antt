-- Laws of `first_group` and `remaining_from` (specs/Next.antt): what remains begins with the group that is next, and how many groups there are. Cited by what
-- goes through the groups in their order.
use Prim.Native.Nat.{ℕ, ◌+◌, ◌-◌, ◌*◌, ◌≤◌}
use mathlib.Core.Path.{◌≡◌, refl, sym, ap, subst}
use mathlib.Core.List.{List, [], ◌∷◌}
use native.Mathlib.Nat.{mul-le-mul}
use native.Mathlib.Omega.{arith}
use Rattle.std.specs.Prelude.{Option, Some, None}
use Rattle.model.specs.Groups.{group_order}
use Rattle.model.specs.declared.Group.{Group}
use Rattle.group_order.specs.Next.{first_group, remaining_from}
use Rattle.group_order.proofs.Successor.{order-first}

-- what remains begins with the group that is next
pub record Remaining (g : Group) (gs : List Group) : Type 0 where
  pub behind : List Group
  pub begins : gs ≡ g ∷ behind

group_or : Group → Option Group → Group
group_or g (Some h) = h
group_or g None = g

is_then : Option Group → Type 0
is_then (Some g) = Unit {0}
is_then None = ⊥

pub remaining-begins : (g : Group) (gs : List Group) → Some g ≡ first_group gs → Remaining g gs
unfolding is_then group_or
remaining-begins g [] h = absurd (subst is_then h tt)
remaining-begins g (x ∷ gs) h =
    record { behind = gs; begins = ap (λ (y : Group). y ∷ gs) (sym (ap (group_or g) h)) }

pub none-remains : (gs : List Group) → None ≡ first_group gs → gs ≡ []
unfolding is_then
none-remains [] h = refl
none-remains (g ∷ gs) h = absurd (subst is_then (sym h) tt)

-- how many groups there are at most, with two ports or one: for each of 255 frames 513, and four
pub first-remaining : (ports k : ℕ) (next : Option Group) → ports ≤ 2 → k ≤ 255 → next ≡ first_group (group_order ports k) → remaining_from ports k next ≤ 130819
first-remaining ports k next p h e =
    let frames : k + 1 ≤ 256 = omega (arith, h) in
    let closings : ports * (k + 1) ≤ 2 * 256 = mul-le-mul p frames in
    let more : ports * (k + 1) + 1 ≤ 513 = omega (arith, closings) in
    let all : k - 0 ≤ 255 = omega (arith, h) in
    let product : (k - 0) * (ports * (k + 1) + 1) ≤ 255 * 513 = mul-le-mul all more in
    rw (e, order-first ports k) (omega (arith, product, p))
