-- The formula group by group: nothing put yet, one group more, and all of it. No contract cites this file.
use Prim.Native.Nat.{ℕ, ◌+◌, ◌-◌, ◌≤◌}
use mathlib.Core.Path.{◌≡◌, refl, sym, ◌∙◌, ap, subst}
use mathlib.Core.Bool.{true}
use mathlib.Core.List.{List, [], ◌∷◌, ◌++◌, append_assoc, append-nil}
use lib.IntN.{ℤ}
use lib.ListN.{length}
use borrow.Rule.Slice.PartMut.{mid_of, put_mid}
use Rattle.std.specs.Prelude.{Option, Some, None}
use Rattle.model.specs.Netlist.{Netlist, ports}
use Rattle.model.specs.Groups.{group_order, in_depth}
use Rattle.model.specs.Numbers.{numbers_of, joined, formula}
use Rattle.model.specs.declared.Group.{Group}
use Rattle.model.proofs.Gather.{All, all-at}
use Rattle.model.proofs.Joined.{joined-append, order-in_depth}
use Rattle.group_order.specs.Next.{first_group}
use Rattle.group_order.proofs.Remaining.{Remaining, remaining-begins, none-remains}
use Rattle.refutation_formula.specs.WhereRoom.{PutWhereRoom}
use Rattle.refutation_formula.proofs.WhereRoom.{put-nothing, put_then}

-- of the groups in their order, the first ones are put, and `next` is the first of those that remain
pub record SoFar (c : Netlist) (k : ℕ) (old new : List ℤ) (at : ℕ) (next : Option Group) : Type 0 where
  pub done : List Group
  pub remaining : List Group
  pub order : group_order (ports c) k ≡ done ++ remaining
  pub next-is : next ≡ first_group remaining
  pub put : PutWhereRoom (joined (numbers_of c k) done) old new at

-- before the first group
pub nothing_yet : (c : Netlist) (k : ℕ) (old : List ℤ) (next : Option Group) → next ≡ first_group (group_order (ports c) k) → SoFar c k old old 0 next
unfolding joined
nothing_yet c k old next h = record { done = []; remaining = group_order (ports c) k; order = refl; next-is = h; put = put-nothing old }

module _ {c : Netlist} {k : ℕ} {old mid : List ℤ} {at : ℕ} {g : Group} (p : SoFar c k old mid at (Some g)) where
  rest : Remaining g p.remaining
  rest = remaining-begins g p.remaining p.next-is

  whole : group_order (ports c) k ≡ p.done ++ g ∷ rest.behind
  whole = p.order ∙ ap (λ (t : List Group). p.done ++ t) rest.begins

  -- the group that is next is one of the depth
  pub next-in_depth : in_depth (ports c) k g ≡ true
  next-in_depth = all-at p.done g rest.behind (subst (All (λ x. in_depth (ports c) k x ≡ true)) whole (order-in_depth (ports c) k))

  -- it is put behind the others
  pub one_more : (part : List ℤ) (from n : ℕ) (next : Option Group) → from ≤ length mid → (at ≤ length mid → from ≡ at)
      → PutWhereRoom (numbers_of c k g) (mid_of from (length mid - from) mid) part n
      → ((xs ys : List Group) → group_order (ports c) k ≡ xs ++ g ∷ ys → next ≡ first_group ys)
      → SoFar c k old (put_mid from (length mid - from) mid part) (at + n) next
  unfolding joined
  one_more part from n next within here w follows =
      record {
        done = p.done ++ g ∷ [];
        remaining = rest.behind;
        order = whole ∙ sym (append_assoc p.done (g ∷ []) rest.behind);
        next-is = follows p.done rest.behind whole;
        put =
            subst (λ (t : List ℤ). PutWhereRoom t old (put_mid from (length mid - from) mid part) (at + n)) (sym joined-more)
            (put_then (joined (numbers_of c k) p.done) (numbers_of c k g) old mid part at from n within here p.put w);
      }
    where
      joined-more : joined (numbers_of c k) (p.done ++ g ∷ []) ≡ joined (numbers_of c k) p.done ++ numbers_of c k g
      joined-more =
          joined-append (numbers_of c k) p.done (g ∷ [])
          ∙ ap (λ (t : List ℤ). joined (numbers_of c k) p.done ++ t) (append-nil (numbers_of c k g))

-- where no group is next, all of the formula is put
pub all-put : {c : Netlist} {k : ℕ} {old new : List ℤ} {at : ℕ} → SoFar c k old new at None → PutWhereRoom (formula c k) old new at
unfolding formula
all-put {c} {k} {old} {new} {at} p =
    subst (λ (t : List ℤ). PutWhereRoom t old new at) (ap (joined (numbers_of c k)) (sym all)) p.put
  where
    all : group_order (ports c) k ≡ p.done
    all = p.order ∙ ap (λ (t : List Group). p.done ++ t) (none-remains p.remaining p.next-is) ∙ append-nil p.done
