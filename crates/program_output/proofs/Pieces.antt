-- Laws of specs/Pieces.antt: nothing printed yet, one group more, and the whole piece. No contract cites this file.
use Prim.Native.Nat.{ℕ, ◌+◌, ◌-◌}
use mathlib.Core.Path.{◌≡◌, refl, sym, ◌∙◌, ap, subst}
use mathlib.Core.Bool.{true}
use mathlib.Core.List.{List, [], ◌∷◌, ◌++◌, append_assoc, append-nil}
use lib.ListN.{length}
use borrow.Rule.Slice.PartMut.{mid_of, put_mid}
use Rattle.std.specs.Prelude.{Option, Some, None}
use Rattle.model.specs.Netlist.{Netlist, ports}
use Rattle.model.specs.Groups.{group_order, in_depth}
use Rattle.model.specs.Numbers.{numbers_of, joined}
use Rattle.model.specs.Wrote.{Wrote}
use Rattle.model.specs.declared.Group.{Group}
use Rattle.model.proofs.Gather.{All, all-at}
use Rattle.model.proofs.Joined.{joined-append, order-in_depth}
use Rattle.model.proofs.Wrote.{wrote_nothing, wrote_then}
use Rattle.group_order.specs.Next.{first_group}
use Rattle.group_order.proofs.Remaining.{Remaining, remaining-begins, none-remains}
use Rattle.group_counts.proofs.Counted.{wrote-front}
use Rattle.dimacs.specs.Text.{clause_text}
use Rattle.dimacs.proofs.Text.{clause_text-append}
use Rattle.program_output.specs.Pieces.{TextDue, Continues}
use Rattle.program_output.specs.Order.{OrderHas}

-- a group that stands in the order of the whole is a group of the depth
pub order_has-in_depth : (c : Netlist) (k : ℕ) (g : Group) → OrderHas c k g → in_depth (ports c) k g ≡ true
order_has-in_depth c k g s =
    all-at s.before g s.behind (subst (All (λ x. in_depth (ports c) k x ≡ true)) s.order (order-in_depth (ports c) k))

-- the text of groups
abbrev text_of : Netlist → ℕ → List Group → List ℕ
text_of c k gs = clause_text (joined (numbers_of c k) gs)

text_of-append : (c : Netlist) (k : ℕ) (gs hs : List Group) → text_of c k (gs ++ hs) ≡ text_of c k gs ++ text_of c k hs
text_of-append c k gs hs =
    ap clause_text (joined-append (numbers_of c k) gs hs) ∙ clause_text-append (joined (numbers_of c k) gs) (joined (numbers_of c k) hs)

text_of-one : (c : Netlist) (k : ℕ) (g : Group) → text_of c k (g ∷ []) ≡ clause_text (numbers_of c k g)
unfolding joined
text_of-one c k g = ap clause_text (append-nil (numbers_of c k g))

-- Of the groups `due`, the first ones (`printed`) have their text at the start of the buffer, and `next` is the first of those that remain
pub record SoFar (c : Netlist) (k : ℕ) (old new : List ℕ) (bytes : ℕ) (next : Option Group) (due : List Group) : Type 0 where
  pub printed : List Group
  pub remaining : List Group
  pub in_order_lem : due ≡ printed ++ remaining
  pub wrote : Wrote (text_of c k printed) old new bytes
  next-remaining : next ≡ first_group remaining

-- before the first group is printed
pub nothing_yet : (c : Netlist) (k : ℕ) (old : List ℕ) (next : Option Group) (from : List Group) → next ≡ first_group from
    → SoFar c k old old 0 next from
unfolding clause_text joined
nothing_yet c k old next from h =
    record { printed = []; remaining = from; in_order_lem = refl; wrote = wrote_nothing old; next-remaining = h }

module _ {c : Netlist} {k : ℕ} {old mid : List ℕ} {bytes : ℕ} {due : Group} (before from : List Group)
    (order : group_order (ports c) k ≡ before ++ from) (p : SoFar c k old mid bytes (Some due) from) where
  rest : Remaining due p.remaining
  rest = remaining-begins due p.remaining p.next-remaining

  whole : from ≡ p.printed ++ due ∷ rest.behind
  whole = p.in_order_lem ∙ ap (λ (t : List Group). p.printed ++ t) rest.begins

  -- the group that is next stands in the order of the whole
  pub order_has-due : OrderHas c k due
  order_has-due =
      record {
        before = before ++ p.printed;
        behind = rest.behind;
        order = order ∙ ap (λ (t : List Group). before ++ t) whole ∙ sym (append_assoc before p.printed (due ∷ rest.behind));
      }

  -- its text behind that of the others
  pub one_more : (part : List ℕ) (n : ℕ) (next : Option Group)
      → Wrote (clause_text (numbers_of c k due)) (mid_of bytes (length mid - bytes) mid) part n
      → ((xs ys : List Group) → group_order (ports c) k ≡ xs ++ due ∷ ys → next ≡ first_group ys)
      → SoFar c k old (put_mid bytes (length mid - bytes) mid part) (bytes + n) next from
  unfolding order_has-due
  one_more part n next w follows =
      record {
        printed = p.printed ++ due ∷ [];
        remaining = rest.behind;
        in_order_lem = whole ∙ sym (append_assoc p.printed (due ∷ []) rest.behind);
        wrote =
            subst (λ (t : List ℕ). Wrote t old (put_mid bytes (length mid - bytes) mid part) (bytes + n)) (sym text)
            (wrote_then (text_of c k p.printed) (clause_text (numbers_of c k due)) old mid part bytes n p.wrote w);
        next-remaining = follows order_has-due.before order_has-due.behind order_has-due.order;
      }
    where
      text : text_of c k (p.printed ++ due ∷ []) ≡ text_of c k p.printed ++ clause_text (numbers_of c k due)
      text =
          text_of-append c k p.printed (due ∷ [])
          ∙ ap (λ (t : List ℕ). text_of c k p.printed ++ t) (text_of-one c k due)

-- where the groups so far are the piece: of the text that was due, it is the beginning
pub piece-continues : {c : Netlist} {k : ℕ} {old new text : List ℕ} {bytes : ℕ} {next first : Option Group} (d : TextDue c k first text)
    → SoFar c k old new bytes next d.groups → Continues c k text new (record { bytes = bytes; next = next })
piece-continues {c} {k} d p =
    record {
      rest = text_of c k p.remaining;
      text-is =
          d.text-is ∙ ap (text_of c k) p.in_order_lem ∙ text_of-append c k p.printed p.remaining
          ∙ ap (λ (t : List ℕ). t ++ text_of c k p.remaining) (sym (wrote-front p.wrote));
      rest-due =
          record {
            before = d.before ++ p.printed;
            groups = p.remaining;
            order =
                d.order ∙ ap (λ (t : List Group). d.before ++ t) p.in_order_lem
                ∙ sym (append_assoc d.before p.printed p.remaining);
            next-is = p.next-remaining;
            text-is = refl;
          };
    }

-- at the start all groups are due
pub all-due : (c : Netlist) (k : ℕ) (next : Option Group) → next ≡ first_group (group_order (ports c) k)
    → TextDue c k next (text_of c k (group_order (ports c) k))
all-due c k next h = record { before = []; groups = group_order (ports c) k; order = refl; next-is = h; text-is = refl }

-- the group that is next stands in the order of the whole
pub due-order_has : {c : Netlist} {k : ℕ} {g : Group} {text : List ℕ} → TextDue c k (Some g) text → OrderHas c k g
due-order_has {c} {k} {g} d =
    let first = remaining-begins g d.groups d.next-is in
    record { before = d.before; behind = first.behind; order = d.order ∙ ap (λ (t : List Group). d.before ++ t) first.begins }

-- at the end nothing is due
pub nothing-due : {c : Netlist} {k : ℕ} {text : List ℕ} → TextDue c k None text → text ≡ []
unfolding clause_text joined
nothing-due {c} {k} d = d.text-is ∙ ap (text_of c k) (none-remains d.groups d.next-is)
