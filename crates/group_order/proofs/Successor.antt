-- The first group in the order of the whole, what follows each group, and that fewer remain then. No contract cites this file.
use Prim.Native.Nat.{ℕ, zero, suc, zero-le, ◌+◌, ◌-◌, ◌*◌, ◌≤◌, ◌<◌}
use mathlib.Core.Path.{◌≡◌, refl, sym, ◌∙◌, ap, subst}
use mathlib.Core.Bool.{Bool, true, false, cond}
use mathlib.Core.List.{List, [], ◌∷◌, ◌++◌, append_assoc}
use native.Mathlib.Nat.{add_comm, le_of_suc-le, le_refl, not-suc-le-zero, mul-le-mul_left, suc-mul}
use native.Mathlib.Numerals.{add-one}
use native.Mathlib.Omega.{arith}
use lib.Dec.{eqb, ltb, leb}
use borrow.Author.Tests.{le-leb, lt-leb, lt-ltb, le-ltb, ne_eqb, ltb-true}
use Rattle.std.specs.Prelude.{Option, Some, None}
use Rattle.model.specs.Gather.{gather, gather_down}
use Rattle.model.specs.Groups.{at_ports, frame_groups, group_order, in_depth}
use Rattle.model.specs.declared.Group.{Group}
use Rattle.model.specs.declared.Group.TheVariants.{Wires, Pair, Closing, Property}
use Rattle.group_order.proofs.InOrder.{in_order_lem, not-in-order}
use Rattle.group_order.specs.Next.{first_group, remaining_after, remaining_from}

-- the first of a list, or else what comes after it
abbrev first_or : Option Group → List Group → Option Group
first_or e [] = e
first_or e (g ∷ gs) = Some g

first_or-append : (e : Option Group) (xs ys : List Group) → first_or e (xs ++ ys) ≡ first_or (first_or e ys) xs
first_or-append e [] ys = refl
first_or-append e (x ∷ xs) ys = refl

module _ (ports : ℕ) where
  -- the wires of frame 0 come first, whatever stands behind the frames
  frames-first : (n : ℕ) (ys : List Group) → first_group (gather (suc n) (frame_groups ports) ++ ys) ≡ Some (Wires 0)
  unfolding gather frame_groups
  frames-first zero ys = refl
  frames-first (suc n) ys =
      ap first_group (append_assoc (gather (suc n) (frame_groups ports)) (frame_groups ports (suc n)) ys)
      ∙ frames-first n (frame_groups ports (suc n) ++ ys)

  pub order-first : (k : ℕ) → first_group (group_order ports k) ≡ Some (Wires 0)
  unfolding group_order
  order-first k = rw (add-one k) (frames-first k (Property ∷ []))

-- the group after a group, by its kind and numbers
abbrev pub successor : ℕ → ℕ → Group → Option Group
successor ports k (Wires i) = cond (eqb i 0) (Some (Closing i 1)) (Some (Pair (i - 1) i 1))
successor ports k (Pair j i p) =
    cond (ltb p ports) (Some (Pair j i (p + 1))) (cond (eqb j 0) (Some (Closing i 1)) (Some (Pair (j - 1) i 1)))
successor ports k (Closing i p) = cond (ltb p ports) (Some (Closing i (p + 1))) (cond (ltb i k) (Some (Wires (i + 1))) (Some Property))
successor ports k Property = None

module _ (ports k : ℕ) where
  -- each group's successor is the next of the list, the last one's is e
  abbrev Linked : Option Group → List Group → Type 0
  Linked e [] = Unit {0}
  Linked e (g ∷ gs) = (successor ports k g ≡ first_or e gs) × Linked e gs

  linked-append : (e : Option Group) (xs ys : List Group) → Linked (first_or e ys) xs → Linked e ys → Linked e (xs ++ ys)
  linked-append e [] ys p q = q
  linked-append e (x ∷ xs) ys p q = (p.0 ∙ sym (first_or-append e xs ys), linked-append e xs ys p.1 q)

  -- in a linked list, whatever stands before it, a group is followed by its successor
  linked-at : (e : Option Group) (xs : List Group) (g : Group) (ys : List Group) → Linked e (xs ++ g ∷ ys) → successor ports k g ≡ first_or e ys
  linked-at e [] g ys h = h.0
  linked-at e (x ∷ xs) g ys h = linked-at e xs g ys h.1

  -- a group at the first n ports, where the last of all ports is followed by e
  at_port : (ℕ → Group) → Option Group → ℕ → Option Group
  at_port f e n = cond (ltb n ports) (Some (f (suc n))) e

  ports-linked : (f : ℕ → Group) (e : Option Group) → ((p : ℕ) → successor ports k (f p) ≡ at_port f e p) → (n : ℕ) → n ≤ ports
      → Linked (at_port f e n) (gather n (λ x. f (suc x) ∷ []))
  unfolding gather at_port
  ports-linked f e follows zero h = tt
  ports-linked f e follows (suc n) h =
      linked-append (at_port f e (suc n)) (gather n (λ x. f (suc x) ∷ [])) (f (suc n) ∷ [])
      (rw (lt-ltb n ports h) at (ports-linked f e follows n (le_of_suc-le h)))
      (follows (suc n), tt)

  -- at all of them
  all-linked : (f : ℕ → Group) (e : Option Group) → ((p : ℕ) → successor ports k (f p) ≡ at_port f e p)
      → Linked e (gather ports (λ x. f (suc x) ∷ []))
  unfolding at_port
  all-linked f e follows = rw (le-ltb ports ports (le_refl ports)) at (ports-linked f e follows ports (le_refl ports))

  module _ (some : 1 ≤ ports) where
    -- the first port's comes first
    ports-first : (f : ℕ → Group) (e : Option Group) (n : ℕ) → 1 ≤ n → first_or e (gather n (λ x. f (suc x) ∷ [])) ≡ Some (f 1)
    unfolding gather
    ports-first f e zero h = absurd (not-suc-le-zero h)
    ports-first f e (suc zero) h = refl
    ports-first f e (suc (suc n)) h =
        first_or-append e (gather (suc n) (λ x. f (suc x) ∷ [])) (f (suc (suc n)) ∷ []) ∙ ports-first f (Some (f (suc (suc n)))) (suc n) (omega arith)

    pair-first : (i j : ℕ) (e : Option Group) → first_or e (at_ports ports (Pair j i)) ≡ Some (Pair j i 1)
    unfolding at_ports
    pair-first i j e = ports-first (Pair j i) e ports some

    closing-first : (i : ℕ) (e : Option Group) → first_or e (at_ports ports (Closing i)) ≡ Some (Closing i 1)
    unfolding at_ports
    closing-first i e = ports-first (Closing i) e ports some

    -- the pairs of frame i from j = n - 1 down to 0, before its closing
    pairs_first : (i n : ℕ)
        → first_or (Some (Closing i 1)) (gather_down n (λ j. at_ports ports (Pair j i))) ≡ cond (eqb n 0) (Some (Closing i 1)) (Some (Pair (n - 1) i 1))
    unfolding gather_down
    pairs_first i zero = refl
    pairs_first i (suc n) =
        let e : n ≡ suc n - 1 = omega arith in
        first_or-append (Some (Closing i 1)) (at_ports ports (Pair n i)) (gather_down n (λ j. at_ports ports (Pair j i))) ∙ pair-first i n _
        ∙ rw (ne_eqb (suc n) 0 (λ q. omega arith)) (ap (λ (j : ℕ). Some (Pair j i 1)) e)

    pairs-linked : (i n : ℕ) → Linked (Some (Closing i 1)) (gather_down n (λ j. at_ports ports (Pair j i)))
    unfolding gather_down at_ports at_port
    pairs-linked i zero = tt
    pairs-linked i (suc n) =
        linked-append (Some (Closing i 1)) (at_ports ports (Pair n i)) (gather_down n (λ j. at_ports ports (Pair j i)))
        (all-linked (Pair n i) _ (λ p. rw (add-one p, pairs_first i n))) (pairs-linked i n)

    -- frame i, before whatever follows its closing
    frame-linked : (i : ℕ) → Linked (cond (ltb i k) (Some (Wires (i + 1))) (Some Property)) (frame_groups ports i)
    unfolding frame_groups at_ports at_port
    frame-linked i =
        let e = cond (ltb i k) (Some (Wires (i + 1))) (Some Property) in
        linked-append e (Wires i ∷ gather_down i (λ j. at_ports ports (Pair j i))) (at_ports ports (Closing i))
        (sym (pairs_first i i) ∙ ap (λ (z : Option Group). first_or z (gather_down i (λ j. at_ports ports (Pair j i)))) (sym (closing-first i e)), subst (λ (z : Option Group). Linked z (gather_down i (λ j. at_ports ports (Pair j i)))) (sym (closing-first i e)) (pairs-linked i i))
        (all-linked (Closing i) e (λ p. rw (add-one p)))

    -- what follows frame n - 1: the next frame, or the property
    after : ℕ → Option Group
    after n = cond (leb n k) (Some (Wires n)) (Some Property)

    frames-linked : (n : ℕ) → n ≤ suc k → Linked (after n) (gather n (frame_groups ports))
    unfolding gather after
    frames-linked zero b = tt
    frames-linked (suc n) b =
        linked-append (after (suc n)) (gather n (frame_groups ports)) (frame_groups ports n)
        (subst (λ (e : Option Group). Linked e (gather n (frame_groups ports))) (next-frame n b) (frames-linked n (le_of_suc-le b)))
        (rw (add-one n) at (frame-linked n))
      where
        next-frame : (n : ℕ) → suc n ≤ suc k → after n ≡ first_or (after (suc n)) (frame_groups ports n)
        next-frame n b = unfold after frame_groups in rw (le-leb n k (omega arith))

    -- the order of the whole is linked, and nothing follows the property
    order-linked : Linked None (group_order ports k)
    unfolding group_order after
    order-linked =
        linked-append None (gather (k + 1) (frame_groups ports)) (Property ∷ [])
        (subst (λ (n : ℕ). Linked (Some Property) (gather n (frame_groups ports))) (sym (add-one k))
        (rw (lt-leb (suc k) k (omega arith)) at (frames-linked (suc k) (omega arith))))
        (refl, tt)

    -- wherever a group stands in the order of the whole, its successor comes next
    successor-next : (g : Group) (xs ys : List Group) → group_order ports k ≡ xs ++ g ∷ ys → successor ports k g ≡ first_group ys
    successor-next g xs ys h = linked-at None xs g ys (subst (Linked None) h order-linked) ∙ first-end ys
      where
        first-end : (ys : List Group) → first_or None ys ≡ first_group ys
        first-end [] = refl
        first-end (y ∷ ys) = refl

    -- after the closing of an earlier frame
    closing-remaining : (i : ℕ) → i < k → remaining_from ports k (Some (Wires (i + 1))) ≤ (k - i) * (ports * (k + 1) + 1) + 1
    closing-remaining i h =
        let d = k - (i + 1) in
        let e : k - i ≡ suc d = omega arith in
        let frame = ports * (k + 1) + 1 in
        let m : suc d * frame ≡ frame + d * frame = suc-mul d frame ∙ add_comm (d * frame) frame in
        let within : ports * (i + 1 + 1) ≤ ports * (k + 1) = mul-le-mul_left ports (omega arith) in
        rw (e, m) (omega (arith, within))

    -- each step leaves fewer groups than before it
    successor-remaining : (g : Group) → remaining_from ports k (successor ports k g) ≤ remaining_after ports k g
    successor-remaining (Wires zero) = omega arith
    successor-remaining (Wires (suc i)) =
        let e : suc i - 1 ≡ i = omega arith in
        let more : ports * (suc i + 1) ≡ ports * (i + 1) + ports = omega arith in
        rw (ne_eqb (suc i) 0 (λ q. omega arith), e, more) (omega arith)
    successor-remaining (Pair j i p) = by-test (ltb p ports) refl
      where
        down : (j : ℕ) → remaining_from ports k (cond (eqb j 0) (Some (Closing i 1)) (Some (Pair (j - 1) i 1))) ≤ remaining_after ports k (Pair j i p)
        down zero = omega arith
        down (suc j) =
            let e : suc j - 1 ≡ j = omega arith in
            let more : ports * (suc j + 1) ≡ ports * (j + 1) + ports = omega arith in
            rw (ne_eqb (suc j) 0 (λ q. omega arith), e, more) (omega arith)

        by-test : (b : Bool) → ltb p ports ≡ b
            → remaining_from ports k (cond b (Some (Pair j i (p + 1))) (cond (eqb j 0) (Some (Closing i 1)) (Some (Pair (j - 1) i 1))))
            ≤ remaining_after ports k (Pair j i p)
        by-test true e = omega (arith, ltb-true p ports e)
        by-test false e = down j
    successor-remaining (Closing i p) = by-test (ltb p ports) refl
      where
        on : (b : Bool) → ltb i k ≡ b → remaining_from ports k (cond b (Some (Wires (i + 1))) (Some Property)) ≤ remaining_after ports k (Closing i p)
        on true e = omega (arith, closing-remaining i (ltb-true i k e))
        on false e = omega arith

        by-test : (b : Bool) → ltb p ports ≡ b
            → remaining_from ports k (cond b (Some (Closing i (p + 1))) (cond (ltb i k) (Some (Wires (i + 1))) (Some Property)))
            ≤ remaining_after ports k (Closing i p)
        by-test true e = omega (arith, ltb-true p ports e)
        by-test false e = on (ltb i k) refl
    successor-remaining Property = omega arith

  -- what `next_group` promises
  abbrev pub Follows : Group → Option Group → Type 0
  Follows g r =
      record {
        follows : (xs ys : List Group) → group_order ports k ≡ xs ++ g ∷ ys → r ≡ first_group ys;
        absent : ((xs ys : List Group) → group_order ports k ≡ xs ++ g ∷ ys → ⊥) → r ≡ None;
        ends : remaining_from ports k r ≤ remaining_after ports k g;
      }

  -- for a group of the depth, known by its kind
  pub follows : 1 ≤ ports → (g g' : Group) (r : Option Group) → in_depth ports k g ≡ true → g ≡ g' → successor ports k g' ≡ r → Follows g r
  follows some g g' r there e h = record {
    follows = λ xs ys o. sym answer ∙ successor-next some g xs ys o;
    absent = λ absent. let at = in_order_lem ports k g there in absurd (absent at.0 at.1 at.2);
    ends = subst (λ (n : Option Group). remaining_from ports k n ≤ remaining_after ports k g) answer (successor-remaining some g);
  }
    where
      answer : successor ports k g ≡ r
      answer = ap (successor ports k) e ∙ h

  -- and for any other
  pub none-follows : (g : Group) → in_depth ports k g ≡ false → Follows g None
  none-follows g h = record { follows = λ xs ys o. absurd (not-in-order ports k g h xs ys o); absent = λ absent. refl; ends = zero-le }
