-- The groups that there are at a depth (`in_depth`) stand in the order of the whole, and no others do. No contract cites this file.
use Prim.Native.Nat.{ℕ, zero, suc, ◌+◌, ◌-◌, ◌≤◌, ◌<◌}
use mathlib.Core.Path.{◌≡◌, refl, sym, ◌∙◌, ap, subst}
use mathlib.Core.Bool.{true, false, true≢false}
use mathlib.Core.List.{List, [], ◌∷◌, ◌++◌, append_assoc}
use mathlib.Core.Logic.{by_cases}
use native.Mathlib.Nat.{not-suc-le-zero}
use native.Mathlib.Decide.{dec_lt}
use native.Mathlib.Omega.{arith}
use borrow.Author.Tests.{leb-true}
use Rattle.model.specs.Gather.{gather, gather_down}
use Rattle.model.specs.Groups.{at_ports, frame_groups, group_order, in_depth}
use Rattle.model.specs.declared.Group.{Group}
use Rattle.model.specs.declared.Group.TheVariants.{Wires, Pair, Closing, Property}
use Rattle.model.proofs.Gather.{All, all-at}
use Rattle.model.proofs.Joined.{pair-in_depth, closing-in_depth, order-in_depth}

-- a group stands in a list
abbrev pub StandsIn : Group → List Group → Type 0
StandsIn g zs = (xs : List Group) × (ys : List Group) × (zs ≡ xs ++ g ∷ ys)

stands-first : (g : Group) (ys : List Group) → StandsIn g (g ∷ ys)
stands-first g ys = ([], ys, refl)

-- in the first of two joined lists, and in the second
stands-left : (g : Group) (xs ys : List Group) → StandsIn g xs → StandsIn g (xs ++ ys)
stands-left g xs ys s = (s.0, s.1 ++ ys, ap (λ (zs : List Group). zs ++ ys) s.2 ∙ append_assoc s.0 (g ∷ s.1) ys)

stands-right : (g : Group) (xs ys : List Group) → StandsIn g ys → StandsIn g (xs ++ ys)
stands-right g xs ys s = (xs ++ s.0, s.1, ap (λ (zs : List Group). xs ++ zs) s.2 ∙ sym (append_assoc xs s.0 (g ∷ s.1)))

-- in one of the lists gathered
stands-gather : (g : Group) (n : ℕ) (f : ℕ → List Group) (i : ℕ) → i < n → StandsIn g (f i) → StandsIn g (gather n f)
unfolding gather
stands-gather g zero f i h s = absurd (not-suc-le-zero h)
stands-gather g (suc n) f i h s =
    by_cases (dec_lt i n)
    (λ l. stands-left g (gather n f) (f n) (stands-gather g n f i l s))
    (λ l. let e : i ≡ n = omega arith in stands-right g (gather n f) (f n) (subst (λ (x : ℕ). StandsIn g (f x)) e s))

stands-gather_down : (g : Group) (n : ℕ) (f : ℕ → List Group) (i : ℕ) → i < n → StandsIn g (f i) → StandsIn g (gather_down n f)
unfolding gather_down
stands-gather_down g zero f i h s = absurd (not-suc-le-zero h)
stands-gather_down g (suc n) f i h s =
    by_cases (dec_lt i n)
    (λ l. stands-right g (f n) (gather_down n f) (stands-gather_down g n f i l s))
    (λ l. let e : i ≡ n = omega arith in stands-left g (f n) (gather_down n f) (subst (λ (x : ℕ). StandsIn g (f x)) e s))

-- at one of the ports
stands-ports : (f : ℕ → Group) (ports p : ℕ) → (1 ≤ p) × (p ≤ ports) → StandsIn (f p) (gather ports (λ x. f (suc x) ∷ []))
stands-ports f ports p b =
    let e : suc (p - 1) ≡ p = omega (arith, b.0) in
    stands-gather (f p) ports (λ x. f (suc x) ∷ []) (p - 1) (omega (arith, b.0, b.1)) (rw e (stands-first (f p) []))

module _ (ports k : ℕ) where
  -- in a frame of the order
  stands-frame : (g : Group) (i : ℕ) → i ≤ k → StandsIn g (frame_groups ports i) → StandsIn g (group_order ports k)
  unfolding group_order
  stands-frame g i h s =
      stands-left g (gather (k + 1) (frame_groups ports)) (Property ∷ []) (stands-gather g (k + 1) (frame_groups ports) i (omega arith) s)

  pub in_order_lem : (g : Group) → in_depth ports k g ≡ true → StandsIn g (group_order ports k)
  unfolding group_order frame_groups at_ports
  in_order_lem (Wires i) h =
      stands-frame (Wires i) i (leb-true i k (unfold in_depth in h))
      (stands-left (Wires i) (Wires i ∷ gather_down i (λ j. at_ports ports (Pair j i))) (at_ports ports (Closing i)) (stands-first (Wires i) (gather_down i (λ j. at_ports ports (Pair j i)))))
  in_order_lem (Pair j i p) h =
      let there = (pair-in_depth ports k j i p).0 h in
      stands-frame (Pair j i p) i there.0
      (stands-left (Pair j i p) (Wires i ∷ gather_down i (λ j. at_ports ports (Pair j i))) (at_ports ports (Closing i))
      (stands-right (Pair j i p) (Wires i ∷ []) (gather_down i (λ j. at_ports ports (Pair j i)))
      (stands-gather_down (Pair j i p) i (λ j. at_ports ports (Pair j i)) j there.1 (stands-ports (Pair j i) ports p there.2))))
  in_order_lem (Closing i p) h =
      let there = (closing-in_depth ports k i p).0 h in
      stands-frame (Closing i p) i there.0
      (stands-right (Closing i p) (Wires i ∷ gather_down i (λ j. at_ports ports (Pair j i))) (at_ports ports (Closing i)) (stands-ports (Closing i) ports p there.1))
  in_order_lem Property h = stands-right Property (gather (k + 1) (frame_groups ports)) (Property ∷ []) (stands-first Property [])

  pub not-in-order : (g : Group) → in_depth ports k g ≡ false → (xs ys : List Group) → group_order ports k ≡ xs ++ g ∷ ys → ⊥
  not-in-order g h xs ys o =
      true≢false (sym (all-at xs g ys (subst (All (λ x. in_depth ports k x ≡ true)) o (order-in_depth ports k))) ∙ h)
