-- Laws of what a pass over the lines finds for a block of variables, and of blocks joined (specs/Blocks.antt). No contract cites
-- this file.
use Prim.Native.Nat.{ℕ, ◌+◌, ◌-◌, ◌≤◌, ◌<◌, min}
use mathlib.Core.Path.{◌≡◌, refl, sym, subst, ◌∙◌}
use mathlib.Core.Bool.{Bool, true, false, cond, ◌&&◌, ◌||◌, beq, false≢true}
use mathlib.Core.Logic.{◌⊎◌, inl, inr, by_cases, ⊎_elim}
use mathlib.Core.List.{List}
use native.Mathlib.Decide.{dec_lt, dec_le}
use native.Mathlib.Nat.{le_refl, min-le_left, min-le_right, min-eq_left, min-eq_right}
use native.Mathlib.Omega.{arith}
use lib.Dec.{eqb, ltb}
use lib.ListN.{length}
use borrow.Author.Tests.{eq-eqb, eqb-true, lt-ltb, le-ltb}
use Rattle.model.specs.Search.{seen}
use Rattle.model.proofs.Booleans.{and-true, or-true, neither-true, not-true-false}
use Rattle.aiger_definitions.specs.Blocks.{Marks, is_found, nearest, looked_at, Judged}
use Rattle.aiger_definitions.specs.declared.Uses.{Uses}
use Rattle.aiger_definitions.specs.declared.Found.{Found}
use Rattle.aiger_definitions.proofs.Marks.{found_in, found-is, nearest-le, nearest-behind}

-- the first fault, when one line more was looked at
record Lowered (hit : Bool) (line first r : ℕ) : Type 0 where
  below : r ≤ first
  hit-below : hit ≡ true → r ≤ line
  which : (r ≡ first) ⊎ ((hit ≡ true) × (r ≡ line))

lowered : (hit : Bool) (line first : ℕ) → Lowered hit line first (cond (hit && ltb line first) line first)
lowered false line first = record { below = le_refl first; hit-below = λ h. absurd (false≢true h); which = inl refl }
lowered true line first =
    by_cases (dec_lt line first)
    (λ l. rw (lt-ltb line first l) (record { below = omega arith; hit-below = λ h. le_refl line; which = inr (refl, refl) }))
    (λ l. rw (le-ltb line first (omega arith)) (record { below = le_refl first; hit-below = λ h. omega arith; which = inl refl }))

-- one line more of a pass
module _ {fault : ℕ → ℕ → Bool} {f : ℕ → ℕ} {n base line p : ℕ} {marks : List Bool} (u : Uses) (found : Found)
    (m : Marks f p base marks) (due : line < n)
    (is : (v : ℕ) → fault line v ≡ ((eqb u.first v || eqb u.second v) && beq (seen f p v) u.marked))
    (old : Judged fault n base line found.first found.next) where
  hit : Bool
  hit = is_found marks base u.first u.marked || is_found marks base u.second u.marked

  next_by : ℕ
  next_by = nearest base (length marks) (nearest base (length marks) found.next u.first) u.second

  first_below : next_by ≤ nearest base (length marks) found.next u.first
  unfolding next_by
  first_below = nearest-le base (length marks) (nearest base (length marks) found.next u.first) u.second

  next-below : next_by ≤ found.next
  next-below = omega (arith, first_below, nearest-le base (length marks) found.next u.first)

  -- a fault of the line in a variable up to the next is found
  is-hit : (v : ℕ) → base ≤ v → v < next_by → fault line v ≡ true → hit ≡ true
  unfolding hit next_by
  is-hit v b l h =
      let parts = (and-true (eqb u.first v || eqb u.second v) (beq (seen f p v) u.marked)).0 (sym (is v) ∙ h) in
      ⊎_elim
      (λ (e : eqb u.first v ≡ true).
      let same = eqb-true u.first v e in
      let near : u.first - base < length marks =
      nearest-behind base (length marks) found.next u.first (omega arith) (omega (arith, first_below)) in
      (or-true _ (is_found marks base u.second u.marked)).1
      (inl (found_in m u.first u.marked (omega arith) near ∙ rw same parts.1)))
      (λ (e : eqb u.second v ≡ true).
      let same = eqb-true u.second v e in
      let near : u.second - base < length marks =
      nearest-behind base (length marks) (nearest base (length marks) found.next u.first) u.second (omega arith) (omega arith) in
      (or-true (is_found marks base u.first u.marked) _).1
      (inr (found_in m u.second u.marked (omega arith) near ∙ rw same parts.1)))
      ((or-true (eqb u.first v) (eqb u.second v)).0 parts.0)

  -- and what is found is a fault
  hit-is : hit ≡ true → (v : ℕ) × (base ≤ v) × (fault line v ≡ true)
  unfolding hit
  hit-is h =
      ⊎_elim
      (λ (e : is_found marks base u.first u.marked ≡ true).
      let known = found-is m u.first u.marked e in
      (u.first, known.0, is u.first ∙ rw (eq-eqb u.first u.first refl) known.1))
      (λ (e : is_found marks base u.second u.marked ≡ true).
      let known = found-is m u.second u.marked e in
      (u.second, known.0, is u.second ∙ (and-true _ _).1 ((or-true (eqb u.first u.second) _).1 (inr (eq-eqb u.second u.second refl)), known.1)))
      ((or-true _ _).0 h)

  pub judged-next : Judged fault n base (line + 1) (looked_at marks base line u found).first (looked_at marks base line u found).next
  unfolding looked_at hit next_by
  judged-next = by (cond (hit && ltb line found.first) line found.first) (lowered hit line found.first)
    where
      by : (r : ℕ) → Lowered hit line found.first r → Judged fault n base (line + 1) r next_by
      by r low =
          record {
            within = omega (arith, low.below, old.within);
            none = λ x v l k b c.
                by_cases (dec_lt x line)
                (λ before. old.none x v before (omega (arith, low.below)) b (omega (arith, next-below)))
                (λ here.
                let own : x ≡ line = omega arith in
                not-true-false (fault x v) (λ e. absurd (omega (arith, low.hit-below (is-hit v b c (rw own at e))))));
            there = λ l.
                ⊎_elim
                (λ (e : r ≡ found.first).
                let was = old.there (omega arith) in
                (was.0, omega (arith, was.1), was.2, subst (λ z. fault z was.0 ≡ true) (sym e) was.3))
                (λ (e : (hit ≡ true) × (r ≡ line)).
                let now = hit-is e.0 in
                (now.0, omega (arith, e.1), now.1, subst (λ z. fault z now.0 ≡ true) (sym e.1) now.2))
                low.which;
          }

-- before the first line that is looked at
pub judged-none : {fault : ℕ → ℕ → Bool} {n base next : ℕ} → ((v : ℕ) → base ≤ v → fault 0 v ≡ false) → Judged fault n base 1 n next
judged-none {fault} none =
    record {
      within = le_refl _;
      none = λ x v l k b c. let own : x ≡ 0 = omega arith in rw own (none v b);
      there = λ l. absurd (omega arith);
    }

-- the smaller of two is one of them
min-which : (a b : ℕ) → (min a b ≡ a) ⊎ (min a b ≡ b)
min-which a b = by_cases (dec_le a b) (λ l. inl (min-eq_left l)) (λ l. inr (min-eq_right {n = b} {m = a} (omega arith)))

pub min-above : {a b c : ℕ} → a < b → a < c → a < min b c
min-above {a} {b} {c} l k = ⊎_elim (λ (e : min b c ≡ b). omega arith) (λ (e : min b c ≡ c). omega arith) (min-which b c)

-- no block yet
pub judged-start : (fault : ℕ → ℕ → Bool) (n base : ℕ) → Judged fault n base n n base
judged-start fault n base =
    record { within = le_refl n; none = λ x v l k from to. absurd (omega arith); there = λ l. absurd (omega arith) }

-- fewer variables
pub judged-to : {fault : ℕ → ℕ → Bool} {n base line first next : ℕ} (end : ℕ) → end ≤ next → Judged fault n base line first next
    → Judged fault n base line first end
judged-to end h j = record { within = j.within; none = λ x v l k from to. j.none x v l k from (omega arith); there = j.there }

-- blocks from `base` to `mid` and on to `next`
pub judged-on : {fault : ℕ → ℕ → Bool} {n base mid next a b : ℕ} → base ≤ mid → Judged fault n base n a mid → Judged fault n mid n b next
    → Judged fault n base n (min a b) next
judged-on {fault} {n} {base} {mid} {next} {a} {b} order p q =
    record {
      within = omega (arith, min-le_left a b, p.within);
      none = λ x v l k from to.
          by_cases (dec_lt v mid)
          (λ h. p.none x v l (omega (arith, min-le_left a b)) from h)
          (λ h. q.none x v l (omega (arith, min-le_right a b)) (omega arith) to);
      there = λ l.
          ⊎_elim
          (λ (e : min a b ≡ a). let t = p.there (omega arith) in (t.0, omega (arith, t.1), t.2, subst (λ z. fault z t.0 ≡ true) (sym e) t.3))
          (λ (e : min a b ≡ b). let t = q.there (omega arith) in (t.0, omega (arith, t.1), omega (arith, t.2), subst (λ z. fault z t.0 ≡ true) (sym e) t.3))
          (min-which a b);
    }

-- two kinds of fault
pub judged-either : {f g : ℕ → ℕ → Bool} {n base a b c d : ℕ} → Judged f n base n a c → Judged g n base n b d
    → Judged (λ x v. f x v || g x v) n base n (min a b) (min c d)
judged-either {f} {g} {n} {base} {a} {b} {c} {d} p q =
    record {
      within = omega (arith, min-le_left a b, p.within);
      none = λ x v l k from to.
          (neither-true (f x v) (g x v)).1 (
            p.none x v l (omega (arith, min-le_left a b)) from (omega (arith, min-le_left c d)),
            q.none x v l (omega (arith, min-le_right a b)) from (omega (arith, min-le_right c d)),
          );
      there = λ l.
          ⊎_elim
          (λ (e : min a b ≡ a).
          let t = p.there (omega arith) in
          (t.0, omega (arith, t.1), t.2, (or-true (f (min a b) t.0) (g (min a b) t.0)).1 (inl (subst (λ z. f z t.0 ≡ true) (sym e) t.3))))
          (λ (e : min a b ≡ b).
          let t = q.there (omega arith) in
          (t.0, omega (arith, t.1), t.2, (or-true (f (min a b) t.0) (g (min a b) t.0)).1 (inr (subst (λ z. g z t.0 ≡ true) (sym e) t.3))))
          (min-which a b);
    }
