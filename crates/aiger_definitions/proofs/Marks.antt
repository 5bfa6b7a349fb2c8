-- Laws of the table of marks and of the block that it serves (specs/Blocks.antt). No contract cites this file.
use Prim.Native.Nat.{ℕ, ◌+◌, ◌-◌, ◌≤◌, ◌<◌}
use mathlib.Core.Path.{◌≡◌, refl, sym, ◌∙◌}
use mathlib.Core.Bool.{Bool, true, false, cond, ◌&&◌, ◌||◌, beq, or-false, or-true, true≢false}
use mathlib.Core.Logic.{by_cases}
use mathlib.Core.List.{List}
use native.Mathlib.Decide.{ℕ_discrete, dec_lt, dec_le}
use native.Mathlib.Nat.{le_refl}
use native.Mathlib.Numerals.{add-one}
use native.Mathlib.Omega.{arith}
use lib.Dec.{eqb, leb, ltb}
use lib.ListN.{length, get_or, set, length-set}
use lib.Seq.{get_or-set_same, get_or-set_other}
use borrow.Author.Tests.{eq-eqb, ne_eqb, le-leb, lt-leb, lt-ltb, leb-true, ltb-true}
use Rattle.model.specs.Search.{any_below, seen}
use Rattle.model.proofs.Booleans.{and-true}
use Rattle.aiger_definitions.specs.Blocks.{Marks, with_mark, is_found, nearest}

-- what stands at a place below p + 1: below p, or at p
pub seen_next : (f : ℕ → ℕ) (p v : ℕ) → seen f (p + 1) v ≡ (seen f p v || eqb (f p) v)
unfolding seen any_below
seen_next f p v = rw add-one

-- what was seen is not news
pub seen-again : (f : ℕ → ℕ) (p d : ℕ) → seen f p d ≡ true → (v : ℕ) → seen f p v ≡ (seen f p v || eqb d v)
seen-again f p d h v = by_cases (ℕ_discrete d v) same other
  where
    same : d ≡ v → seen f p v ≡ (seen f p v || eqb d v)
    same e = let w : seen f p v ≡ true = rw e at h in rw w

    other : (d ≡ v → ⊥) → seen f p v ≡ (seen f p v || eqb d v)
    other n = rw (ne_eqb d v n) (sym (or-false (seen f p v)))

-- a table without marks, where nothing of the block was seen
pub marks-none : {f : ℕ → ℕ} {p base : ℕ} {marks : List Bool} → ((x : ℕ) → x < length marks → get_or marks x false ≡ false)
    → ((v : ℕ) → base ≤ v → seen f p v ≡ false) → Marks f p base marks
marks-none {f} {p} {base} none unseen = record { has = λ x l. none x l ∙ sym (unseen (base + x) (omega arith)) }

pub length-with_mark : (base v : ℕ) (marks : List Bool) → length (with_mark base v marks) ≡ length marks
unfolding with_mark
length-with_mark base v marks = here (leb base v)
  where
    here : (b : Bool) → length (cond b (set marks (v - base) true) marks) ≡ length marks
    here true = length-set marks (v - base) true
    here false = refl

module _ {f : ℕ → ℕ} {p base : ℕ} {marks : List Bool} (m : Marks f p base marks) where
  -- one mark more, where one number more was seen
  pub marks-with_mark : (q d : ℕ) → ((v : ℕ) → seen f q v ≡ (seen f p v || eqb d v)) → Marks f q base (with_mark base d marks)
  unfolding with_mark
  marks-with_mark q d step = by_cases (dec_le base d) inside below
    where
      at : base ≤ d → (x : ℕ) → x < length marks → get_or (set marks (d - base) true) x false ≡ seen f q (base + x)
      at b x l =
          by_cases (ℕ_discrete x (d - base))
          (λ e.
          let own : base + x ≡ d = omega arith in
          rw (own, step d, eq-eqb d d refl, or-true (seen f p d), e) (get_or-set_same marks (d - base) true false (omega arith)))
          (λ n.
          let apart : eqb d (base + x) ≡ false = ne_eqb d (base + x) (λ e. n (omega arith)) in
          get_or-set_other marks (d - base) x true false n
          ∙ m.has x l
          ∙ sym (step (base + x) ∙ (rw apart (or-false (seen f p (base + x))))))

      inside : base ≤ d → Marks f q base (cond (leb base d) (set marks (d - base) true) marks)
      inside b = rw (le-leb base d b) (record { has = λ x l. at b x (rw length-set at l) })

      apart_below : (base ≤ d → ⊥) → (x : ℕ) → seen f q (base + x) ≡ seen f p (base + x)
      apart_below n x =
          let apart : eqb d (base + x) ≡ false = ne_eqb d (base + x) (λ e. n (omega arith)) in
          step (base + x) ∙ rw apart (or-false (seen f p (base + x)))

      below : (base ≤ d → ⊥) → Marks f q base (cond (leb base d) (set marks (d - base) true) marks)
      below n = rw (lt-leb base d (omega arith)) (record { has = λ x l. m.has x l ∙ sym (apart_below n x) })

  -- a variable of the block is found where its mark is the one looked for
  pub found_in : (v : ℕ) (mark : Bool) → base ≤ v → v - base < length marks → is_found marks base v mark ≡ beq (seen f p v) mark
  unfolding is_found
  found_in v mark b l =
      let own : base + (v - base) ≡ v = omega arith in
      rw (le-leb base v b, lt-ltb (v - base) (length marks) l, m.has (v - base) l, own)

  in_block : (v : ℕ) (mark : Bool) → is_found marks base v mark ≡ true → (base ≤ v) × (v - base < length marks)
  unfolding is_found
  in_block v mark h =
      let outer = (and-true (leb base v) _).0 h in
      let inner = (and-true (ltb (v - base) (length marks)) _).0 outer.1 in
      (leb-true base v outer.0, ltb-true (v - base) (length marks) inner.0)

  pub found-is : (v : ℕ) (mark : Bool) → is_found marks base v mark ≡ true → (base ≤ v) × (beq (seen f p v) mark ≡ true)
  found-is v mark h = let parts = in_block v mark h in (parts.0, sym (found_in v mark parts.0 parts.1) ∙ h)

-- the nearest variable behind the block: at most what it was, behind the block's first, and no smaller than one behind the block
module _ (base size next v : ℕ) where
  is_nearer : Bool
  is_nearer = leb base v && (leb size (v - base) && ltb v next)

  nearer-is : is_nearer ≡ true → (base ≤ v) × (size ≤ v - base) × (v < next)
  unfolding is_nearer
  nearer-is h =
      let outer = (and-true (leb base v) (leb size (v - base) && ltb v next)).0 h in
      let inner = (and-true (leb size (v - base)) (ltb v next)).0 outer.1 in
      (leb-true base v outer.0, leb-true size (v - base) inner.0, ltb-true v next inner.1)

  is-nearer : base ≤ v → size ≤ v - base → v < next → is_nearer ≡ true
  unfolding is_nearer
  is-nearer a b c = rw (le-leb base v a, le-leb size (v - base) b, lt-ltb v next c)

  pub nearest-le : nearest base size next v ≤ next
  unfolding nearest is_nearer
  nearest-le = here is_nearer refl
    where
      here : (b : Bool) → is_nearer ≡ b → cond b v next ≤ next
      here true e = let h = nearer-is e in omega arith
      here false e = le_refl next

  pub nearest-above : base < next → 0 < size → base < nearest base size next v
  unfolding nearest is_nearer
  nearest-above l k = here is_nearer refl
    where
      here : (b : Bool) → is_nearer ≡ b → base < cond b v next
      here true e = let h = nearer-is e in omega arith
      here false e = l

  pub nearest-behind : base ≤ v → v < nearest base size next v → v - base < size
  unfolding nearest is_nearer
  nearest-behind a l = by_cases (dec_lt (v - base) size) (λ h. h) (λ n. absurd (here is_nearer refl l n))
    where
      here : (b : Bool) → is_nearer ≡ b → v < cond b v next → (v - base < size → ⊥) → ⊥
      here true e c n = omega arith
      here false e c n = true≢false (sym (is-nearer a (omega arith) c) ∙ e)
