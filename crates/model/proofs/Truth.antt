-- What clauses over literals mean: each family of specs/Clauses.antt is true exactly where its equation holds. Nothing here knows a
-- variable's number. No contract cites this file.
use Prim.Native.Nat.{ℕ, zero, suc, ◌<◌}
use mathlib.Core.Path.{◌≡◌, refl, sym, ◌∙◌, ap, subst}
use mathlib.Core.Bool.{Bool, true, false, not, ◌&&◌, ◌||◌, beq, true≢false, false≢true, or-false, or_assoc, and_assoc}
use mathlib.Core.List.{List, [], ◌∷◌, ◌++◌}
use mathlib.Core.Logic.Iff
use mathlib.Core.Logic.{◌⊎◌, inl, inr, ◌↔◌, ⊎_elim, ⊎_map}
use native.Mathlib.Nat.{not-suc-le-zero, lt-suc_self, le_step}
use native.Mathlib.Omega.{arith}
use Rattle.model.specs.Bits.{bit}
use Rattle.model.specs.Netlist.{Start, given, unknown}
use Rattle.model.specs.Gather.{gather}
use Rattle.model.specs.Clauses.{Literal, known, plus, minus, Clause, neg, and_clauses, same_clauses, same_if_clauses, same_if_all_clauses, bit_clauses, PairLiterals, address_bit_clauses, unequal_of, all_bits, forwarded_clauses, agreed_clauses, agreed_reads, pair_clauses, ClosingLiterals, initial_read_clauses, initial_reads, held_clauses, held_reads, selected_of, some_source, closing_clauses}
use Rattle.model.specs.Numbers.{Assignment}
use borrow.Author.Tests.{not-true, not-false}
use Rattle.model.proofs.Below.{below_suc}
use Rattle.model.proofs.Gather.{Splits, splits-gather}
use Rattle.model.proofs.Booleans.{and-true, or-true, either, not-true-false, beq-true, eq_iff, tables-equal, implies_true, implied-by-all, all_true_lem, equal_if, if-equal}

-- the value of a literal under an assignment
unfoldable pub value : Assignment → Literal → Bool
value a (known b) = b
value a (plus v) = a v
value a (minus v) = not (a v)

-- whether some literal of a clause, and every clause of a list, is true, for whatever truth of literals
unfoldable pub some_of : (Literal → Bool) → Clause → Bool
some_of t [] = false
some_of t (l ∷ ls) = t l || some_of t ls

unfoldable pub every_of : (Literal → Bool) → List Clause → Bool
every_of t [] = true
every_of t (x ∷ xs) = some_of t x && every_of t xs

abbrev pub any_true : Assignment → Clause → Bool
any_true a = some_of (value a)

abbrev all_hold : Assignment → List Clause → Bool
all_hold a = every_of (value a)

abbrev pub AllHold : Assignment → List Clause → Type 0
AllHold a xs = all_hold a xs ≡ true

pub value-neg : (a : Assignment) (l : Literal) → value a (neg l) ≡ not (value a l)
unfolding value neg
value-neg a (known b) = refl
value-neg a (plus v) = refl
value-neg a (minus v) = not-not (a v)
  where
    not-not : (b : Bool) → b ≡ not (not b)
    not-not true = refl
    not-not false = refl

-- joined
some_of-append : (t : Literal → Bool) (x y : Clause) → some_of t (x ++ y) ≡ (some_of t x || some_of t y)
unfolding some_of
some_of-append t [] y = refl
some_of-append t (l ∷ x) y = ap (λ (r : Bool). t l || r) (some_of-append t x y) ∙ sym (or_assoc (t l) (some_of t x) (some_of t y))

every_of-append : (t : Literal → Bool) (xs ys : List Clause) → every_of t (xs ++ ys) ≡ (every_of t xs && every_of t ys)
unfolding every_of
every_of-append t [] ys = refl
every_of-append t (x ∷ xs) ys =
    ap (λ (r : Bool). some_of t x && r) (every_of-append t xs ys) ∙ sym (and_assoc (some_of t x) (every_of t xs) (every_of t ys))

every_of-splits : (t : Literal → Bool) → Splits (λ xs. every_of t xs ≡ true)
unfolding every_of
every_of-splits t =
    record { of_none = refl; of-both = λ xs ys. rw (every_of-append t xs ys) (and-true (every_of t xs) (every_of t ys)) }

-- one clause
pub all_hold-one : (a : Assignment) (x : Clause) → AllHold a (x ∷ []) ↔ (any_true a x ≡ true)
unfolding every_of
all_hold-one a x = (λ h. ((and-true (any_true a x) true).0 h).0, λ h. (and-true (any_true a x) true).1 (h, refl))

-- no clause, and one clause more
pub all_hold-none : (a : Assignment) → AllHold a [] ↔ Unit {0}
unfolding every_of
all_hold-none a = (λ h. tt, λ h. refl)

pub all_hold-cons : (a : Assignment) (x : Clause) (xs : List Clause) → AllHold a (x ∷ xs) ↔ ((any_true a x ≡ true) × AllHold a xs)
unfolding every_of
all_hold-cons a x xs = and-true (any_true a x) (all_hold a xs)

-- joined clauses hold where each part does
pub all_hold-splits : (a : Assignment) → Splits (AllHold a)
all_hold-splits a = every_of-splits (value a)

pub all_hold-append : (a : Assignment) (xs ys : List Clause) → AllHold a (xs ++ ys) ↔ (AllHold a xs × AllHold a ys)
all_hold-append a = (all_hold-splits a).of-both

pub all_hold-gather : (a : Assignment) (n : ℕ) (f : ℕ → List Clause) → AllHold a (gather n f) ↔ ((t : ℕ) → t < n → AllHold a (f t))
all_hold-gather a = splits-gather (all_hold-splits a)

-- a joined clause is true where some part is
pub any_true-gather : (a : Assignment) (n : ℕ) (f : ℕ → Clause)
    → (any_true a (gather n f) ≡ true) ↔ ((t : ℕ) × (t < n) × (any_true a (f t) ≡ true))
unfolding gather some_of
any_true-gather a zero f = (λ h. absurd (false≢true h), λ h. absurd (not-suc-le-zero h.1))
any_true-gather a (suc n) f = (
  λ h. ⊎_elim (λ e. let p = (any_true-gather a n f).0 e in (p.0, le_step p.1, p.2)) (λ e. (n, lt-suc_self n, e))
      ((or-true (any_true a (gather n f)) (any_true a (f n))).0 (sym (some_of-append (value a) (gather n f) (f n)) ∙ h)),
  λ h. some_of-append (value a) (gather n f) (f n) ∙ (or-true (any_true a (gather n f)) (any_true a (f n))).1
      (⊎_elim (λ b. inl ((any_true-gather a n f).1 (h.0, b, h.2)))
      (λ e. inr (subst (λ t. any_true a (f t) ≡ true) e h.2)) (below_suc h.0 n h.1)),
)

-- a clause of one literal
pub any_true-one : (a : Assignment) (l : Literal) → any_true a (l ∷ []) ≡ value a l
unfolding some_of
any_true-one a l = or-false (value a l)

-- g = x ∧ y
pub and_clauses-holds : (a : Assignment) (g x y : Literal)
    → AllHold a (and_clauses g x y) ↔ (value a g ≡ (value a x && value a y))
unfolding and_clauses neg every_of some_of value
and_clauses-holds a g x y =
    simp (value-neg a)
    (Iff.trans
    (eq_iff (tables-equal (λ _. test) (λ _ g x y. beq g (x && y)) refl true (value a g) (value a x) (value a y)))
    (beq-true (value a g) (value a x && value a y)))
  where
    test : Bool → Bool → Bool → Bool
    test g x y = all_hold a (and_clauses (known g) (known x) (known y))

-- q = d
pub same_clauses-holds : (a : Assignment) (q d : Literal) → AllHold a (same_clauses q d) ↔ (value a q ≡ value a d)
unfolding same_clauses neg every_of some_of value
same_clauses-holds a q d =
    simp (value-neg a)
    (Iff.trans
    (eq_iff (tables-equal (λ _ _. test) (λ _ _. beq) refl true true (value a q) (value a d)))
    (beq-true (value a q) (value a d)))
  where
    test : Bool → Bool → Bool
    test q d = all_hold a (same_clauses (known q) (known d))

-- where p is true, x = y
same_if_clauses-holds : (a : Assignment) (p x y : Literal)
    → AllHold a (same_if_clauses p x y) ↔ (value a p ≡ true → value a x ≡ value a y)
unfolding same_if_clauses neg every_of some_of value
same_if_clauses-holds a p x y =
    simp (value-neg a)
    (Iff.trans
    (eq_iff (tables-equal (λ _. test) (λ _ p x y. not p || beq x y) refl true (value a p) (value a x) (value a y)))
    (equal_if (value a p) (value a x) (value a y)))
  where
    test : Bool → Bool → Bool → Bool
    test p x y = all_hold a (same_if_clauses (known p) (known x) (known y))

-- where p, q and r are true, x = y
same_if_all_clauses-holds : (a : Assignment) (p q r x y : Literal)
    → AllHold a (same_if_all_clauses p q r x y)
    ↔ (value a p ≡ true → value a q ≡ true → value a r ≡ true → value a x ≡ value a y)
unfolding same_if_all_clauses same_if_clauses neg every_of some_of value
same_if_all_clauses-holds a p q r x y = Iff.trans (eq_iff table) (Iff.trans (same_if_clauses-holds a both x y) (to, from))
  where
    both : Literal
    both = known (value a p && value a q && value a r)

    table : all_hold a (same_if_all_clauses p q r x y) ≡ all_hold a (same_if_clauses both x y)
    table = simp (value-neg a, implied-by-all (value a p) (value a q) (value a r))

    to : (value a both ≡ true → value a x ≡ value a y) → value a p ≡ true → value a q ≡ true → value a r ≡ true → value a x ≡ value a y
    to h e f g = h (rw (e, f, g))

    from : (value a p ≡ true → value a q ≡ true → value a r ≡ true → value a x ≡ value a y) → value a both ≡ true → value a x ≡ value a y
    from h e = let all = (all_true_lem (value a p) (value a q) (value a r)).0 e in h all.0 all.1 all.2

-- one address bit: E only where the two bits are equal, e wherever they are
bit_clauses-holds : (a : Assignment) (E e x y : Literal)
    → AllHold a (bit_clauses E e x y)
    ↔ ((value a E ≡ true → value a x ≡ value a y) × (value a x ≡ value a y → value a e ≡ true))
unfolding bit_clauses neg every_of some_of value
bit_clauses-holds a E e x y =
    simp (value-neg a)
    (Iff.trans
    (eq_iff (tables-equal test meant refl (value a E) (value a e) (value a x) (value a y)))
    (Iff.trans
    (and-true (not (value a E) || beq (value a x) (value a y)) (not (beq (value a x) (value a y)) || value a e))
    (Iff.and (equal_if (value a E) (value a x) (value a y)) (if-equal (value a x) (value a y) (value a e)))))
  where
    test : Bool → Bool → Bool → Bool → Bool
    test E e x y = all_hold a (bit_clauses (known E) (known e) (known x) (known y))

    meant : Bool → Bool → Bool → Bool → Bool
    meant E e x y = (not E || beq x y) && (not (beq x y) || e)

-- from an unknown start: reads of one address that both reach it agree
unfoldable pub AgreedHold : Assignment → ℕ → Start → PairLiterals → Type 0
AgreedHold a n (given word) x = Unit {0}
AgreedHold a n unknown x =
    (t : ℕ) → t < n → value a x.E ≡ true → value a x.Zj ≡ true → value a x.Zi ≡ true → value a (x.RD t) ≡ value a (x.RDj t)

-- A pair's clauses hold exactly where all of this does.
pub record PairHolds (a : Assignment) (m n : ℕ) (start : Start) (x : PairLiterals) : Type 0 where
  -- E only where the bit is equal, e wherever it is
  pub address-bit : (t : ℕ) → t < m
      → (value a x.E ≡ true → value a (x.Aj t) ≡ value a (x.Ai t)) × (value a (x.Aj t) ≡ value a (x.Ai t) → value a (x.e t) ≡ true)
  pub E-where-all-e : ((t : ℕ) → t < m → value a (x.e t) ≡ true) → value a x.E ≡ true
  pub valid : value a x.s ≡ (value a x.E && value a x.WE)
  pub none-since : value a x.PS ≡ (not (value a x.s) && value a x.N)
  pub exclusive : value a x.S ≡ (value a x.s && value a x.N)
  pub data-where-S : (t : ℕ) → t < n → value a x.S ≡ true → value a (x.RD t) ≡ value a (x.WD t)
  pub agreed : AgreedHold a n start x

-- the literals ¬e: one is true, or every e is
unequal_of-holds : (a : Assignment) (x : PairLiterals) (t : ℕ) → any_true a (unequal_of x t) ≡ not (value a (x.e t))
unfolding unequal_of
unequal_of-holds a x t = any_true-one a (neg (x.e t)) ∙ value-neg a (x.e t)

some-unequal_of : (a : Assignment) (m : ℕ) (x : PairLiterals)
    → (any_true a (gather m (unequal_of x)) ≡ true) → ((t : ℕ) → t < m → value a (x.e t) ≡ true) → ⊥
some-unequal_of a m x h all = go ((any_true-gather a m (unequal_of x)).0 h)
  where
    go : (t : ℕ) × (t < m) × (any_true a (unequal_of x t) ≡ true) → ⊥
    go (t, b, h) = true≢false (sym (all t b) ∙ not-true (value a (x.e t)) (sym (unequal_of-holds a x t) ∙ h))

no-unequal_of : (a : Assignment) (m : ℕ) (x : PairLiterals)
    → (any_true a (gather m (unequal_of x)) ≡ false) → (t : ℕ) → t < m → value a (x.e t) ≡ true
no-unequal_of a m x h t b = not-false (value a (x.e t)) (sym (unequal_of-holds a x t) ∙ not-true-false (any_true a (unequal_of x t)) λ e. false≢true (sym h ∙ (any_true-gather a m (unequal_of x)).1 (t, b, e)))

-- (¬e of bits 0 to m - 1, E): E wherever every e is true
all_bits-holds : (a : Assignment) (m : ℕ) (x : PairLiterals)
    → (any_true a (all_bits m x) ≡ true) ↔ (((t : ℕ) → t < m → value a (x.e t) ≡ true) → value a x.E ≡ true)
unfolding all_bits
all_bits-holds a m x =
    Iff.trans (eq_iff (some_of-append (value a) (gather m (unequal_of x)) (x.E ∷ [])))
    (Iff.trans (or-true (any_true a (gather m (unequal_of x))) (any_true a (x.E ∷ [])))
    (rw (any_true-one a x.E) (to, from (either (any_true a (gather m (unequal_of x)))))))
  where
    to : ((any_true a (gather m (unequal_of x)) ≡ true) ⊎ (value a x.E ≡ true)) → ((t : ℕ) → t < m → value a (x.e t) ≡ true) → value a x.E ≡ true
    to (inl h) all = absurd (some-unequal_of a m x h all)
    to (inr h) all = h

    from : ((any_true a (gather m (unequal_of x)) ≡ true) ⊎ (any_true a (gather m (unequal_of x)) ≡ false)) → (((t : ℕ) → t < m → value a (x.e t) ≡ true) → value a x.E ≡ true) → ((any_true a (gather m (unequal_of x)) ≡ true) ⊎ (value a x.E ≡ true))
    from (inl h) f = inl h
    from (inr h) f = inr (f (no-unequal_of a m x h))

address_bit_clauses-holds : (a : Assignment) (x : PairLiterals) (t : ℕ)
    → AllHold a (address_bit_clauses x t)
    ↔ ((value a x.E ≡ true → value a (x.Aj t) ≡ value a (x.Ai t)) × (value a (x.Aj t) ≡ value a (x.Ai t) → value a (x.e t) ≡ true))
unfolding address_bit_clauses
address_bit_clauses-holds a x t = bit_clauses-holds a x.E (x.e t) (x.Aj t) (x.Ai t)

forwarded_clauses-holds : (a : Assignment) (x : PairLiterals) (t : ℕ)
    → AllHold a (forwarded_clauses x t) ↔ (value a x.S ≡ true → value a (x.RD t) ≡ value a (x.WD t))
unfolding forwarded_clauses
forwarded_clauses-holds a x t = Iff.trans (same_if_clauses-holds a _ _ _) (λ h e. let q = h e in (cc), λ h e. let q = h e in (cc))

agreed_reads-holds : (a : Assignment) (n : ℕ) (start : Start) (x : PairLiterals) → AllHold a (agreed_reads n start x) ↔ AgreedHold a n start x
unfolding agreed_reads AgreedHold agreed_clauses
agreed_reads-holds a n (given word) x = all_hold-none a
agreed_reads-holds a n unknown x = (
  λ h t b. (same_if_all_clauses-holds a _ _ _ _ _).0 ((all_hold-gather a n (agreed_clauses x)).0 h t b),
  λ h. (all_hold-gather a n (agreed_clauses x)).1 (λ t b. (same_if_all_clauses-holds a _ _ _ _ _).1 (h t b)),
)

pub pair_clauses-holds : (a : Assignment) (m n : ℕ) (start : Start) (x : PairLiterals)
    → AllHold a (pair_clauses m n start x) ↔ PairHolds a m n start x
unfolding pair_clauses
pair_clauses-holds a m n start x =
    simp
    (all_hold-append a, all_hold-cons a, all_hold-none a, all_hold-gather a, all_bits-holds a, address_bit_clauses-holds a, forwarded_clauses-holds a, agreed_reads-holds a, and_clauses-holds a, value-neg a)
    (λ h. search, λ h. search)

-- from a given start: a read that reaches it is of the initial word
unfoldable pub InitialHold : Assignment → ℕ → Start → ClosingLiterals → Type 0
InitialHold a n (given word) x = (t : ℕ) → t < n → value a x.Z ≡ true → value a (x.RD t) ≡ bit word t
InitialHold a n unknown x = Unit {0}

-- The closing's clauses hold exactly where all of this does.
pub record ClosingHolds (a : Assignment) (n : ℕ) (start : Start) (i : ℕ) (x : ClosingLiterals) : Type 0 where
  pub initial-where-Z : InitialHold a n start x
  pub held-where-idle : 0 < i → (t : ℕ) → t < n → value a x.RE ≡ false → value a (x.RD t) ≡ value a (x.before t)
  pub source-where-RE : value a x.RE ≡ true → (value a x.Z ≡ true) ⊎ ((j : ℕ) × (j < i) × (value a (x.S j) ≡ true))

initial_read_clauses-holds : (a : Assignment) (word : ℕ) (x : ClosingLiterals) (t : ℕ)
    → AllHold a (initial_read_clauses word x t) ↔ (value a x.Z ≡ true → value a (x.RD t) ≡ bit word t)
unfolding initial_read_clauses value
initial_read_clauses-holds a word x t = same_if_clauses-holds a x.Z (x.RD t) (known (bit word t))

initial_reads-holds : (a : Assignment) (n : ℕ) (start : Start) (x : ClosingLiterals)
    → AllHold a (initial_reads n start x) ↔ InitialHold a n start x
unfolding initial_reads InitialHold
initial_reads-holds a n (given word) x = (
  λ h t b. (initial_read_clauses-holds a word x t).0 ((all_hold-gather a n (initial_read_clauses word x)).0 h t b),
  λ h. (all_hold-gather a n (initial_read_clauses word x)).1 (λ t b. (initial_read_clauses-holds a word x t).1 (h t b)),
)
initial_reads-holds a n unknown x = all_hold-none a

-- (RE ¬RDi RDi−1), (RE RDi ¬RDi−1): where RE is false, the word of the frame before
held_clauses-holds : (a : Assignment) (x : ClosingLiterals) (t : ℕ)
    → AllHold a (held_clauses x t) ↔ (value a x.RE ≡ false → value a (x.RD t) ≡ value a (x.before t))
unfolding held_clauses
held_clauses-holds a x t =
    Iff.trans (same_if_clauses-holds a _ _ _)
    (λ h e. h (value-neg a x.RE ∙ ap not e), λ h e. h (not-true (value a x.RE) (sym (value-neg a x.RE) ∙ e)))

held_reads-holds : (a : Assignment) (n i : ℕ) (x : ClosingLiterals)
    → AllHold a (held_reads n i x)
    ↔ (0 < i → (t : ℕ) → t < n → value a x.RE ≡ false → value a (x.RD t) ≡ value a (x.before t))
unfolding held_reads
held_reads-holds a n zero x = (λ h l. absurd (not-suc-le-zero l), λ h. (all_hold-none a).1 tt)
held_reads-holds a n (suc i) x = (
  λ h l t b. (held_clauses-holds a x t).0 ((all_hold-gather a n (held_clauses x)).0 h t b),
  λ h. (all_hold-gather a n (held_clauses x)).1 (λ t b. (held_clauses-holds a x t).1 (h (omega arith) t b)),
)

selected_of-holds : (a : Assignment) (x : ClosingLiterals) (j : ℕ) → any_true a (selected_of x j) ≡ value a (x.S j)
unfolding selected_of
selected_of-holds a x j = any_true-one a (x.S j)

-- the literals S of the frames below i: one is true
some_s-holds : (a : Assignment) (i : ℕ) (x : ClosingLiterals)
    → (any_true a (gather i (selected_of x)) ≡ true) ↔ ((j : ℕ) × (j < i) × (value a (x.S j) ≡ true))
some_s-holds a i x = (
  λ h. let p = (any_true-gather a i (selected_of x)).0 h in (p.0, p.1, sym (selected_of-holds a x p.0) ∙ p.2),
  λ h. (any_true-gather a i (selected_of x)).1 (h.0, h.1, selected_of-holds a x h.0 ∙ h.2),
)

-- (¬RE Z S(0,i) .. S(i−1,i)): where RE is true, Z or some S is
some_source-holds : (a : Assignment) (i : ℕ) (x : ClosingLiterals)
    → (any_true a (some_source i x) ≡ true)
    ↔ (value a x.RE ≡ true → (value a x.Z ≡ true) ⊎ ((j : ℕ) × (j < i) × (value a (x.S j) ≡ true)))
unfolding some_source some_of
some_source-holds a i x =
    rw (value-neg a x.RE)
    (Iff.trans (implies_true (value a x.RE) (value a x.Z || any_true a (gather i (selected_of x)))) (under, back))
  where
    under : (value a x.RE ≡ true → (value a x.Z || any_true a (gather i (selected_of x))) ≡ true)
        → value a x.RE ≡ true → (value a x.Z ≡ true) ⊎ ((j : ℕ) × (j < i) × (value a (x.S j) ≡ true))
    under h r = ⊎_map (λ z. z) (some_s-holds a i x).0 ((or-true (value a x.Z) (any_true a (gather i (selected_of x)))).0 (h r))

    back : (value a x.RE ≡ true → (value a x.Z ≡ true) ⊎ ((j : ℕ) × (j < i) × (value a (x.S j) ≡ true)))
        → value a x.RE ≡ true → (value a x.Z || any_true a (gather i (selected_of x))) ≡ true
    back h r = (or-true (value a x.Z) (any_true a (gather i (selected_of x)))).1 (⊎_map (λ z. z) (some_s-holds a i x).1 (h r))

pub closing_clauses-holds : (a : Assignment) (n : ℕ) (start : Start) (i : ℕ) (x : ClosingLiterals)
    → AllHold a (closing_clauses n start i x) ↔ ClosingHolds a n start i x
unfolding closing_clauses
closing_clauses-holds a n start i x =
    simp (all_hold-append a, all_hold-cons a, all_hold-none a, initial_reads-holds a, held_reads-holds a, some_source-holds a)
    (λ h. search, λ h. search)
