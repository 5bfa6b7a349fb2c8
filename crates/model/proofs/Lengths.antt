-- How many clauses each group has, and how many numbers it is written in at most (RULES G35 and G36). No contract cites this file.
use Prim.Native.Nat.{ℕ, suc, zero-le, ◌+◌, ◌*◌, ◌≤◌}
use mathlib.Core.Path.{◌≡◌, refl, ◌∙◌, ap}
use mathlib.Core.Bool.{Bool, true, false, cond}
use mathlib.Core.List.{List, [], ◌∷◌, ◌++◌, append-nil}
use native.Mathlib.Omega.{arith}
use lib.IntN.{ℤ, pos}
use lib.ListN.{length, length-append}
use Rattle.model.specs.Netlist.{Netlist, Start, given, unknown, start}
use Rattle.model.specs.Gather.{gather}
use Rattle.model.specs.Clauses.{Literal, known, plus, minus, Clause, and_clauses, same_clauses, same_if_clauses, same_if_all_clauses, bit_clauses, PairLiterals, address_bit_clauses, unequal_of, all_bits, forwarded_clauses, agreed_clauses, agreed_reads, pair_clauses, ClosingLiterals, initial_read_clauses, initial_reads, held_clauses, held_reads, selected_of, some_source, closing_clauses}
use Rattle.model.specs.Groups.{gate_clauses, reset_clauses, latch_clauses, violation_of, clauses_of}
use Rattle.model.specs.Numbers.{kept_of, kept, has_true, end_of, written_clause, written, numbers_of}
use Rattle.model.specs.declared.Group.TheVariants.{Wires, Pair, Closing, Property}
use Rattle.model.specs.Counts.{where_given, where_unknown}
use Rattle.model.proofs.Joined.{written-append}
use Rattle.model.proofs.Gather.{Adds, length-adds, gather-count, gather-most, length-gather}

-- so the count of numbers adds up
written-adds : Adds (λ xs. length (written xs))
unfolding written
written-adds = record { of_none = refl; of-both = λ xs ys. rw (written-append xs ys, length-append) }

-- how many clauses a list has, and how many numbers they are written in at most
record Counts (xs : List Clause) (clauses numbers : ℕ) : Type 0 where
  pub in-clauses : length xs ≡ clauses
  pub in-numbers : length (written xs) ≤ numbers

-- of two joined lists
infixl 40 ◌⊕◌
◌⊕◌ : {xs ys : List Clause} {a b c d : ℕ} → Counts xs a b → Counts ys c d → Counts (xs ++ ys) (a + c) (b + d)
◌⊕◌ {xs} {ys} p q = omega (arith, length-append xs ys, written-adds.of-both xs ys)

-- of n lists that have the same counts
counts-gather : (n a b : ℕ) (f : ℕ → List Clause) → ((t : ℕ) → Counts (f t) a b) → Counts (gather n f) (n * a) (n * b)
counts-gather n a b f each =
    record {
      in-clauses = gather-count length-adds n a f (λ t h. (each t).in-clauses);
      in-numbers = gather-most written-adds n b f (λ t h. (each t).in-numbers);
    }

-- the same counts, written otherwise
counts-as : {xs : List Clause} {a b c d : ℕ} → Counts xs a b → a ≡ c → b ≡ d → Counts xs c d
counts-as n p q = record { in-clauses = n.in-clauses ∙ p; in-numbers = omega (arith, n.in-numbers, q) }

-- of no clause
counts-none : Counts [] 0 0
unfolding written
counts-none = record { in-clauses = refl; in-numbers = zero-le }

-- of a clause no more is kept than it has literals
kept-length : (x : Clause) → length (kept x) ≤ length x
unfolding kept kept_of
kept-length [] = zero-le
kept-length (known t ∷ x) = omega (arith, kept-length x)
kept-length (plus v ∷ x) = omega (arith, kept-length x)
kept-length (minus v ∷ x) = omega (arith, kept-length x)

-- what is kept, and its end
ended-length : (zs : List ℤ) (n : ℕ) → 1 ≤ n → length zs ≤ n → length (zs ++ end_of (length zs)) ≤ n + 1
unfolding end_of
ended-length [] n h l = omega arith
ended-length (z ∷ zs) n h l = omega (arith, length-append zs (pos 0 ∷ []))

-- a clause that is not empty is written in at most its literals and the end mark
written_clause-length : (x : Clause) → 1 ≤ length x → length (written_clause x) ≤ length x + 1
unfolding written_clause
written_clause-length x h = go (has_true x)
  where
    go : (t : Bool) → length (cond t [] (kept x ++ end_of (length (kept x)))) ≤ length x + 1
    go true = zero-le
    go false = ended-length (kept x) (length x) h (kept-length x)

-- of one such clause
counts-one : (x : Clause) → 1 ≤ length x → Counts (x ∷ []) 1 (length x + 1)
unfolding written
counts-one x h = record { in-clauses = refl; in-numbers = rw (append-nil (written_clause x)) (written_clause-length x h) }

-- of clauses, one by one
numbers_in : List Clause → ℕ
numbers_in [] = 0
numbers_in (x ∷ xs) = length x + 1 + numbers_in xs

-- none of them is empty
abbrev NoneEmpty : List Clause → Type 0
NoneEmpty [] = Unit {0}
NoneEmpty ([] ∷ xs) = ⊥
NoneEmpty ((l ∷ x) ∷ xs) = NoneEmpty xs

counts_each : (xs : List Clause) → NoneEmpty xs → Counts xs (length xs) (numbers_in xs)
unfolding numbers_in written
counts_each [] h = counts-none
counts_each ([] ∷ xs) h = absurd h
counts_each ((l ∷ x) ∷ xs) h =
    let rest = counts_each xs h in
    record {
      in-clauses = ap suc rest.in-clauses;
      in-numbers = omega (arith, length-append (written_clause (l ∷ x)) (written xs), written_clause-length (l ∷ x) (omega arith), rest.in-numbers);
    }

-- of a gate
and-counts : (g a b : Literal) → Counts (and_clauses g a b) 3 10
unfolding and_clauses numbers_in
and-counts g a b = counts_each (and_clauses g a b) tt

-- of two equal literals
same-counts : (q d : Literal) → Counts (same_clauses q d) 2 6
unfolding same_clauses numbers_in
same-counts q d = counts_each (same_clauses q d) tt

-- of two literals that are equal where a third is true
same_if_clauses-counts : (p a b : Literal) → Counts (same_if_clauses p a b) 2 8
unfolding same_if_clauses numbers_in
same_if_clauses-counts p a b = counts_each (same_if_clauses p a b) tt

-- where three others are
same_if_all_clauses-counts : (p q r a b : Literal) → Counts (same_if_all_clauses p q r a b) 2 12
unfolding same_if_all_clauses numbers_in
same_if_all_clauses-counts p q r a b = counts_each (same_if_all_clauses p q r a b) tt

-- of an address bit
bit-counts : (E e x y : Literal) → Counts (bit_clauses E e x y) 4 16
unfolding bit_clauses numbers_in
bit-counts E e x y = counts_each (bit_clauses E e x y) tt

-- (¬e of bits 0 to m - 1, E) has m + 1 literals
all_bits-length : (m : ℕ) (x : PairLiterals) → length (all_bits m x) ≡ m + 1
unfolding all_bits unequal_of
all_bits-length m x = rw (length-append, length-gather m 1 (unequal_of x) (λ t h. refl)) (omega arith)

-- of a pair's clauses of reads that agree
agreed-counts : (n : ℕ) (s : Start) (x : PairLiterals) → Counts (agreed_reads n s x) (where_unknown s (2 * n)) (where_unknown s (12 * n))
unfolding agreed_reads agreed_clauses where_unknown
agreed-counts n (given word) x = counts-none
agreed-counts n unknown x =
    counts-as (counts-gather n 2 12 (agreed_clauses x) (λ t. same_if_all_clauses-counts _ _ _ _ _)) (omega arith) (omega arith)

-- of a pair
pair-counts : (m n : ℕ) (s : Start) (x : PairLiterals)
    → Counts (pair_clauses m n s x) (4 * m + 2 * n + 10 + where_unknown s (2 * n)) (17 * m + 8 * n + 32 + where_unknown s (12 * n))
unfolding pair_clauses address_bit_clauses forwarded_clauses
pair-counts m n s x =
    counts-as
    (counts-gather m 4 16 (address_bit_clauses x) (λ t. bit-counts _ _ _ _)
    ⊕ counts-one (all_bits m x) (omega (arith, all_bits-length m x))
    ⊕ and-counts _ _ _
    ⊕ and-counts _ _ _
    ⊕ and-counts _ _ _
    ⊕ counts-gather n 2 8 (forwarded_clauses x) (λ t. same_if_clauses-counts _ _ _)
    ⊕ agreed-counts n s x)
    (omega arith)
    (omega (arith, all_bits-length m x))

-- (¬RE Z S(0,i) .. S(i−1,i)) has i + 2 literals
some_source-length : (i : ℕ) (x : ClosingLiterals) → length (some_source i x) ≡ i + 2
unfolding some_source selected_of
some_source-length i x = rw (length-gather i 1 (selected_of x) (λ t h. refl)) (omega arith)

-- of a closing's clauses of the initial word
initial-counts : (n : ℕ) (s : Start) (x : ClosingLiterals) → Counts (initial_reads n s x) (where_given s (2 * n)) (where_given s (8 * n))
unfolding initial_reads initial_read_clauses where_given
initial-counts n (given word) x =
    counts-as (counts-gather n 2 8 (initial_read_clauses word x) (λ t. same_if_clauses-counts _ _ _)) (omega arith) (omega arith)
initial-counts n unknown x = counts-none

-- of a closing's clauses of the word held
held-counts : (n i : ℕ) (x : ClosingLiterals) → Counts (held_reads n (suc i) x) (n * 2) (n * 8)
unfolding held_reads held_clauses
held-counts n i x = counts-gather n 2 8 (held_clauses x) (λ t. same_if_clauses-counts _ _ _)

-- of a closing, by what its clauses of the word held have
closing-counts : (n : ℕ) (s : Start) (i : ℕ) (x : ClosingLiterals) {a b : ℕ} → Counts (held_reads n i x) a b
    → Counts (closing_clauses n s i x) (where_given s (2 * n) + a + 1) (where_given s (8 * n) + b + i + 3)
unfolding closing_clauses
closing-counts n s i x held =
    counts-as
    (initial-counts n s x ⊕ held ⊕ counts-one (some_source i x) (omega (arith, some_source-length i x)))
    (omega arith)
    (omega (arith, some_source-length i x))

-- of the closing of frame 0, and of a later one
closing-counts-first : (n : ℕ) (s : Start) (x : ClosingLiterals)
    → Counts (closing_clauses n s 0 x) (where_given s (2 * n) + 1) (where_given s (8 * n) + 3)
unfolding held_reads
closing-counts-first n s x = counts-as (closing-counts n s 0 x counts-none) (omega arith) (omega arith)

closing-counts-later : (n : ℕ) (s : Start) (i : ℕ) (x : ClosingLiterals)
    → Counts (closing_clauses n s (suc i) x) (where_given s (2 * n) + 2 * n + 1) (where_given s (8 * n) + 8 * n + suc i + 3)
closing-counts-later n s i x = counts-as (closing-counts n s (suc i) x (held-counts n i x)) (omega arith) (omega arith)

-- of a frame's gates
gates-counts : (c : Netlist) (i : ℕ) → Counts (gather c.gates (gate_clauses c i)) (c.gates * 3) (c.gates * 10)
unfolding gate_clauses
gates-counts c i = counts-gather c.gates 3 10 (gate_clauses c i) (λ g. and-counts _ _ _)

-- the groups of depth k
module _ (c : Netlist) (k : ℕ) where
  -- the wires of frame 0
  wires-counts-first : Counts (clauses_of c k (Wires 0)) (1 + c.latches + 3 * c.gates) (2 + 2 * c.latches + 10 * c.gates)
  unfolding clauses_of reset_clauses
  wires-counts-first =
      counts-as
      (counts-one _ (omega arith) ⊕ counts-gather c.latches 1 2 (reset_clauses c) (λ l. counts-one _ (omega arith)) ⊕ gates-counts c 0)
      (omega arith)
      (omega arith)

  -- the wires of a later frame
  wires-counts-later : (i : ℕ)
      → Counts (clauses_of c k (Wires (suc i))) (2 * c.latches + 3 * c.gates) (6 * c.latches + 10 * c.gates)
  unfolding clauses_of latch_clauses
  wires-counts-later i =
      counts-as
      (counts-gather c.latches 2 6 (latch_clauses c i) (λ l. same-counts _ _) ⊕ gates-counts c (suc i))
      (omega arith)
      (omega arith)

  -- the property
  property-counts : Counts (clauses_of c k Property) 1 (k + 2)
  unfolding clauses_of violation_of
  property-counts =
      let long : length (gather (k + 1) (violation_of c)) ≡ (k + 1) * 1 = length-gather (k + 1) 1 (violation_of c) (λ t h. refl) in
      counts-as (counts-one _ (omega (arith, long))) refl (omega (arith, long))

  -- how many clauses: the wires of frame 0
  pub wires-clauses-first : length (clauses_of c k (Wires 0)) ≡ 1 + c.latches + 3 * c.gates
  wires-clauses-first = wires-counts-first.in-clauses

  -- the wires of a later frame
  pub wires-clauses-later : (i : ℕ) → length (clauses_of c k (Wires (suc i))) ≡ 2 * c.latches + 3 * c.gates
  wires-clauses-later i = (wires-counts-later i).in-clauses

  -- a pair
  pub pair-clauses : (j i p : ℕ) → length (clauses_of c k (Pair j i p)) ≡ 4 * c.m + 2 * c.n + 10 + where_unknown (start c) (2 * c.n)
  unfolding clauses_of
  pair-clauses j i p = (pair-counts c.m c.n (start c) _).in-clauses

  -- the closing of frame 0
  pub closing-clauses-first : (p : ℕ) → length (clauses_of c k (Closing 0 p)) ≡ where_given (start c) (2 * c.n) + 1
  unfolding clauses_of
  closing-clauses-first p = (closing-counts-first c.n (start c) _).in-clauses

  -- the closing of a later frame
  pub closing-clauses-later : (i p : ℕ) → length (clauses_of c k (Closing (suc i) p)) ≡ where_given (start c) (2 * c.n) + 2 * c.n + 1
  unfolding clauses_of
  closing-clauses-later i p = (closing-counts-later c.n (start c) i _).in-clauses

  -- the property
  pub property-clauses : length (clauses_of c k Property) ≡ 1
  property-clauses = property-counts.in-clauses

  -- how many numbers, end marks included: the wires of frame 0
  pub wires-numbers-first : length (numbers_of c k (Wires 0)) ≤ 2 + 2 * c.latches + 10 * c.gates
  unfolding numbers_of
  wires-numbers-first = wires-counts-first.in-numbers

  -- the wires of a later frame
  pub wires-numbers-later : (i : ℕ) → length (numbers_of c k (Wires (suc i))) ≤ 6 * c.latches + 10 * c.gates
  unfolding numbers_of
  wires-numbers-later i = (wires-counts-later i).in-numbers

  -- a pair
  pub pair-numbers : (j i p : ℕ) → length (numbers_of c k (Pair j i p)) ≤ 17 * c.m + 8 * c.n + 32 + where_unknown (start c) (12 * c.n)
  unfolding numbers_of clauses_of
  pair-numbers j i p = (pair-counts c.m c.n (start c) _).in-numbers

  -- the closing of frame 0
  pub closing-numbers-first : (p : ℕ) → length (numbers_of c k (Closing 0 p)) ≤ where_given (start c) (8 * c.n) + 3
  unfolding numbers_of clauses_of
  closing-numbers-first p = (closing-counts-first c.n (start c) _).in-numbers

  -- the closing of a later frame
  pub closing-numbers-later : (i p : ℕ) → length (numbers_of c k (Closing (suc i) p)) ≤ where_given (start c) (8 * c.n) + 8 * c.n + suc i + 3
  unfolding numbers_of clauses_of
  closing-numbers-later i p = (closing-counts-later c.n (start c) i _).in-numbers

  -- the property
  pub property-numbers : length (numbers_of c k Property) ≤ k + 2
  unfolding numbers_of
  property-numbers = property-counts.in-numbers
