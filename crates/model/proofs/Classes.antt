-- Groups that have equally many clauses. Which clauses of a group are written depends on which of its literals are constants alone: so
-- it is the same for the wires of all later frames, for all pairs of neighbouring frames, for all other pairs and for the closings of
-- all later frames, but that the pairs with frame 0, whose Z is RE, are classes of their own. The clauses of a depth are counted by one
-- group of each class. No contract cites this file.
use Prim.Native.Nat.{ℕ, zero, suc, ◌+◌, ◌-◌, ◌*◌, ◌/◌, ◌≤◌, ◌<◌}
use mathlib.Core.Path.{◌≡◌, refl, sym, ◌∙◌, ap, ap₂}
use mathlib.Core.Bool.{Bool, true, false, cond, ◌||◌, or_assoc}
use mathlib.Core.List.{List, [], ◌∷◌, ◌++◌, map, append-nil, map-append}
use native.Mathlib.Nat.{add-mul, suc-mul, mul-suc}
use native.Mathlib.Numerals.{add-one}
use native.Mathlib.Omega.{arith}
use borrow.Author.Tests.{ne_eqb, eq-eqb}
use lib.Dec.{eqb, ltb}
use lib.ListN.{length, length-append}
use Rattle.model.specs.Bits.{odd}
use Rattle.model.specs.Netlist.{Netlist, Start, given, unknown, start, Port, ports, port}
use Rattle.model.specs.Gather.{gather, gather_down}
use Rattle.model.specs.Acceptance.{Accepted}
use Rattle.model.specs.Clauses.{Literal, known, plus, minus, Clause, neg, and_clauses, same_clauses, same_if_clauses, same_if_all_clauses, bit_clauses, PairLiterals, address_bit_clauses, unequal_of, all_bits, forwarded_clauses, agreed_clauses, agreed_reads, pair_clauses, initial_read_clauses, initial_reads, held_clauses, held_reads, selected_of, some_source, closing_clauses}
use Rattle.model.specs.Variables.{wire_at, code_at, code_in, none_since_of, selected, read_bit, pair_literals, closing_literals}
use Rattle.model.specs.Groups.{gate_clauses, latch_clauses, clauses_of, at_ports, frame_groups, group_order}
use Rattle.model.specs.Numbers.{is_true, has_true, kept, formula, clauses_in}
use Rattle.model.specs.declared.Group.{Group}
use Rattle.model.specs.declared.Group.TheVariants.{Wires, Pair, Closing, Property}
use Rattle.model.proofs.Gather.{Adds}
use Rattle.model.proofs.Joined.{joined_clauses, joined_clauses-append}
use Rattle.model.proofs.Bounds.{or_minus_one}
use Rattle.model.proofs.Numbers.{shown, shown-append}
use Rattle.model.proofs.Claim.{clauses_in-formula}

-- how many of the clauses are written
unfoldable pub shown_count : List Clause → ℕ
shown_count xs = length (shown xs)

shown_count-adds : Adds shown_count
unfolding shown_count shown
shown_count-adds = record { of_none = refl; of-both = λ xs ys. rw (shown-append xs ys, length-append) }

shown_count-cons : (x : Clause) (xs : List Clause) → shown_count (x ∷ xs) ≡ cond (has_true x) 0 1 + shown_count xs
unfolding shown_count shown
shown_count-cons x xs = go (has_true x)
  where
    go : (t : Bool) → length (cond t [] (or_minus_one (kept x) ∷ []) ++ shown xs) ≡ cond t 0 1 + length (shown xs)
    go true = omega arith
    go false = omega arith

-- a literal without its variable: what counts here
erase : Literal → Literal
erase (known b) = known b
erase (plus v) = plus 0
erase (minus v) = minus 0

erase-neg : (l : Literal) → erase (neg l) ≡ neg (erase l)
unfolding erase neg
erase-neg (known b) = refl
erase-neg (plus v) = refl
erase-neg (minus v) = refl

has_true-erase : (x : Clause) → has_true (map erase x) ≡ has_true x
unfolding has_true is_true erase
has_true-erase [] = refl
has_true-erase (known b ∷ x) = ap (λ (t : Bool). b || t) (has_true-erase x)
has_true-erase (plus v ∷ x) = has_true-erase x
has_true-erase (minus v ∷ x) = has_true-erase x

pub has_true-append : (x y : Clause) → has_true (x ++ y) ≡ (has_true x || has_true y)
unfolding has_true
has_true-append [] y = refl
has_true-append (l ∷ x) y = ap (λ (t : Bool). is_true l || t) (has_true-append x y) ∙ sym (or_assoc (is_true l) (has_true x) (has_true y))

-- two literals, and two lists of clauses, that are the same without their variables
record Like (l r : Literal) : Type 0 where
  like : erase l ≡ erase r

record Alike (xs ys : List Clause) : Type 0 where
  alike : map (map erase) xs ≡ map (map erase) ys

-- negation keeps it
like-neg : {l r : Literal} → Like l r → Like (neg l) (neg r)
like-neg {l} {r} h = record { like = erase-neg l ∙ ap neg h.like ∙ sym (erase-neg r) }

-- variables
like-plus : (v w : ℕ) → Like (plus v) (plus w)
unfolding erase
like-plus v w = record { like = refl }

-- as many of alike clauses are written
shown_count-erase : (xs : List Clause) → shown_count (map (map erase) xs) ≡ shown_count xs
shown_count-erase [] = refl
shown_count-erase (x ∷ xs) =
    shown_count-cons (map erase x) (map (map erase) xs)
    ∙ ap₂ (λ (t : Bool) (n : ℕ). cond t 0 1 + n) (has_true-erase x) (shown_count-erase xs)
    ∙ sym (shown_count-cons x xs)

alike-count : {xs ys : List Clause} → Alike xs ys → shown_count xs ≡ shown_count ys
alike-count {xs} {ys} h = sym (shown_count-erase xs) ∙ ap shown_count h.alike ∙ shown_count-erase ys

-- joined
infixl 40 ◌⧺◌
◌⧺◌ : {xs ys zs ws : List Clause} → Alike xs ys → Alike zs ws → Alike (xs ++ zs) (ys ++ ws)
◌⧺◌ {xs} {ys} {zs} {ws} p q =
    record { alike = map-append (map erase) xs zs ∙ ap₂ ◌++◌ p.alike q.alike ∙ sym (map-append (map erase) ys ws) }

alike-gather : (n : ℕ) (f h : ℕ → List Clause) → ((t : ℕ) → Alike (f t) (h t)) → Alike (gather n f) (gather n h)
unfolding gather
alike-gather zero f h each = record { alike = refl }
alike-gather (suc n) f h each = alike-gather n f h each ⧺ each n

-- clause by clause, and literal by literal
data LikeAll : Clause → Clause → Type 0 where
  no-literal : LikeAll [] []
  literal : {l r : Literal} {x y : Clause} → Like l r → LikeAll x y → LikeAll (l ∷ x) (r ∷ y)

like_all-erase : {x y : Clause} → LikeAll x y → map erase x ≡ map erase y
like_all-erase no-literal = refl
like_all-erase (literal h r) = ap₂ ◌∷◌ h.like (like_all-erase r)

like_all-has_true : {x y : Clause} → LikeAll x y → has_true x ≡ has_true y
like_all-has_true {x} {y} h = sym (has_true-erase x) ∙ ap has_true (like_all-erase h) ∙ has_true-erase y

alike-none : Alike [] []
alike-none = record { alike = refl }

alike-cons : {x y : Clause} {xs ys : List Clause} → LikeAll x y → Alike xs ys → Alike (x ∷ xs) (y ∷ ys)
alike-cons h r = record { alike = ap₂ ◌∷◌ (like_all-erase h) r.alike }

like_all-then : {x y z w : Clause} → LikeAll x y → LikeAll z w → LikeAll (x ++ z) (y ++ w)
like_all-then no-literal q = q
like_all-then (literal h r) q = literal h (like_all-then r q)

like_all-gather : (n : ℕ) (f h : ℕ → Clause) → ((t : ℕ) → LikeAll (f t) (h t)) → LikeAll (gather n f) (gather n h)
unfolding gather
like_all-gather zero f h each = no-literal
like_all-gather (suc n) f h each = like_all-then (like_all-gather n f h each) (each n)

-- the families of clauses
and_alike : {g a b g' a' b' : Literal} → Like g g' → Like a a' → Like b b' → Alike (and_clauses g a b) (and_clauses g' a' b')
unfolding and_clauses
and_alike g a b = search (alike-cons, alike-none, literal, no-literal, like-neg) depth 14

same_alike : {q d q' d' : Literal} → Like q q' → Like d d' → Alike (same_clauses q d) (same_clauses q' d')
unfolding same_clauses
same_alike q d = search (alike-cons, alike-none, literal, no-literal, like-neg) depth 14

same_if-alike : {p a b p' a' b' : Literal} → Like p p' → Like a a' → Like b b'
    → Alike (same_if_clauses p a b) (same_if_clauses p' a' b')
unfolding same_if_clauses
same_if-alike p a b = search (alike-cons, alike-none, literal, no-literal, like-neg) depth 14

same_if_all-alike : {p q r a b p' q' r' a' b' : Literal} → Like p p' → Like q q' → Like r r' → Like a a' → Like b b'
    → Alike (same_if_all_clauses p q r a b) (same_if_all_clauses p' q' r' a' b')
unfolding same_if_all_clauses
same_if_all-alike p q r a b = search (alike-cons, alike-none, literal, no-literal, like-neg) depth 18

bit-alike : {E e x y E' e' x' y' : Literal} → Like E E' → Like e e' → Like x x' → Like y y'
    → Alike (bit_clauses E e x y) (bit_clauses E' e' x' y')
unfolding bit_clauses
bit-alike E e x y = search (alike-cons, alike-none, literal, no-literal, like-neg) depth 14

-- the literals of two pairs
record PairLike (x y : PairLiterals) : Type 0 where
  E : Like x.E y.E
  e : (t : ℕ) → Like (x.e t) (y.e t)
  s : Like x.s y.s
  PS : Like x.PS y.PS
  S : Like x.S y.S
  N : Like x.N y.N
  WE : Like x.WE y.WE
  Aj : (t : ℕ) → Like (x.Aj t) (y.Aj t)
  WD : (t : ℕ) → Like (x.WD t) (y.WD t)
  Ai : (t : ℕ) → Like (x.Ai t) (y.Ai t)
  RD : (t : ℕ) → Like (x.RD t) (y.RD t)
  Zj : Like x.Zj y.Zj
  Zi : Like x.Zi y.Zi
  RDj : (t : ℕ) → Like (x.RDj t) (y.RDj t)

agreed-alike : (n : ℕ) (s : Start) (x y : PairLiterals) → PairLike x y → Alike (agreed_reads n s x) (agreed_reads n s y)
unfolding agreed_reads agreed_clauses
agreed-alike n (given word) x y h = alike-none
agreed-alike n unknown x y h = alike-gather n _ _ (λ t. same_if_all-alike h.E h.Zj h.Zi (h.RD t) (h.RDj t))

pair-alike : (m n : ℕ) (s : Start) (x y : PairLiterals) → PairLike x y → Alike (pair_clauses m n s x) (pair_clauses m n s y)
unfolding pair_clauses address_bit_clauses all_bits unequal_of forwarded_clauses
pair-alike m n s x y h =
    alike-gather m _ _ (λ t. bit-alike h.E (h.e t) (h.Aj t) (h.Ai t))
    ⧺ alike-cons
    (like_all-then (like_all-gather m _ _ (λ t. literal (like-neg (h.e t)) no-literal)) (literal h.E no-literal))
    alike-none
    ⧺ and_alike h.s h.E h.WE
    ⧺ and_alike h.PS (like-neg h.s) h.N
    ⧺ and_alike h.S h.s h.N
    ⧺ alike-gather n _ _ (λ t. same_if-alike h.S (h.RD t) (h.WD t))
    ⧺ agreed-alike n s x y h

-- a code in any two frames
code-like : (b d x : ℕ) → Like (code_at b x) (code_at d x)
unfolding code_at erase
code-like b d x = record { like = go (ltb x 2) (odd x) }
  where
    go : (s t : Bool)
        → erase (cond s (known (odd x)) (cond t (minus (b + x / 2)) (plus (b + x / 2))))
        ≡ erase (cond s (known (odd x)) (cond t (minus (d + x / 2)) (plus (d + x / 2))))
    go true t = refl
    go false true = refl
    go false false = refl

-- PS of any two pairs, or RE of any two frames
none_since-like : (c : Netlist) (p : Port) (j i l k : ℕ) → eqb j i ≡ eqb l k → Like (none_since_of c p j i) (none_since_of c p l k)
unfolding none_since_of
none_since-like c p j i l k e = rw e (go (eqb l k) _ _)
  where
    go : (t : Bool) (v w : ℕ) → Like (cond t (code_in c i p.RE) (plus v)) (cond t (code_in c k p.RE) (plus w))
    go true v w = code-like _ _ _
    go false v w = like-plus v w

-- 0 is no later frame
never-zero : (i j : ℕ) → eqb 0 (suc i) ≡ eqb 0 (suc j)
never-zero i j = ne_eqb 0 (suc i) (λ e. omega arith) ∙ sym (ne_eqb 0 (suc j) (λ e. omega arith))

module _ (c : Netlist) (k p : ℕ) where
  -- pairs of neighbouring frames are alike, and so are all others, where both earlier frames are frame 0 or neither is
  pairs-alike : (j i l h : ℕ) → eqb j (suc i) ≡ eqb l (suc h) → eqb (j + 1) (suc i) ≡ eqb (l + 1) (suc h) → eqb 0 j ≡ eqb 0 l
      → Alike (clauses_of c k (Pair j (suc i) p)) (clauses_of c k (Pair l (suc h) p))
  unfolding clauses_of pair_literals selected read_bit wire_at
  pairs-alike j i l h e f z =
      pair-alike c.m c.n (start c) _ _
      (record {
        E = like-plus _ _;
        e = λ t. like-plus _ _;
        s = like-plus _ _;
        PS = none_since-like c (port c p) j (suc i) l (suc h) e;
        S = like-plus _ _;
        N = none_since-like c (port c p) (j + 1) (suc i) (l + 1) (suc h) f;
        WE = code-like _ _ _;
        Aj = λ t. code-like _ _ _;
        WD = λ t. code-like _ _ _;
        Ai = λ t. code-like _ _ _;
        RD = λ t. like-plus _ _;
        Zj = none_since-like c (port c p) 0 j 0 l z;
        Zi = none_since-like c (port c p) 0 (suc i) 0 (suc h) (never-zero i h);
        RDj = λ t. like-plus _ _;
      })

  neighbours-count : (j l : ℕ) → eqb 0 j ≡ eqb 0 l → shown_count (clauses_of c k (Pair j (suc j) p)) ≡ shown_count (clauses_of c k (Pair l (suc l) p))
  neighbours-count j l z =
      alike-count (pairs-alike j j l l (ne_eqb j (suc j) (λ e. omega arith) ∙ sym (ne_eqb l (suc l) (λ e. omega arith)))
      (eq-eqb (j + 1) (suc j) (omega arith) ∙ sym (eq-eqb (l + 1) (suc l) (omega arith))) z)

  others-count : (j i l h : ℕ) → j < i → l < h → eqb 0 j ≡ eqb 0 l
      → shown_count (clauses_of c k (Pair j (suc i) p)) ≡ shown_count (clauses_of c k (Pair l (suc h) p))
  others-count j i l h a b z =
      alike-count (pairs-alike j i l h (ne_eqb j (suc i) (λ e. omega arith) ∙ sym (ne_eqb l (suc h) (λ e. omega arith)))
      (ne_eqb (j + 1) (suc i) (λ e. omega arith) ∙ sym (ne_eqb (l + 1) (suc h) (λ e. omega arith))) z)

  -- The closings of later frames. The clause of a read's sources has more literals in a later frame, but they are variables.
  sources-variables : (i n : ℕ) → has_true (gather n (selected_of (closing_literals c (port c p) i))) ≡ false
  unfolding gather selected_of closing_literals selected has_true is_true
  sources-variables i zero = refl
  sources-variables i (suc n) =
      has_true-append (gather n (selected_of (closing_literals c (port c p) i))) _ ∙ ap (λ (t : Bool). t || false) (sources-variables i n)

  source-literals : (i j : ℕ)
      → LikeAll (neg (closing_literals c (port c p) (suc i)).RE ∷ (closing_literals c (port c p) (suc i)).Z ∷ [])
      (neg (closing_literals c (port c p) (suc j)).RE ∷ (closing_literals c (port c p) (suc j)).Z ∷ [])
  unfolding closing_literals
  source-literals i j =
      literal (like-neg (code-like _ _ _)) (literal (none_since-like c (port c p) 0 (suc i) 0 (suc j) (never-zero i j)) no-literal)

  sources-count : (i j : ℕ)
      → shown_count (some_source (suc i) (closing_literals c (port c p) (suc i)) ∷ [])
      ≡ shown_count (some_source (suc j) (closing_literals c (port c p) (suc j)) ∷ [])
  unfolding some_source
  sources-count i j =
      let x = closing_literals c (port c p) (suc i) in
      let y = closing_literals c (port c p) (suc j) in
      let same : has_true (neg x.RE ∷ x.Z ∷ []) ≡ has_true (neg y.RE ∷ y.Z ∷ []) = like_all-has_true (source-literals i j) in
      shown_count-cons _ [] ∙ ap (λ (t : Bool). cond t 0 1 + shown_count [])
      (has_true-append (neg x.RE ∷ x.Z ∷ []) _ ∙ ap₂ ◌||◌ same (sources-variables (suc i) (suc i) ∙ sym (sources-variables (suc j) (suc j)))
      ∙ sym (has_true-append (neg y.RE ∷ y.Z ∷ []) _))
      ∙ sym (shown_count-cons _ [])

  initial-alike : (s : Start) (i j : ℕ)
      → Alike (initial_reads c.n s (closing_literals c (port c p) (suc i))) (initial_reads c.n s (closing_literals c (port c p) (suc j)))
  unfolding initial_reads initial_read_clauses closing_literals read_bit wire_at
  initial-alike (given word) i j =
      alike-gather c.n _ _ (λ t. same_if-alike (none_since-like c (port c p) 0 (suc i) 0 (suc j) (never-zero i j)) (like-plus _ _) (record { like = refl }))
  initial-alike unknown i j = alike-none

  reads-alike : (i j : ℕ)
      → Alike (initial_reads c.n (start c) (closing_literals c (port c p) (suc i)) ++ held_reads c.n (suc i) (closing_literals c (port c p) (suc i)))
      (initial_reads c.n (start c) (closing_literals c (port c p) (suc j)) ++ held_reads c.n (suc j) (closing_literals c (port c p) (suc j)))
  unfolding held_reads held_clauses closing_literals read_bit wire_at
  reads-alike i j =
      initial-alike (start c) i j
      ⧺ alike-gather c.n _ _ (λ t. same_if-alike (like-neg (code-like _ _ _)) (like-plus _ _) (like-plus _ _))

  closings-count : (i j : ℕ) → shown_count (clauses_of c k (Closing (suc i) p)) ≡ shown_count (clauses_of c k (Closing (suc j) p))
  unfolding clauses_of closing_clauses
  closings-count i j =
      shown_count-adds.of-both _ (some_source (suc i) (closing_literals c (port c p) (suc i)) ∷ [])
      ∙ ap₂ ◌+◌ (alike-count (reads-alike i j)) (sources-count i j)
      ∙ sym (shown_count-adds.of-both _ (some_source (suc j) (closing_literals c (port c p) (suc j)) ∷ []))

module _ (c : Netlist) (k : ℕ) where
  -- the wires of later frames
  wires-alike : (i j : ℕ) → Alike (clauses_of c k (Wires (suc i))) (clauses_of c k (Wires (suc j)))
  unfolding clauses_of latch_clauses gate_clauses wire_at
  wires-alike i j =
      alike-gather c.latches _ _ (λ l. same_alike (like-plus _ _) (code-like _ _ _))
      ⧺ alike-gather c.gates _ _ (λ g. and_alike (like-plus _ _) (code-like _ _ _) (code-like _ _ _))

  -- how many clauses of a group, and of a list of groups, are written
  abbrev pub of : Group → ℕ
  of g = shown_count (clauses_of c k g)

  unfoldable pub count : List Group → ℕ
  count gs = shown_count (joined_clauses (clauses_of c k) gs)

  pub count-adds : Adds count
  unfolding count joined_clauses
  count-adds =
      record {
        of_none = shown_count-adds.of_none;
        of-both = λ gs hs. rw (joined_clauses-append (clauses_of c k) gs hs) (shown_count-adds.of-both (joined_clauses (clauses_of c k) gs) (joined_clauses (clauses_of c k) hs));
      }

  pub count-one : (g : Group) → count (g ∷ []) ≡ of g
  unfolding count joined_clauses
  count-one g = rw append-nil

  -- groups of as many clauses, port by port
  ports-same : (n : ℕ) (f h : ℕ → Group) → ((p : ℕ) → of (f p) ≡ of (h p))
      → count (gather n (λ x. f (suc x) ∷ [])) ≡ count (gather n (λ x. h (suc x) ∷ []))
  unfolding gather
  ports-same zero f h each = refl
  ports-same (suc n) f h each =
      count-adds.of-both (gather n (λ x. f (suc x) ∷ [])) (f (suc n) ∷ [])
      ∙ ap₂ ◌+◌ (ports-same n f h each) (count-one (f (suc n)) ∙ each (suc n) ∙ sym (count-one (h (suc n))))
      ∙ sym (count-adds.of-both (gather n (λ x. h (suc x) ∷ [])) (h (suc n) ∷ []))

  -- of pair (j, i), and of frame i's closing, over all ports
  abbrev pub pairs : ℕ → ℕ → ℕ
  pairs j i = count (at_ports (ports c) (Pair j i))

  abbrev pub closings : ℕ → ℕ
  closings i = count (at_ports (ports c) (Closing i))

  neighbours : (j l : ℕ) → eqb 0 j ≡ eqb 0 l → pairs j (suc j) ≡ pairs l (suc l)
  unfolding at_ports
  neighbours j l z = ports-same (ports c) (Pair j (suc j)) (Pair l (suc l)) (λ p. neighbours-count c k p j l z)

  far : (j i l h : ℕ) → j < i → l < h → eqb 0 j ≡ eqb 0 l → pairs j (suc i) ≡ pairs l (suc h)
  unfolding at_ports
  far j i l h a b z = ports-same (ports c) (Pair j (suc i)) (Pair l (suc h)) (λ p. others-count c k p j i l h a b z)

  later-closings : (i j : ℕ) → closings (suc i) ≡ closings (suc j)
  unfolding at_ports
  later-closings i j = ports-same (ports c) (Closing (suc i)) (Closing (suc j)) (λ p. closings-count c k p i j)

  -- of the pairs of frame i + 2, but for that of neighbours: the last is one with frame 0
  down-count : (i n : ℕ) → n ≤ i → count (gather_down (suc n) (λ j. at_ports (ports c) (Pair j (suc (suc i))))) ≡ n * pairs 1 3 + pairs 0 2
  unfolding gather_down
  down-count i zero h =
      count-adds.of-both (at_ports (ports c) (Pair 0 (suc (suc i)))) []
      ∙ rw (count-adds.of_none, far 0 (suc i) 0 1 (omega arith) (omega arith) refl) (omega arith)
  down-count i (suc n) h =
      count-adds.of-both (at_ports (ports c) (Pair (suc n) (suc (suc i)))) (gather_down (suc n) (λ j. at_ports (ports c) (Pair j (suc (suc i)))))
      ∙ rw (far (suc n) (suc i) 1 2 (omega arith) (omega arith) (never-zero n 0), down-count i n (omega arith))
      (omega (arith, suc-mul n (pairs 1 3)))

  -- of the pairs of frame 1, and of a later frame
  pairs-count-first : count (gather_down 1 (λ j. at_ports (ports c) (Pair j 1))) ≡ pairs 0 1
  unfolding gather_down
  pairs-count-first = count-adds.of-both (at_ports (ports c) (Pair 0 1)) [] ∙ rw count-adds.of_none (omega arith)

  pairs-count-later : (i : ℕ) → count (gather_down (suc (suc i)) (λ j. at_ports (ports c) (Pair j (suc (suc i))))) ≡ pairs 1 2 + (i * pairs 1 3 + pairs 0 2)
  unfolding gather_down
  pairs-count-later i =
      count-adds.of-both (at_ports (ports c) (Pair (suc i) (suc (suc i)))) (gather_down (suc i) (λ j. at_ports (ports c) (Pair j (suc (suc i)))))
      ∙ ap₂ ◌+◌ (neighbours (suc i) 1 (never-zero i 0)) (down-count i i (omega arith))

  -- of frame 0, and of a later frame
  first_count : count (frame_groups (ports c) 0) ≡ of (Wires 0) + closings 0
  unfolding frame_groups gather_down
  first_count = count-adds.of-both (Wires 0 ∷ []) (at_ports (ports c) (Closing 0)) ∙ ap (λ (n : ℕ). n + closings 0) (count-one (Wires 0))

  later-count : (i : ℕ) {n : ℕ} → count (gather_down (suc i) (λ j. at_ports (ports c) (Pair j (suc i)))) ≡ n
      → count (frame_groups (ports c) (suc i)) ≡ of (Wires 1) + (n + closings 1)
  unfolding frame_groups
  later-count i e =
      count-adds.of-both (Wires (suc i) ∷ []) (gather_down (suc i) (λ j. at_ports (ports c) (Pair j (suc i))) ++ at_ports (ports c) (Closing (suc i)))
      ∙ ap₂ ◌+◌ (count-one (Wires (suc i)) ∙ alike-count (wires-alike i 0))
      (count-adds.of-both (gather_down (suc i) (λ j. at_ports (ports c) (Pair j (suc i)))) (at_ports (ports c) (Closing (suc i))) ∙ ap₂ ◌+◌ e (later-closings i 0))

-- how many pairs of frames 0 to i are not of neighbours
others : ℕ → ℕ
others i = i * (i + 1) / 2 - i

-- with each frame there are as many pairs more as there are frames before it
pairs-suc : (i : ℕ) → suc i * (suc i + 1) / 2 ≡ i * (i + 1) / 2 + suc i
pairs-suc i = simp (add-one, suc-mul, mul-suc) (omega arith)

pub pairs-least : (i : ℕ) → i ≤ i * (i + 1) / 2
pairs-least zero = omega arith
pairs-least (suc i) = omega (arith, pairs-suc i)

others-suc : (i : ℕ) → others (suc i) ≡ others i + i
unfolding others
others-suc i = omega (arith, pairs-suc i, pairs-least i)

module _ (c : Netlist) (k : ℕ) where
  -- of frames 0 to i + 1
  frames-count : (i : ℕ)
      → count c k (gather (suc (suc i)) (frame_groups (ports c)))
      ≡ of c k (Wires 0) + closings c k 0 + suc i * (of c k (Wires 1) + closings c k 1) + pairs c k 0 1
      + i * (pairs c k 1 2 + pairs c k 0 2) + others i * pairs c k 1 3
  unfolding gather others
  frames-count zero =
      (count-adds c k).of-both (gather 1 (frame_groups (ports c))) (frame_groups (ports c) 1)
      ∙ rw (first_count c k, later-count c k 0 (pairs-count-first c k)) (omega arith)
  frames-count (suc i) =
      let both = (count-adds c k).of-both (gather (suc (suc i)) (frame_groups (ports c))) (frame_groups (ports c) (suc (suc i))) in
      rw (both, frames-count i, later-count c k (suc i) (pairs-count-later c k i), others-suc i) (simp (add-mul, suc-mul) (omega arith))

  -- of frames 0 to i
  all-count : (i : ℕ)
      → count c k (gather (suc i) (frame_groups (ports c)))
      ≡ of c k (Wires 0) + closings c k 0 + i * (of c k (Wires 1) + closings c k 1) + (i - (i - 1)) * pairs c k 0 1
      + (i - 1) * (pairs c k 1 2 + pairs c k 0 2) + others (i - 1) * pairs c k 1 3
  unfolding gather others
  all-count zero = first_count c k ∙ omega arith
  all-count (suc i) =
      let last : suc i - 1 ≡ i = omega arith in
      let one : suc i - i ≡ 1 = omega arith in
      rw (last, one) (frames-count i ∙ omega arith)

-- the clauses of a depth, by one group of each class at each port
pub formula-count : {c : Netlist} → Accepted c → (k : ℕ)
    → length (clauses_in (formula c k))
    ≡ shown_count (clauses_of c k (Wires 0)) + closings c k 0 + k * (shown_count (clauses_of c k (Wires 1)) + closings c k 1)
    + (k - (k - 1)) * pairs c k 0 1 + (k - 1) * (pairs c k 1 2 + pairs c k 0 2)
    + ((k - 1) * (k - 1 + 1) / 2 - (k - 1)) * pairs c k 1 3 + shown_count (clauses_of c k Property)
unfolding group_order others count shown_count
formula-count {c} ok k =
    ap length (clauses_in-formula ok k)
    ∙ (count-adds c k).of-both (gather (k + 1) (frame_groups (ports c))) (Property ∷ [])
    ∙ rw (add-one k, all-count c k k, count-one c k Property)
