-- Every literal of every group of depth k is a constant or a variable from 2 to B(k + 1), but for the first clause, (1): so every
-- number written for depth k is within B(k + 1) of 0, and 0 only as an end mark. No contract cites this file.
use Prim.Native.Nat.{ℕ, zero, suc, zero-le, ◌+◌, ◌*◌, ◌/◌, ◌≤◌, ◌<◌}
use mathlib.Core.Path.{◌≡◌, refl, sym, ap, subst}
use mathlib.Core.Bool.{Bool, true, false, cond}
use mathlib.Core.List.{List, [], ◌∷◌, ◌++◌}
use native.Mathlib.Numerals.{add-one}
use native.Mathlib.Omega.{arith}
use lib.Dec.{eqb, ltb}
use lib.IntN.{ℤ, pos, negsuc, nat_abs}
use lib.ListN.{length}
use borrow.Author.Tests.{eqb-false, ltb-false}
use Rattle.model.specs.Bits.{odd}
use Rattle.model.specs.Gather.{gather, gather_down}
use Rattle.model.specs.Netlist.{Netlist, Start, given, unknown, start, ports, IsPort, port, gate_wire, last_wire}
use Rattle.model.specs.Clauses.{Literal, known, plus, minus, Clause, neg, and_clauses, same_clauses, same_if_clauses, same_if_all_clauses, bit_clauses, PairLiterals, address_bit_clauses, unequal_of, all_bits, forwarded_clauses, agreed_clauses, agreed_reads, pair_clauses, ClosingLiterals, initial_read_clauses, initial_reads, held_clauses, held_reads, selected_of, some_source, closing_clauses}
use Rattle.model.specs.Variables.{base, pair_base, wire_at, code_at, wire_in, code_in, none_since_of, selected, read_bit, pair_literals, closing_literals}
use Rattle.model.specs.Acceptance.{Accepted, IsCode}
use Rattle.model.specs.Groups.{gate_clauses, reset_clauses, latch_clauses, violation_of, clauses_of, at_ports, frame_groups, group_order}
use Rattle.model.specs.Numbers.{kept_of, kept, has_true, end_of, written_clause, written}
use Rattle.model.specs.declared.Group.{Group}
use Rattle.model.specs.declared.Group.TheVariants.{Wires, Pair, Closing, Property}
use Rattle.model.proofs.Ports.{first-port, bit-within, variables-within}
use Rattle.model.proofs.Variables.{base-suc, base-least, base-monotone, port-within, pair_base-least}
use Rattle.model.proofs.Gather.{All, nothing, also, just, ◌⧺◌, all-gather, all-gather_down, all-weaken}
use Rattle.model.proofs.Joined.{joined_clauses, joined_clauses-append}

-- a constant, or a variable from a to b
abbrev pub Within : ℕ → ℕ → Literal → Type 0
Within a b (known x) = Unit {0}
Within a b (plus v) = (a ≤ v) × (v ≤ b)
Within a b (minus v) = (a ≤ v) × (v ≤ b)

-- a property of every literal of every clause
abbrev pub AllLits : (Literal → Type 0) → List Clause → Type 0
AllLits P = All (All P)

-- a property of the literals of a pair, as far as its clauses name them
record PairAll (P : Literal → Type 0) (m n : ℕ) (x : PairLiterals) : Type 0 where
  E : P x.E
  e : (t : ℕ) → t < m → P (x.e t)
  s : P x.s
  PS : P x.PS
  S : P x.S
  N : P x.N
  WE : P x.WE
  Aj : (t : ℕ) → t < m → P (x.Aj t)
  WD : (t : ℕ) → t < n → P (x.WD t)
  Ai : (t : ℕ) → t < m → P (x.Ai t)
  RD : (t : ℕ) → t < n → P (x.RD t)
  Zj : P x.Zj
  Zi : P x.Zi
  RDj : (t : ℕ) → t < n → P (x.RDj t)

-- and of the literals of a closing
record ClosingAll (P : Literal → Type 0) (n i : ℕ) (x : ClosingLiterals) : Type 0 where
  Z : P x.Z
  RE : P x.RE
  S : (j : ℕ) → j < i → P (x.S j)
  RD : (t : ℕ) → t < n → P (x.RD t)
  before : (t : ℕ) → t < n → P (x.before t)

-- a property of literals that negation keeps is one of whole clauses, once their literals have it
module _ {P : Literal → Type 0} (keeps : (l : Literal) → P l → P (neg l)) where
  -- of a literal, inverted or not
  either-all : (t : Bool) {q : Literal} → P q → P (cond t q (neg q))
  either-all true p = p
  either-all false p = keeps _ p

  -- of a gate's clauses
  and-all : {g a b : Literal} → P g → P a → P b → AllLits P (and_clauses g a b)
  unfolding and_clauses
  and-all g a b = search (also, nothing, keeps) depth 12

  -- of the clauses of two equal literals
  same-all : {q d : Literal} → P q → P d → AllLits P (same_clauses q d)
  unfolding same_clauses
  same-all q d = search (also, nothing, keeps) depth 12

  -- of the clauses of two literals that are equal where a third is true
  same_if_clauses-all : {p a b : Literal} → P p → P a → P b → AllLits P (same_if_clauses p a b)
  unfolding same_if_clauses
  same_if_clauses-all p a b = search (also, nothing, keeps) depth 12

  -- where three others are
  same_if_all_clauses-all : {p q r a b : Literal} → P p → P q → P r → P a → P b → AllLits P (same_if_all_clauses p q r a b)
  unfolding same_if_all_clauses
  same_if_all_clauses-all p q r a b = search (also, nothing, keeps) depth 14

  -- of an address bit's clauses
  bit-all : {E e x y : Literal} → P E → P e → P x → P y → AllLits P (bit_clauses E e x y)
  unfolding bit_clauses
  bit-all E e x y = search (also, nothing, keeps) depth 12

  -- of a pair's clauses of reads that agree
  agreed-all : (m n : ℕ) (s : Start) (x : PairLiterals) → PairAll P m n x → AllLits P (agreed_reads n s x)
  unfolding agreed_reads agreed_clauses
  agreed-all m n (given word) x a = nothing
  agreed-all m n unknown x a =
      all-gather n (agreed_clauses x) (λ t b. same_if_all_clauses-all a.E a.Zj a.Zi (a.RD t b) (a.RDj t b))

  -- of a pair's clauses
  pair-all : (m n : ℕ) (s : Start) (x : PairLiterals) → PairAll P m n x → AllLits P (pair_clauses m n s x)
  unfolding pair_clauses address_bit_clauses all_bits unequal_of forwarded_clauses
  pair-all m n s x a =
      search (◌⧺◌, just, also, all-gather, bit-all, and-all, same_if_clauses-all, agreed-all m, keeps, a, a.E, a.e, a.s, a.PS, a.S, a.N, a.WE, a.Aj, a.WD, a.Ai, a.RD) depth 20

  -- of a closing's clauses of the initial word; what is said of a constant is said of both
  initial-all : ((b : Bool) → P (known b)) → (n : ℕ) (s : Start) (i : ℕ) (x : ClosingLiterals) → ClosingAll P n i x → AllLits P (initial_reads n s x)
  unfolding initial_reads initial_read_clauses
  initial-all constants n (given word) i x a = all-gather n (initial_read_clauses word x) (λ t b. same_if_clauses-all a.Z (a.RD t b) (constants _))
  initial-all constants n unknown i x a = nothing

  -- of a closing's clauses of the word held
  held_all : (n i : ℕ) (x : ClosingLiterals) → ClosingAll P n i x → AllLits P (held_reads n i x)
  unfolding held_reads held_clauses
  held_all n zero x a = nothing
  held_all n (suc i) x a = search (all-gather, same_if_clauses-all, keeps, a.RE, a.RD, a.before) depth 12

  -- of a closing's clauses
  closing-all : ((b : Bool) → P (known b)) → (n : ℕ) (s : Start) (i : ℕ) (x : ClosingLiterals) → ClosingAll P n i x → AllLits P (closing_clauses n s i x)
  unfolding closing_clauses some_source selected_of
  closing-all constants n s i x a =
      initial-all constants n s i x a ⧺ held_all n i x a ⧺ just (also (keeps _ a.RE) (also a.Z (all-gather i (selected_of x) (λ j b. just (a.S j b)))))

-- what each group's clauses have, all groups' clauses joined have
joined-all : {Q : Clause → Type 0} (f : Group → List Clause) (gs : List Group)
    → All (λ g. All Q (f g)) gs → All Q (joined_clauses f gs)
unfolding joined_clauses
joined-all f [] nothing = nothing
joined-all f (g ∷ gs) (also h r) = h ⧺ joined-all f gs r

-- the clauses of frame 0's wires, and of a depth: the first is (1), and the others have variables from 2 on
pub record FirstOne (b : ℕ) (xs : List Clause) : Type 0 where
  pub rest : List Clause
  pub is : xs ≡ (plus 1 ∷ []) ∷ rest
  pub others : AllLits (Within 2 b) rest

first-one-then : {b : ℕ} {xs ys : List Clause} → FirstOne b xs → AllLits (Within 2 b) ys → FirstOne b (xs ++ ys)
first-one-then {ys = ys} f r = record { rest = f.rest ++ ys; is = ap (λ zs. zs ++ ys) f.is; others = f.others ⧺ r }

-- a property of whichever literal a test picks
cond_has : (P : Literal → Type 0) {l r : Literal} (t : Bool) → (t ≡ true → P l) → (t ≡ false → P r) → P (cond t l r)
cond_has P true p q = p refl
cond_has P false p q = q refl

-- negation keeps the variable
within-neg : (a b : ℕ) (l : Literal) → Within a b l → Within a b (neg l)
unfolding neg
within-neg a b (known x) h = tt
within-neg a b (plus v) h = h
within-neg a b (minus v) h = h

-- from 2 on is from 1 on
within-one : (b : ℕ) (l : Literal) → Within 2 b l → Within 1 b l
within-one b (known x) h = tt
within-one b (plus v) h = omega arith
within-one b (minus v) h = omega arith

pub all-within-one : {b : ℕ} {xs : List Clause} → AllLits (Within 2 b) xs → AllLits (Within 1 b) xs
all-within-one {b} = all-weaken (λ x. all-weaken (within-one b))

first-one-within : {b : ℕ} {xs : List Clause} → 1 ≤ b → FirstOne b xs → AllLits (Within 1 b) xs
first-one-within {b} h f = rw f.is (also (just {x = plus 1} (omega arith, h)) (all-within-one f.others))

-- the literals of frames 0 to k
module _ (c : Netlist) (k : ℕ) where
  -- what depth k has numbers for
  abbrev pub Bounded : Literal → Type 0
  Bounded = Within 2 (base c (k + 1))

  -- a variable of frame i
  variable-within : (i v : ℕ) → i ≤ k → (2 ≤ v) × (v ≤ base c (suc i)) → Bounded (plus v)
  variable-within i v h r = omega (arith, base-monotone c {i = suc i} {j = k + 1} (omega arith))

  -- a wire
  pub wire-within : (i w : ℕ) → i ≤ k → (1 ≤ w) × (w ≤ last_wire c) → Bounded (wire_in c i w)
  unfolding wire_at
  wire-within i w h r = variable-within i (base c i + w) h (omega (arith, base-least c i, base-suc c i))

  -- a code
  pub code-within : (i x : ℕ) → i ≤ k → IsCode c x → Bounded (code_in c i x)
  unfolding code_at wire_at
  code-within i x h r =
      cond_has Bounded (ltb x 2) (λ e. tt)
      (λ e.
      let least : 2 ≤ x = ltb-false x 2 e in
      let wire : Bounded (plus (base c i + x / 2)) = wire-within i (x / 2) h (omega arith) in
      cond_has Bounded (odd x) (λ o. wire) (λ o. wire))

  -- at a port
  module _ (p : ℕ) (here : IsPort c p) where
    -- a variable of pair (j, i)
    pub pair-variable-within : (j i v : ℕ) → j < i → i ≤ k
        → (pair_base c (port c p) j i < v) × (v ≤ pair_base c (port c p) j i + (c.m + 4)) → Bounded (plus v)
    pair-variable-within j i v l h r =
        variable-within i v h
        (omega (arith, pair_base-least c (port c p) j i, port-within c (port c p) j i (c.m + 4) l (variables-within c p here)))

    -- PS, or RE
    pub none_since-within : (j i : ℕ) → j ≤ i → i ≤ k → IsCode c (port c p).RE → Bounded (none_since_of c (port c p) j i)
    unfolding none_since_of
    none_since-within j i l h r =
        cond_has Bounded (eqb j i)
        (λ e. code-within i (port c p).RE h r)
        (λ e. pair-variable-within j i _ (omega (arith, eqb-false j i e)) h (omega arith))

    -- S
    pub selected-within : (j i : ℕ) → j < i → i ≤ k → Bounded (selected c (port c p) j i)
    unfolding selected
    selected-within j i l h = pair-variable-within j i _ l h (omega arith)

    -- a read bit
    pub read_bit-within : (i t : ℕ) → i ≤ k → t < c.n → Bounded (read_bit c (port c p) i t)
    unfolding read_bit
    read_bit-within i t h b = wire-within i _ h (omega (arith, bit-within c p here t b))

-- the clauses of depth k of an accepted netlist
module _ {c : Netlist} (accepted : Accepted c) (k : ℕ) where
  -- a gate's
  gate-within : (i g : ℕ) → i ≤ k → g < c.gates → AllLits (Bounded c k) (gate_clauses c i g)
  unfolding gate_clauses
  gate-within i g h b =
      let operand : (x : ℕ) → x < 2 * gate_wire c g → IsCode c x = λ x l. omega arith in
      and-all (within-neg _ _)
      (wire-within c k i _ h (omega arith))
      (code-within c k i _ h (operand _ (accepted.limits.codes.left-fits g b)))
      (code-within c k i _ h (operand _ (accepted.limits.codes.right-fits g b)))

  -- a latch's in frame 0
  reset-within : (l : ℕ) → l < c.latches → AllLits (Bounded c k) (reset_clauses c l)
  unfolding reset_clauses
  reset-within l b =
      just (just (either-all (within-neg _ _) (eqb (c.reset l) 1) (wire-within c k 0 _ (omega arith) (omega arith))))

  -- a latch's in a later frame
  latch-within : (i l : ℕ) → i < k → l < c.latches → AllLits (Bounded c k) (latch_clauses c i l)
  unfolding latch_clauses
  latch-within i l h b =
      same-all (within-neg _ _)
      (wire-within c k (i + 1) _ (omega arith) (omega arith))
      (code-within c k i _ (omega arith) (accepted.limits.codes.next_fits l b))

  -- the gates of a frame
  gates-within : (i : ℕ) → i ≤ k → AllLits (Bounded c k) (gather c.gates (gate_clauses c i))
  gates-within i h = all-gather c.gates (gate_clauses c i) (λ g b. gate-within i g h b)

  -- the wires of frame 0: the first clause, then the others
  wires-first : FirstOne (base c (k + 1)) (clauses_of c k (Wires 0))
  unfolding clauses_of
  wires-first =
      record {
        rest = gather c.latches (reset_clauses c) ++ gather c.gates (gate_clauses c 0);
        is = refl;
        others = all-gather c.latches (reset_clauses c) (λ l b. reset-within l b) ⧺ gates-within 0 (omega arith);
      }

  -- those of a later frame
  wires-later : (i : ℕ) → i < k → AllLits (Bounded c k) (clauses_of c k (Wires (suc i)))
  unfolding clauses_of
  wires-later i h = all-gather c.latches (latch_clauses c i) (λ l b. latch-within i l h b) ⧺ gates-within (suc i) h

  -- the wires of frame i
  pub wires-within : (i : ℕ) → i ≤ k → AllLits (Within 1 (base c (k + 1))) (clauses_of c k (Wires i))
  wires-within zero h = first-one-within (base-least c (k + 1)) wires-first
  wires-within (suc i) h = all-within-one (wires-later i h)

  -- pair (j, i)
  pub pairs-within : (p : ℕ) → IsPort c p → (j i : ℕ) → j < i → i ≤ k → AllLits (Within 2 (base c (k + 1))) (clauses_of c k (Pair j i p))
  unfolding clauses_of pair_literals
  pairs-within p here j i l h =
      pair-all (within-neg _ _) c.m c.n (start c) _
      (record {
        E = pair-variable-within c k p here j i _ l h (omega arith);
        e = λ t b. pair-variable-within c k p here j i _ l h (omega arith);
        s = pair-variable-within c k p here j i _ l h (omega arith);
        PS = none_since-within c k p here j i (omega arith) h (accepted.limits.codes.RE-fits p here);
        S = selected-within c k p here j i l h;
        N = none_since-within c k p here (j + 1) i (omega arith) h (accepted.limits.codes.RE-fits p here);
        WE = code-within c k _ _ (omega arith) accepted.limits.codes.WE-fits;
        Aj = λ t b. code-within c k _ _ (omega arith) (accepted.limits.codes.address-fits 1 (first-port c) t b);
        WD = λ t b. code-within c k _ _ (omega arith) (accepted.limits.codes.data-fits t b);
        Ai = λ t b. code-within c k _ _ (omega arith) (accepted.limits.codes.address-fits p here t b);
        RD = λ t b. read_bit-within c k p here i t h b;
        Zj = none_since-within c k p here 0 j (omega arith) (omega arith) (accepted.limits.codes.RE-fits p here);
        Zi = none_since-within c k p here 0 i (omega arith) h (accepted.limits.codes.RE-fits p here);
        RDj = λ t b. read_bit-within c k p here j t (omega arith) b;
      })

  -- the closing of frame i
  pub closing-within : (p : ℕ) → IsPort c p → (i : ℕ) → i ≤ k → AllLits (Within 2 (base c (k + 1))) (clauses_of c k (Closing i p))
  unfolding clauses_of closing_literals
  closing-within p here i h =
      closing-all (within-neg _ _) (λ b. tt) c.n (start c) i _
      (record {
        Z = none_since-within c k p here 0 i (omega arith) h (accepted.limits.codes.RE-fits p here);
        RE = code-within c k i _ h (accepted.limits.codes.RE-fits p here);
        S = λ j l. selected-within c k p here j i l h;
        RD = λ t b. read_bit-within c k p here i t h b;
        before = λ t b. read_bit-within c k p here _ t (omega arith) b;
      })

  -- the property
  pub property-within : AllLits (Within 2 (base c (k + 1))) (clauses_of c k Property)
  unfolding clauses_of violation_of
  property-within =
      let property = accepted.limits.codes.P-fits in
      just (all-gather (k + 1) (violation_of c) (λ i h. just (within-neg _ _ _ (code-within c k i _ (omega arith) property))))

  -- the pairs and the closings of frame i
  reads-within : (i : ℕ) → i ≤ k
      → All (λ g. AllLits (Bounded c k) (clauses_of c k g)) (gather_down i (λ j. at_ports (ports c) (Pair j i)) ++ at_ports (ports c) (Closing i))
  unfolding at_ports
  reads-within i h =
      all-gather_down i (λ j. at_ports (ports c) (Pair j i)) (λ j l. all-gather (ports c) _ (λ x b. just (pairs-within (suc x) (omega arith, b) j i l h)))
      ⧺ all-gather (ports c) _ (λ x b. just (closing-within (suc x) (omega arith, b) i h))

  -- each group
  pub groups-within : All (λ g. AllLits (Within 1 (base c (k + 1))) (clauses_of c k g)) (group_order (ports c) k)
  unfolding group_order frame_groups
  groups-within =
      all-gather (k + 1) (frame_groups (ports c)) (λ i h.
      also (wires-within i (omega arith)) (all-weaken (λ g. all-within-one) (reads-within i (omega arith))))
      ⧺ just (all-within-one property-within)

  -- all together: the first clause, then the others
  frames-first : (i : ℕ) → i ≤ k → FirstOne (base c (k + 1)) (joined_clauses (clauses_of c k) (gather (suc i) (frame_groups (ports c))))
  unfolding gather frame_groups joined_clauses
  frames-first zero h = first-one-then wires-first (joined-all (clauses_of c k) _ (reads-within 0 h))
  frames-first (suc i) h =
      rw (joined_clauses-append (clauses_of c k) (gather (suc i) (frame_groups (ports c))) (frame_groups (ports c) (suc i)))
      (first-one-then (frames-first i (omega arith))
      (joined-all (clauses_of c k) (frame_groups (ports c) (suc i)) (also (wires-later i h) (reads-within (suc i) h))))

  pub formula-first : FirstOne (base c (k + 1)) (joined_clauses (clauses_of c k) (group_order (ports c) k))
  unfolding group_order
  formula-first =
      let frames : FirstOne (base c (k + 1)) (joined_clauses (clauses_of c k) (gather (k + 1) (frame_groups (ports c)))) = subst (λ (n : ℕ). FirstOne (base c (k + 1)) (joined_clauses (clauses_of c k) (gather n (frame_groups (ports c))))) (sym (add-one k)) (frames-first k (omega arith)) in
      rw (joined_clauses-append (clauses_of c k) (gather (k + 1) (frame_groups (ports c))) (Property ∷ []))
      (first-one-then frames (joined-all (clauses_of c k) (Property ∷ []) (just property-within)))

  pub formula-within : AllLits (Within 1 (base c (k + 1))) (joined_clauses (clauses_of c k) (group_order (ports c) k))
  formula-within = first-one-within (base-least c (k + 1)) formula-first

-- a number within bounds; from 1 on it is no end mark
abbrev pub NumberWithin : ℕ → ℕ → ℤ → Type 0
NumberWithin a b z = (a ≤ nat_abs z) × (nat_abs z ≤ b)

-- what is kept of literals within bounds is within them
pub kept-within : (a b : ℕ) (x : Clause) → All (Within a b) x → All (NumberWithin a b) (kept x)
unfolding kept kept_of
kept-within a b [] nothing = nothing
kept-within a b (known t ∷ x) (also h r) = kept-within a b x r
kept-within a b (plus v ∷ x) (also h r) = also h (kept-within a b x r)
kept-within a b (minus zero ∷ x) (also h r) = also h (kept-within a b x r)
kept-within a b (minus (suc v) ∷ x) (also h r) = also h (kept-within a b x r)

-- the numbers of a clause that is written, without its end mark: what is kept, or -1 alone
unfoldable pub or_minus_one : List ℤ → List ℤ
or_minus_one [] = negsuc 0 ∷ []
or_minus_one (z ∷ zs) = z ∷ zs

pub or_minus_one-within : (b : ℕ) (zs : List ℤ) → 1 ≤ b → All (NumberWithin 1 b) zs → All (NumberWithin 1 b) (or_minus_one zs)
unfolding or_minus_one
or_minus_one-within b [] h nothing = just (omega arith)
or_minus_one-within b (z ∷ zs) h r = r

-- the end mark stands behind them
pub ended : (zs : List ℤ) → zs ++ end_of (length zs) ≡ or_minus_one zs ++ pos 0 ∷ []
unfolding end_of or_minus_one
ended [] = refl
ended (z ∷ zs) = refl

-- every number written is within the bound
pub written-within : (b : ℕ) (xs : List Clause) → 1 ≤ b → AllLits (Within 1 b) xs → All (λ z. nat_abs z ≤ b) (written xs)
unfolding written written_clause
written-within b [] h nothing = nothing
written-within b (x ∷ xs) h (also p q) = go (has_true x) ⧺ written-within b xs h q
  where
    go : (t : Bool) → All (λ z. nat_abs z ≤ b) (cond t [] (kept x ++ end_of (length (kept x))))
    go true = nothing
    go false = rw (ended (kept x)) (all-weaken (λ z w. w.1) (or_minus_one-within b (kept x) h (kept-within 1 b x p)) ⧺ just {x = pos 0} zero-le)
