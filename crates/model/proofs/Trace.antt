-- Where a read's word comes from, as S and Z say it, and what follows from what an assignment feeds (specs/Trace.antt), proved.
-- No contract cites this file.
use Prim.Native.Nat.{ℕ, zero, suc, zero-le, ◌+◌, ◌-◌, ◌*◌, ◌/◌, ◌%◌, ◌≤◌, ◌<◌}
use mathlib.Core.Path.{◌≡◌, refl, sym, ◌∙◌, ap, ap₂}
use mathlib.Core.Bool.{Bool, true, false, not, cond, ◌&&◌, and-false, true≢false}
use mathlib.Core.Logic.{⊎_elim, by_cases}
use native.Mathlib.Nat.{le_refl, div-add-mod', mod-lt, div-lt_iff_lt-mul, zero-mul}
use native.Mathlib.Numerals.{add-one}
use native.Mathlib.Decide.{dec_lt, dec_le, ℕ_discrete}
use native.Mathlib.Omega.{arith}
use lib.Dec.{eqb, ltb}
use lib.IntN.{pos, neg_ℤ}
use Rattle.model.specs.Bits.{odd}
use Rattle.model.specs.Netlist.{Netlist, is_unknown, start, ports, IsPort, port, last_wire}
use Rattle.model.specs.Circuit.{Values, code_value, State, address_of, Begins}
use Rattle.model.specs.Acceptance.{Accepted}
use Rattle.model.specs.Clauses.{known, plus, minus}
use Rattle.model.specs.Variables.{stride, base, pair_base, code_at, none_since_of, selected, pair_literals, Numbered, constant, wire, pair}
use Rattle.model.specs.Numbers.{Assignment, number_true}
use Rattle.model.specs.Claim.{feed_of, idle_of, Agrees}
use Rattle.model.specs.Trace.{assigned, writes, hits, Source, from_start, from-frame, literal_true, start_read, frame_read, FedAlike, IsEqualBit, equal-bit, Traced, TraceTheorem}
use Rattle.model.proofs.Booleans.{and-true, not-true-false}
use Rattle.model.proofs.Variables.{base-least, pair_base-base, none_since-last, none_since-earlier}
use Rattle.model.proofs.Circuit.{address_same}
use Rattle.model.proofs.Truth.{value, PairHolds}
use Rattle.model.proofs.InFrame.{assigned-zero, assigned-wire, code_in-value}
use Rattle.model.proofs.Forwarding.{Chain, source-exists, none-clear, none-idle}
use Rattle.model.proofs.Agreement.{Same, code-agrees, write-agrees, writes-agrees}
use Rattle.model.proofs.AssignedReads.{E-value, s-value, chain-value, S-value}
use Rattle.model.proofs.Groups.{DepthHolds}
use Rattle.model.proofs.Numbering.{numbered}
use Rattle.model.proofs.StartMemory.{Explains, start-explains, given-explains}
use Rattle.model.proofs.AssignmentToRun.{FedAs, assignment-agrees}
use Rattle.model.proofs.Ports.{unknown-single}
use Rattle.model.proofs.Claim.{depth-holds, begun}

-- the source of a read that a chain says
chain-source : (i : ℕ) (hit none : ℕ → Bool) → Chain i hit none → none i ≡ true → Source i hit (none 0) (λ j. hit j && none (suc j))
chain-source i hit none chain h = ⊎_elim start frame (source-exists i hit none chain 0 (λ j. 0) i (le_refl i) h)
  where
    start : none 0 ≡ true → Source i hit (none 0) (λ j. hit j && none (suc j))
    start z =
        from_start z λ j b.
        let clear = none-clear i hit none chain i 0 (omega arith) z j zero-le b in
        (ap (λ (x : Bool). x && none (suc j)) clear, clear)

    frame : (x : ℕ) × (x < i) × ((hit x && none (suc x)) ≡ true) → Source i hit (none 0) (λ j. hit j && none (suc j))
    frame (x, b, q) =
        let both = (and-true (hit x) (none (suc x))).0 q in
        -- a frame of which none since holds has no write behind it
        let since : (j : ℕ) → j ≤ x → none j ≡ false
        = λ j l. not-true-false (none j) (λ n. true≢false (sym both.0 ∙ none-clear i hit none chain (i - j) j (omega arith) n x l b)) in
        let later : (l : ℕ) → x < l → l < i → hit l ≡ false
        = λ l lo hi. none-clear i hit none chain (i - suc x) (suc x) (omega arith) both.1 l lo hi in
        from-frame x b q (since 0 zero-le)
        (λ l d other.
        by_cases (dec_lt x l)
        (λ lo. ap (λ (y : Bool). y && none (suc l)) (later l lo d))
        (λ lo. ap (λ (y : Bool). hit l && y) (since (suc l) (omega arith)) ∙ and-false (hit l)))
        both.0 later

-- no source of a frame that does not read
chain-none : (i : ℕ) (hit none : ℕ → Bool) → Chain i hit none → none i ≡ false
    → (none 0 ≡ false) × ((j : ℕ) → j < i → (hit j && none (suc j)) ≡ false)
chain-none i hit none chain h = (
  none-idle i hit none chain i 0 (omega arith) h,
  λ j b. ap (λ (y : Bool). hit j && y) (none-idle i hit none chain (i - suc j) (suc j) (omega arith) h) ∙ and-false (hit j),
)

-- what is said of the values of one pair of Z and S holds of others that are equal
source-same : {i : ℕ} {wrote : ℕ → Bool} {Z Z' : Bool} {S S' : ℕ → Bool} → Z' ≡ Z → ((j : ℕ) → j < i → S' j ≡ S j)
    → Source i wrote Z S → Source i wrote Z' S'
source-same z s (from_start e all) = from_start (z ∙ e) (λ j b. (s j b ∙ (all j b).0, (all j b).1))
source-same z s (from-frame j b e n others w later) =
    from-frame j b (s j b ∙ e) (z ∙ n) (λ l d other. s l d ∙ others l d other) w later

-- a literal whose variable is none below 1 has its value as a number too, where variable 1 is true
literal-true : (a : Assignment) → a 1 ≡ true → (b x : ℕ) → 1 ≤ b → literal_true a (code_at b x) ≡ value a (code_at b x)
unfolding code_at number_true value
literal-true a one b x h = go (ltb x 2) (odd x)
  where
    variable : (v : ℕ) → 1 ≤ v → number_true a (neg_ℤ (pos v)) ≡ not (a v)
    variable zero l = absurd (omega arith)
    variable (suc v) l = refl

    go : (s o : Bool) → literal_true a (cond s (known o) (cond o (minus (b + x / 2)) (plus (b + x / 2))))
        ≡ value a (cond s (known o) (cond o (minus (b + x / 2)) (plus (b + x / 2))))
    go true true = one
    go true false = ap not one
    go false true = variable (b + x / 2) (omega arith)
    go false false = refl

module _ (c : Netlist) (a : Assignment) (one : a 1 ≡ true) (p i : ℕ) where
  -- Z and S as numbers
  Z-true : (j : ℕ) → j ≤ i → literal_true a (none_since_of c (port c p) j i) ≡ value a (none_since_of c (port c p) j i)
  unfolding value number_true
  Z-true j l =
      by_cases (ℕ_discrete j i)
      (λ e. rw (e, none_since-last c (port c p) i) (literal-true a one (base c i) (port c p).RE (base-least c i)))
      (λ other. rw (none_since-earlier c (port c p) j i (omega arith)))

  S-true : (j : ℕ) → literal_true a (selected c (port c p) j i) ≡ value a (selected c (port c p) j i)
  unfolding selected value number_true
  S-true j = refl

module _ {c : Netlist} (k : ℕ) (a : Assignment) (holds : DepthHolds c k a) (p : ℕ) (here : IsPort c p) (i : ℕ) (d : i ≤ k) where
  abbrev u : ℕ → Values
  u = assigned c a

  abbrev none : ℕ → Bool
  none j = value a (none_since_of c (port c p) j i)

  pairs-at : (j : ℕ) → j < i → PairHolds a c.m c.n (start c) (pair_literals c (port c p) j i)
  pairs-at j l = holds.frames.pairs p here j i l d

  chain-at : Chain i (hits c (port c p) u i) none
  chain-at = chain-value c (port c p) a i pairs-at

  S-at : (j : ℕ) → j < i → frame_read c a (port c p) i j ≡ (hits c (port c p) u i j && none (suc j))
  unfolding pair_literals
  S-at j l = S-true c a holds.one p i j ∙ S-value c (port c p) a i pairs-at j l

  RE-at : none i ≡ code_value (u i) (port c p).RE
  RE-at = ap (value a) (none_since-last c (port c p) i) ∙ code_in-value c a i (port c p).RE

  source-at : code_value (u i) (port c p).RE ≡ true
      → Source i (hits c (port c p) u i) (start_read c a (port c p) i) (frame_read c a (port c p) i)
  source-at r = source-same (Z-true c a holds.one p i 0 zero-le) S-at (chain-source i (hits c (port c p) u i) none chain-at (RE-at ∙ r))

  none-at : code_value (u i) (port c p).RE ≡ false
      → (start_read c a (port c p) i ≡ false) × ((j : ℕ) → j < i → frame_read c a (port c p) i j ≡ false)
  none-at r =
      let both = chain-none i (hits c (port c p) u i) none chain-at (RE-at ∙ r) in
      (Z-true c a holds.one p i 0 zero-le ∙ both.0, λ j l. S-at j l ∙ both.1 j l)

-- two assignments that satisfy the clauses and feed alike, where the start is given
module _ {c : Netlist} (ok : Accepted c) (k : ℕ) (known : is_unknown (start c) ≡ false) (a b : Assignment) (first : DepthHolds c k a)
    (second : DepthHolds c k b) (alike : FedAlike c k a b) where
  -- the second's run: its memory, its state at the start
  shown : (memory : ℕ → ℕ) × Begins c.n (start c) memory × Explains c b k memory
  shown =
      start-explains c b k (start c) (unknown-single ok.limits.sizes) second.frames.pairs
      (λ p here i d. (second.frames.closings p here i d).initial-where-Z)

  state : State
  state = begun ok k b shown.0

  -- it is fed as both have it
  fed-second : FedAs c k b state (feed_of c b)
  unfolding state begun idle_of feed_of
  fed-second = record { latches-same = second.resets; idle-same = λ p here r t l. refl; inputs-same = λ i d x l. refl }

  fed-first : FedAs c k a state (feed_of c b)
  unfolding state begun idle_of feed_of
  fed-first = record { latches-same = first.resets; idle-same = alike.idle-alike; inputs-same = alike.inputs-alike }

  wires-alike : (i : ℕ) → i ≤ k → (w : ℕ) → 1 ≤ w → w ≤ last_wire c → a (base c i + w) ≡ b (base c i + w)
  unfolding Agrees state begun
  wires-alike i d w lo hi =
      assignment-agrees c a k first.frames state
      (given-explains c a k (start c) known (λ p here i d. (first.frames.closings p here i d).initial-where-Z) shown.0 shown.1) ok fed-first i d w lo hi
      ∙ sym (assignment-agrees c b k second.frames state shown.2 ok fed-second i d w lo hi)

  frames-alike : (i : ℕ) → i ≤ k → Same c (assigned c a i) (assigned c b i)
  frames-alike i d w hi =
      by_cases (ℕ_discrete w 0)
      (λ e. rw e (assigned-zero c a i ∙ sym (assigned-zero c b i)))
      (λ other. assigned-wire c a i w (omega arith) ∙ wires-alike i d w (omega arith) hi ∙ sym (assigned-wire c b i w (omega arith)))

  -- the variables of a pair at a port
  module _ (p : ℕ) (here : IsPort c p) (i : ℕ) (d : i ≤ k) where
    at-alike : address_of c (port c p) (assigned c a i) ≡ address_of c (port c p) (assigned c b i)
    at-alike =
        address_same c (port c p) (assigned c a i) (assigned c b i)
        (λ t l. code-agrees c (assigned c a i) (assigned c b i) (frames-alike i d) ((port c p).address t) (ok.limits.codes.address-fits p here t l))

    E-alike : (j : ℕ) → j < i → value a (pair_literals c (port c p) j i).E ≡ value b (pair_literals c (port c p) j i).E
    E-alike j l =
        E-value c (port c p) a j i (first.frames.pairs p here j i l d)
        ∙ ap₂ eqb at-alike (write-agrees c ok.limits.codes (assigned c a j) (assigned c b j) (frames-alike j (omega arith)))
        ∙ sym (E-value c (port c p) b j i (second.frames.pairs p here j i l d))

    hits-alike : (j : ℕ) → j < i → hits c (port c p) (assigned c a) i j ≡ hits c (port c p) (assigned c b) i j
    unfolding hits
    hits-alike j l =
        ap (λ (x : ℕ). writes c (assigned c a) x j) at-alike
        ∙ writes-agrees c ok.limits.codes (assigned c a) (assigned c b) (address_of c (port c p) (assigned c b i)) j (frames-alike j (omega arith))

    s-alike : (j : ℕ) → j < i → value a (pair_literals c (port c p) j i).s ≡ value b (pair_literals c (port c p) j i).s
    s-alike j l =
        s-value c (port c p) a j i (first.frames.pairs p here j i l d) ∙ hits-alike j l
        ∙ sym (s-value c (port c p) b j i (second.frames.pairs p here j i l d))

    none_alike : (e j : ℕ) → j + e ≡ i → value a (none_since_of c (port c p) j i) ≡ value b (none_since_of c (port c p) j i)
    none_alike zero j q =
        let last : j ≡ i = omega arith in
        rw last
        (RE-at k a first p here i d
        ∙ code-agrees c (assigned c a i) (assigned c b i) (frames-alike i d) (port c p).RE (ok.limits.codes.RE-fits p here)
        ∙ sym (RE-at k b second p here i d))
    none_alike (suc e) j q =
        (chain-at k a first p here i d).link j (omega arith)
        ∙ ap₂ (λ (x y : Bool). not x && y) (hits-alike j (omega arith)) (none_alike e (suc j) (omega arith))
        ∙ sym ((chain-at k b second p here i d).link j (omega arith))

    S-alike : (j : ℕ) → j < i → value a (selected c (port c p) j i) ≡ value b (selected c (port c p) j i)
    unfolding pair_literals
    S-alike j l =
        S-value c (port c p) a i (pairs-at k a first p here i d) j l
        ∙ ap₂ ◌&&◌ (hits-alike j l) (none_alike (i - suc j) (suc j) (omega arith))
        ∙ sym (S-value c (port c p) b i (pairs-at k b second p here i d) j l)

    -- by its number in the port's block
    block-alike : (j : ℕ) → j < i → (v z : ℕ) → z < c.m + 4 → v ≡ pair_base c (port c p) j i + 1 + z → (IsEqualBit c k v → ⊥) → a v ≡ b v
    unfolding pair_literals selected value
    block-alike j l v z below e other =
        by_cases (ℕ_discrete z 0)
        (λ q. let is : v ≡ pair_base c (port c p) j i + 1 = omega arith in rw is (E-alike j l)) λ not_e.
        by_cases (dec_le z c.m)
        (λ q. absurd (other (equal-bit p j i (z - 1) here l d (omega arith) (omega arith)))) λ not_bit.
        by_cases (ℕ_discrete z (c.m + 1))
        (λ q. let is : v ≡ pair_base c (port c p) j i + c.m + 2 = omega arith in rw is (s-alike j l)) λ not_s.
        by_cases (ℕ_discrete z (c.m + 2))
        (λ q.
        let is : v ≡ pair_base c (port c p) j i + c.m + 3 = omega arith in
        rw is (sym (ap (value a) (none_since-earlier c (port c p) j i l)) ∙ none_alike (i - j) j (omega arith) ∙ ap (value b) (none_since-earlier c (port c p) j i l)))
        (λ not_ps. let is : v ≡ pair_base c (port c p) j i + c.m + 4 = omega arith in rw is (S-alike j l))

  -- the variables of a pair, by their number over all ports
  pair-alike : (j i x v : ℕ) → j < i → i ≤ k → x < stride c → v ≡ pair_base c (port c 1) j i + 1 + x → (IsEqualBit c k v → ⊥) → a v ≡ b v
  pair-alike j i x v l d below e other =
      let positive : 0 < c.m + 4 = omega arith in
      let its-port : x / (c.m + 4) < ports c = (div-lt_iff_lt-mul positive).1 below in
      let whole : x / (c.m + 4) * (c.m + 4) + x % (c.m + 4) ≡ x = div-add-mod' x (c.m + 4) in
      let before : suc (x / (c.m + 4)) - 1 ≡ x / (c.m + 4) = omega arith in
      let block : (suc (x / (c.m + 4)) - 1) * (c.m + 4) ≡ x / (c.m + 4) * (c.m + 4) = ap (λ (y : ℕ). y * (c.m + 4)) before in
      block-alike (suc (x / (c.m + 4))) (omega arith, omega arith) i d j l v (x % (c.m + 4)) (mod-lt x positive)
      (omega (arith, pair_base-base c (port c 1) j i, pair_base-base c (port c (suc (x / (c.m + 4)))) j i, block, whole, zero-mul (c.m + 4))) other

  alike_at : (v : ℕ) → Numbered c k v → (IsEqualBit c k v → ⊥) → a v ≡ b v
  alike_at v (constant e) other = rw e (first.one ∙ sym second.one)
  alike_at v (wire i w d lo hi e) other = rw e (wires-alike i d w lo hi)
  alike_at v (pair j i x l d lo hi e) other = pair-alike j i (x - 1) v l d (omega arith) (omega arith) other

traced-depth : {c : Netlist} → Accepted c → (k : ℕ) → Traced c k
traced-depth {c} ok k =
    record {
      one-source = λ a h p here i d r. source-at k a (depth-holds ok k a h) p here i d r;
      no_source = λ a h p here i d r. none-at k a (depth-holds ok k a h) p here i d r;
      settled = λ known a b h g alike v lo hi other.
          alike_at ok k known a b (depth-holds ok k a h) (depth-holds ok k b g) alike v (numbered c k v lo (simp add-one at hi)) other;
    }

pub traced : TraceTheorem
traced c ok k = traced-depth ok k
