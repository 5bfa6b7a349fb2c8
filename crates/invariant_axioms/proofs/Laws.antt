-- Every law of specs/Laws.antt holds in every step, and makes a clause that is true there. No contract cites this file.
use Prim.Native.Nat.{ℕ, zero, suc, ◌+◌, ◌-◌, ◌*◌, ◌/◌, ◌%◌, ◌^◌, ◌≤◌, ◌<◌}
use mathlib.Core.Path.{◌≡◌, refl, sym, ◌∙◌, ap}
use mathlib.Core.Bool.{Bool, true, false, cond, not, ◌&&◌, ◌||◌, beq, true≢false, false≢true}
use mathlib.Core.List.{List, [], ◌∷◌, ◌++◌}
use native.Mathlib.Omega.{arith}
use native.Mathlib.Numerals.{add-one}
use native.Mathlib.Nat.{add-zero, suc-mul, mul-le-mul_right}
use lib.Dec.{eqb, leb, ltb}
use lib.IntN.{ℤ, pos, negsuc}
use lib.ListN.{length, get_or, drop, drop_of_length-le}
use lib.Seq.{drop-cons}
use borrow.Author.Tests.{eq-eqb, ne_eqb, ltb-true, leb-true, ltb-false}
use Rattle.model.specs.Bits.{odd, bit}
use Rattle.model.specs.Netlist.{Netlist, port, read_bits, latch_wire, read_wire, gate_wire}
use Rattle.model.specs.Circuit.{Values, State, code_value, address_of, write_address, word_written, step}
use Rattle.model.specs.Acceptance.{Accepted, SizesFit}
use Rattle.model.specs.Numbers.{Assignment, number_true}
use Rattle.model.proofs.Booleans.{and-true, is-beq-true, not-beq-false}
use Rattle.model.proofs.Bits.{bit-from_bits}
use Rattle.model.proofs.Circuit.{IsFrame, read_data-port}
use Rattle.text_writer.specs.Signed.{parts_of}
use Rattle.invariant_terms.specs.StateBits.{state_count, held_bit, word_bit}
use Rattle.invariant_terms.specs.Walk.{is_end, holds_in}
use Rattle.invariant_terms.specs.Terms.{state_term, term, code_term, opposite, number_of}
use Rattle.invariant_terms.proofs.StepValues.{matched, failing, step_at}
use Rattle.invariant_terms.proofs.StateBits.{state_value, latch-bit, held-bit, word-bit, latch-within, held-within, word-within}
use Rattle.invariant_terms.proofs.Terms.{opposite-value, negated-value, number-value, state-value, next-value, wire-value, match-value, none-value, found-value, code-value, match_none, match-more, match-address, address-match}
use Rattle.invariant_laws.specs.declared.Law.{Law}
use Rattle.invariant_laws.specs.LawForms.{law_of, no_law, false_term, true_term, same, where_true, where_both, where_false, pick, law_fits, clause_of}
use Rattle.invariant_axioms.specs.Laws.{match_pick, place_law, last_law, invariant_law, constant_law, latch_law, next_law, fail_law, gate_law, read_pick, read_law, word_pick, word_law, match_law, requested}

-- what a law says under values of the variables
unfoldable pub Holds : (ℕ → Bool) → Law → Type 0
Holds g x = code_value g x.guard ≡ false → code_value g x.second ≡ false → code_value g x.left ≡ code_value g x.right

not-false-true : (b : Bool) → not b ≡ false → b ≡ true
not-false-true true h = refl
not-false-true false h = absurd (true≢false h)

module _ (g : ℕ → Bool) where
  no_law-holds : Holds g no_law
  unfolding Holds no_law law_of
  no_law-holds p q = refl

  pick-holds : (k : ℕ) (w x y z : Law) → Holds g w → Holds g x → Holds g y → Holds g z → Holds g (pick k w x y z)
  unfolding pick
  pick-holds k w x y z hw hx hy hz = go (eqb k 0) (eqb k 1) (eqb k 2)
    where
      go : (p q r : Bool) → Holds g (cond p w (cond q x (cond r y z)))
      go true q r = hw
      go false true r = hx
      go false false true = hy
      go false false false = hz

  where-holds : (test : Bool) (x : Law) → (test ≡ true → Holds g x) → Holds g (cond test x no_law)
  where-holds true x h = h refl
  where-holds false x h = no_law-holds

  same-holds : (b left right : ℕ) → code_value g left ≡ code_value g right → Holds g (same b left right)
  unfolding Holds same law_of
  same-holds b left right e p q = e

  where_both-holds : (x y left right : ℕ) → (code_value g x ≡ true → code_value g y ≡ true → code_value g left ≡ code_value g right)
      → Holds g (where_both x y left right)
  unfolding Holds where_both law_of
  where_both-holds x y left right e p q =
      e (not-false-true (code_value g x) (sym (opposite-value g x) ∙ p)) (not-false-true (code_value g y) (sym (opposite-value g y) ∙ q))

  where_true-holds : (x left right : ℕ) → (code_value g x ≡ true → code_value g left ≡ code_value g right) → Holds g (where_true x left right)
  unfolding where_true
  where_true-holds x left right e = where_both-holds x x left right (λ p q. e p)

  where_false-holds : (x left right : ℕ) → (code_value g x ≡ false → code_value g left ≡ code_value g right) → Holds g (where_false x left right)
  unfolding Holds where_false law_of
  where_false-holds x left right e p q = e p

-- A step: a frame of the circuit, and P is false in it or the invariant fails behind it
pub record IsStep (c : Netlist) (zs : List ℤ) (s : State) (f : ℕ → Bool) (v : Values) : Type 0 where
  pub accepted : Accepted c
  pub is-frame : IsFrame c s f v
  pub fails : code_value v c.P ≡ true → failing c zs (step c s v) false 0 ≡ true

module _ {c : Netlist} {zs : List ℤ} {s : State} {f : ℕ → Bool} {v : Values} (h : IsStep c zs s f v) where
  abbrev b : ℕ
  b = state_count c

  abbrev g : ℕ → Bool
  g = step_at c zs s v

  sizes : SizesFit c
  sizes = h.accepted.limits.sizes

  -- the constants
  false-value : code_value g (false_term b) ≡ false
  unfolding false_term
  false-value = wire-value c zs s v 0 ∙ h.is-frame.at_zero

  true-value : code_value g (true_term b) ≡ true
  unfolding true_term false_term
  true-value = negated-value g b 1 0 ∙ ap not false-value

  constant-holds : Holds g (constant_law c)
  unfolding Holds constant_law where_false law_of
  constant-holds p q = absurd (true≢false (sym true-value ∙ p))

  latch-holds : (l : ℕ) → Holds g (latch_law c l)
  unfolding latch_law
  latch-holds l =
      where-holds g (ltb l c.latches) _ λ e.
      let below = ltb-true l c.latches e in
      same-holds g b (term b 1 (latch_wire c l)) (state_term l)
      (wire-value c zs s v (latch_wire c l) ∙ h.is-frame.at-latch l below
      ∙ sym (state-value c zs s v l (latch-within c l below) ∙ latch-bit c s l below))

  next-holds : (l : ℕ) → Holds g (next_law c l)
  unfolding next_law step
  next-holds l =
      where-holds g (ltb l c.latches) _ λ e.
      let below = ltb-true l c.latches e in
      same-holds g b (term b 0 l) (code_term b (c.next l))
      (next-value c zs s v l ∙ latch-bit c (step c s v) l below ∙ sym (code-value c zs s v (c.next l)))

  fail-holds : Holds g (fail_law c)
  unfolding fail_law
  fail-holds =
      where_true-holds g (code_term b c.P) (term b 3 0) (true_term b)
      (λ e. none-value c zs s v 0 ∙ h.fails (sym (code-value c zs s v c.P) ∙ e) ∙ sym true-value)

  -- gates
  module _ (x : ℕ) (below : x < c.gates) where
    gate-is : code_value g (term b 1 (gate_wire c x)) ≡ (code_value g (code_term b (c.left x)) && code_value g (code_term b (c.right x)))
    gate-is =
        wire-value c zs s v (gate_wire c x) ∙ h.is-frame.at-gate x below
        ∙ rw (code-value c zs s v (c.left x), code-value c zs s v (c.right x))

  and-true-right : (p q : Bool) → q ≡ true → (p && q) ≡ p
  and-true-right true q e = e
  and-true-right false q e = refl

  and-false-right : (p q : Bool) → q ≡ false → (p && q) ≡ false
  and-false-right true q e = e
  and-false-right false q e = refl

  gate-holds : (k x : ℕ) → Holds g (gate_law c k x)
  unfolding gate_law
  gate-holds k x =
      where-holds g (ltb x c.gates) _ λ e.
      let is = gate-is x (ltb-true x c.gates e) in
      let left = code_term b (c.left x) in
      let right = code_term b (c.right x) in
      let own = term b 1 (gate_wire c x) in
      pick-holds g k _ _ _ _
      (where_true-holds g right own left (λ p. is ∙ and-true-right (code_value g left) (code_value g right) p))
      (where_false-holds g right own (false_term b) (λ p. is ∙ and-false-right (code_value g left) (code_value g right) p ∙ sym false-value))
      (where_true-holds g left own right (λ p. is ∙ rw p))
      (where_false-holds g left own (false_term b) (λ p. is ∙ rw p (sym false-value)))

  -- reads
  module _ (q t x : ℕ) (there : q ≤ c.second_port) (t-below : t < c.n) (x_below : x < 2 ^ c.m) where
    abbrev r : ℕ
    r = q * c.n + t

    r-below : r < read_bits c
    r-below =
        let most : suc q * c.n ≤ suc c.second_port * c.n = mul-le-mul_right c.n (omega arith) in
        omega (arith, suc-mul q c.n)

    read_is : code_value g (term b 1 (read_wire c r))
        ≡ cond (code_value v (port c (suc q)).RE) (bit (s.memory (address_of c (port c (suc q)) v)) t) (s.held r)
    unfolding address_of bit code_value
    read_is =
        let e : suc q - 1 ≡ q = omega arith in
        wire-value c zs s v (read_wire c r) ∙ h.is-frame.at_read r r-below ∙ rw e at (read_data-port c (suc q) (omega arith, omega arith) s v t t-below)

    re-is : code_value g (code_term b (port c (suc q)).RE) ≡ code_value v (port c (suc q)).RE
    re-is = code-value c zs s v (port c (suc q)).RE

    q-below : q < 2
    q-below = omega (arith, sizes.kind_fits)

    few : c.m < 16
    few = omega (arith, sizes.m-most)

    held-holds : Holds g (where_false (code_term b (port c (suc q)).RE) (term b 1 (read_wire c r)) (state_term (held_bit c r)))
    held-holds =
        where_false-holds g _ _ _
        (λ p. read_is ∙ rw (sym re-is ∙ p) (sym (state-value c zs s v (held_bit c r) (held-within c r r-below) ∙ held-bit c s r r-below)))

    word_holds : Holds g (where_both (code_term b (port c (suc q)).RE) (term b 2 (32 * x + 2 * c.m + q)) (term b 1 (read_wire c r)) (state_term (word_bit c x t)))
    word_holds =
        where_both-holds g _ _ _ _
        (λ p m. read_is
        ∙ rw (sym re-is ∙ p, match-address c v q x q-below x_below few (sym (match-value c zs s v (32 * x + 2 * c.m + q)) ∙ m))
        (sym (state-value c zs s v (word_bit c x t) (word-within c x t x_below t-below) ∙ word-bit c s x t t-below)))

    kept-holds : Holds g (same b (term b 0 (held_bit c r)) (term b 1 (read_wire c r)))
    unfolding step
    kept-holds =
        same-holds g b _ _
        (next-value c zs s v (held_bit c r) ∙ held-bit c (step c s v) r r-below ∙ sym (wire-value c zs s v (read_wire c r)))

  three : (p q r : Bool) → (p && q && r) ≡ true → (p ≡ true) × (q ≡ true) × (r ≡ true)
  three true true true e = (refl, refl, refl)
  three true true false e = absurd (false≢true e)
  three true false r e = absurd (false≢true e)
  three false q r e = absurd (false≢true e)

  read-holds : (k i x : ℕ) → Holds g (read_law c k i x)
  unfolding read_law read_pick
  read-holds k i x =
      where-holds g (leb (i % 2) c.second_port && ltb (i / 2) c.n && ltb x (2 ^ c.m)) _ λ e.
      let parts = three (leb (i % 2) c.second_port) (ltb (i / 2) c.n) (ltb x (2 ^ c.m)) e in
      let there = leb-true (i % 2) c.second_port parts.0 in
      let t-below = ltb-true (i / 2) c.n parts.1 in
      let x_below = ltb-true x (2 ^ c.m) parts.2 in
      pick-holds g k _ _ _ _
      (held-holds (i % 2) (i / 2) x there t-below x_below)
      (word_holds (i % 2) (i / 2) x there t-below x_below)
      (kept-holds (i % 2) (i / 2) x there t-below x_below)
      (no_law-holds g)

  -- words behind the step
  module _ (t x : ℕ) (t-below : t < c.n) (x_below : x < 2 ^ c.m) where
    after_is : code_value g (term b 0 (word_bit c x t))
        ≡ bit (cond (code_value v c.WE && eqb x (write_address c v)) (word_written c v) (s.memory x)) t
    unfolding step
    after_is = next-value c zs s v (word_bit c x t) ∙ word-bit c (step c s v) x t t-below

    before-is : code_value g (state_term (word_bit c x t)) ≡ bit (s.memory x) t
    before-is = state-value c zs s v (word_bit c x t) (word-within c x t x_below t-below) ∙ word-bit c s x t t-below

    we-is : code_value g (code_term b c.WE) ≡ code_value v c.WE
    we-is = code-value c zs s v c.WE

    place : 32 * x + 2 * c.m ≡ 32 * x + 2 * c.m + 0
    place = omega arith

    match-is-true : code_value g (term b 2 (32 * x + 2 * c.m)) ≡ true → write_address c v ≡ x
    match-is-true m = match-address c v 0 x (omega arith) x_below (omega (arith, sizes.m-most)) (ap (matched c v) (sym place) ∙ sym (match-value c zs s v (32 * x + 2 * c.m)) ∙ m)

    match-is-false : code_value g (term b 2 (32 * x + 2 * c.m)) ≡ false → x ≡ write_address c v → ⊥
    match-is-false m e =
        true≢false
        (sym (address-match c v 0 x (omega arith) x_below (omega (arith, sizes.m-most)) (sym e))
        ∙ ap (matched c v) (sym place) ∙ sym (match-value c zs s v (32 * x + 2 * c.m)) ∙ m)

    written-holds : Holds g (where_both (code_term b c.WE) (term b 2 (32 * x + 2 * c.m)) (term b 0 (word_bit c x t)) (code_term b (c.write_data t)))
    unfolding word_written
    written-holds =
        where_both-holds g _ _ _ _
        (λ p m. after_is
        ∙ rw (sym we-is ∙ p, eq-eqb x (write_address c v) (sym (match-is-true m)))
        (bit-from_bits c.n (λ t. code_value v (c.write_data t)) t t-below ∙ sym (code-value c zs s v (c.write_data t))))

    idle-holds : Holds g (where_false (code_term b c.WE) (term b 0 (word_bit c x t)) (state_term (word_bit c x t)))
    idle-holds = where_false-holds g _ _ _ (λ p. after_is ∙ rw (sym we-is ∙ p) (sym before-is))

    elsewhere-holds : Holds g (where_false (term b 2 (32 * x + 2 * c.m)) (term b 0 (word_bit c x t)) (state_term (word_bit c x t)))
    elsewhere-holds =
        where_false-holds g _ _ _
        (λ m. after_is ∙ rw (and-false-right (code_value v c.WE) (eqb x (write_address c v)) (ne_eqb x (write_address c v) (match-is-false m))) (sym before-is))

  memory-holds : (k t x : ℕ) → Holds g (word_law c k t x)
  unfolding word_law word_pick
  memory-holds k t x =
      where-holds g (ltb t c.n && ltb x (2 ^ c.m)) _ λ e.
      let parts = (and-true (ltb t c.n) (ltb x (2 ^ c.m))).0 e in
      let t-below = ltb-true t c.n parts.0 in
      let x_below = ltb-true x (2 ^ c.m) parts.1 in
      pick-holds g k _ _ _ _ (written-holds t x t-below x_below) (idle-holds t x t-below x_below) (elsewhere-holds t x t-below x_below) (no_law-holds g)

  -- matches
  agree-is : (p : Bool) (x : ℕ) → code_value g (cond p x (opposite x)) ≡ beq (code_value g x) p
  agree-is true x = is-beq-true (code_value g x)
  agree-is false x = opposite-value g x ∙ not-beq-false (code_value g x)

  abbrev agree : ℕ → ℕ → ℕ
  agree i y = cond (bit y (i / 2)) (code_term b ((port c (suc (i % 2))).address (i / 2))) (opposite (code_term b ((port c (suc (i % 2))).address (i / 2))))

  module _ (i y : ℕ) (below : i / 2 < c.m) where
    more-is : code_value g (term b 2 (32 * y + i + 2)) ≡ (code_value g (term b 2 (32 * y + i)) && code_value g (agree i y))
    more-is =
        let whole : i ≡ 2 * (i / 2) + i % 2 = omega arith in
        let here : 32 * y + i ≡ 32 * y + 2 * (i / 2) + i % 2 = omega arith in
        let next : 32 * y + i + 2 ≡ 32 * y + 2 * (i / 2) + i % 2 + 2 = omega arith in
        match-value c zs s v (32 * y + i + 2)
        ∙ ap (matched c v) next
        ∙ match-more c v (i % 2) y (omega arith) (i / 2) (omega (arith, sizes.m-most))
        ∙ sym (rw (match-value c zs s v (32 * y + i), agree-is (bit y (i / 2)) (code_term b ((port c (suc (i % 2))).address (i / 2))), code-value c zs s v ((port c (suc (i % 2))).address (i / 2)))
        (ap (λ (u : ℕ). matched c v u && beq (code_value v ((port c (suc (i % 2))).address (i / 2))) (bit y (i / 2))) here))

  match-holds : (k i y : ℕ) → Holds g (match_law c k i y)
  unfolding match_law match_pick
  match-holds k i y =
      where-holds g (leb (i % 2) c.second_port && ltb (i / 2) c.m && ltb y 4096) _ λ e.
      let parts = three (leb (i % 2) c.second_port) (ltb (i / 2) c.m) (ltb y 4096) e in
      let is = more-is i y (ltb-true (i / 2) c.m parts.1) in
      pick-holds g k _ _ _ _
      (same-holds g b _ _ (match-value c zs s v (32 * y + i % 2) ∙ match_none c v (i % 2) y (omega arith) ∙ sym true-value))
      (where_true-holds g (agree i y) _ _ (λ p. is ∙ and-true-right (code_value g (term b 2 (32 * y + i))) (code_value g (agree i y)) p))
      (where_false-holds g (agree i y) _ _ (λ p. is ∙ and-false-right (code_value g (term b 2 (32 * y + i))) (code_value g (agree i y)) p ∙ sym false-value))
      (no_law-holds g)

  -- places of the invariant
  after-value : (z : ℤ) → is_end z ≡ false → code_value g (term b 0 ((parts_of z).value - 1) + (parts_of z).sign) ≡ number_true (state_value c (step c s v)) z
  unfolding is_end number_true state_value
  after-value (pos zero) e = absurd (true≢false e)
  after-value (pos (suc u)) e = rw add-zero (next-value c zs s v (suc u - 1))
  after-value (negsuc u) e = negated-value g b 0 (suc u - 1) ∙ ap not (next-value c zs s v (suc u - 1))

  module _ (x : ℕ) (z : ℤ) (rest : List ℤ) (e : drop x zs ≡ z ∷ rest) (e' : drop (x + 1) zs ≡ rest) where
    abbrev now : ℤ → Bool
    now = number_true (state_value c (step c s v))

    failing-here : (found : Bool) → failing c zs (step c s v) found x ≡ not (cond (is_end z) (found && holds_in now false rest) (holds_in now (found || now z) rest))
    unfolding failing holds_in
    failing-here found = rw e

    failing-next : (found : Bool) → failing c zs (step c s v) found (x + 1) ≡ not (holds_in now found rest)
    unfolding failing
    failing-next found = rw e'

    ended-holds : (k : ℕ) → is_end z ≡ true → Holds g (pick k (same b (term b 3 x) (true_term b)) (same b (term b 4 x) (term b 3 (x + 1))) no_law no_law)
    ended-holds k is =
        pick-holds g k _ _ _ _
        (same-holds g b _ _ (none-value c zs s v x ∙ failing-here false ∙ rw is (sym true-value)))
        (same-holds g b _ _ (found-value c zs s v x ∙ failing-here true ∙ rw is (sym (none-value c zs s v (x + 1) ∙ failing-next false))))
        (no_law-holds g)
        (no_law-holds g)

    number-holds : (k : ℕ) → is_end z ≡ false
        → Holds g (pick k (where_true (term b 0 ((parts_of z).value - 1) + (parts_of z).sign) (term b 3 x) (term b 4 (x + 1)))
        (where_false (term b 0 ((parts_of z).value - 1) + (parts_of z).sign) (term b 3 x) (term b 3 (x + 1))) (same b (term b 4 x) (term b 4 (x + 1))) no_law)
    number-holds k is =
        pick-holds g k _ _ _ _
        (where_true-holds g (term b 0 ((parts_of z).value - 1) + (parts_of z).sign) (term b 3 x) (term b 4 (x + 1)) (λ p. none-value c zs s v x ∙ failing-here false ∙ rw (is, sym (after-value z is) ∙ p) (sym (found-value c zs s v (x + 1) ∙ failing-next true))))
        (where_false-holds g (term b 0 ((parts_of z).value - 1) + (parts_of z).sign) (term b 3 x) (term b 3 (x + 1)) (λ p. none-value c zs s v x ∙ failing-here false ∙ rw (is, sym (after-value z is) ∙ p) (sym (none-value c zs s v (x + 1) ∙ failing-next false))))
        (same-holds g b _ _ (found-value c zs s v x ∙ failing-here true ∙ rw is (sym (found-value c zs s v (x + 1) ∙ failing-next true))))
        (no_law-holds g)

    place-holds : (k : ℕ) → Holds g (place_law b k x z)
    unfolding place_law
    place-holds k = go (is_end z) refl
      where
        go : (p : Bool) → is_end z ≡ p
            → Holds g (cond p (pick k (same b (term b 3 x) (true_term b)) (same b (term b 4 x) (term b 3 (x + 1))) no_law no_law)
            (pick k (where_true (term b 0 ((parts_of z).value - 1) + (parts_of z).sign) (term b 3 x) (term b 4 (x + 1)))
            (where_false (term b 0 ((parts_of z).value - 1) + (parts_of z).sign) (term b 3 x) (term b 3 (x + 1))) (same b (term b 4 x) (term b 4 (x + 1))) no_law))
        go true is = ended-holds k is
        go false is = number-holds k is

  failing-past : (found : Bool) (x : ℕ) → length zs ≤ x → failing c zs (step c s v) found x ≡ false
  unfolding failing holds_in
  failing-past found x past = rw (drop_of_length-le zs past)

  last-holds : (k x : ℕ) → length zs ≤ x → Holds g (last_law b k x)
  unfolding last_law
  last-holds k x past =
      pick-holds g k _ _ _ _
      (same-holds g b _ _ (none-value c zs s v x ∙ failing-past false x past ∙ sym false-value))
      (same-holds g b _ _ (found-value c zs s v x ∙ failing-past true x past ∙ sym false-value))
      (no_law-holds g)
      (no_law-holds g)

  invariant-holds : (k x : ℕ) → Holds g (invariant_law b zs k x)
  unfolding invariant_law
  invariant-holds k x = go (ltb x (length zs)) refl
    where
      go : (p : Bool) → ltb x (length zs) ≡ p → Holds g (cond p (place_law b k x (get_or zs x (pos 0))) (last_law b k x))
      go true e = place-holds x (get_or zs x (pos 0)) (drop (suc x) zs) (drop-cons zs x (pos 0) (ltb-true x (length zs) e)) (rw add-one) k
      go false e = last-holds k x (ltb-false x (length zs) e)

  pub requested-holds : (request i j : ℕ) → Holds g (requested c zs request i j)
  unfolding requested
  requested-holds request i j = go (eqb (request / 8) 0) (eqb (request / 8) 1) (eqb (request / 8) 2) (eqb (request / 8) 3) (eqb (request / 8) 4) (eqb (request / 8) 5)
    where
      k : ℕ
      k = request / 2 % 4

      go : (p q r t u w : Bool) → Holds g (cond p (pick k (constant_law c) (latch_law c i) (next_law c i) (fail_law c))
          (cond q (gate_law c k i) (cond r (read_law c k i j) (cond t (word_law c k i j) (cond u (match_law c k i j) (cond w (invariant_law b zs k i) no_law))))))
      go true q r t u w = pick-holds g k _ _ _ _ constant-holds (latch-holds i) (next-holds i) fail-holds
      go false true r t u w = gate-holds k i
      go false false true t u w = read-holds k i j
      go false false false true u w = memory-holds k i j
      go false false false false true w = match-holds k i j
      go false false false false false true = invariant-holds k i
      go false false false false false false = no_law-holds g

-- the clause of a law that holds is true
module _ (g : ℕ → Bool) where
  abbrev a : Assignment
  a = λ u. g (u - 1)

  number-plain : (x : ℕ) → is_end (number_of x) ≡ false
  unfolding is_end number_of
  number-plain x = go (odd x)
    where
      go : (p : Bool) → is_end (cond p (negsuc (x / 2)) (pos (suc (x / 2)))) ≡ false
      go true = refl
      go false = refl

  four : (x y z w : ℕ) (rest : List ℤ) → (code_value g x ≡ false → code_value g y ≡ false → code_value g z ≡ false → code_value g w ≡ true)
      → holds_in (number_true a) false (number_of x ∷ number_of y ∷ number_of z ∷ number_of w ∷ pos 0 ∷ rest) ≡ holds_in (number_true a) false rest
  unfolding holds_in is_end
  four x y z w rest h =
      rw (number-plain x, number-plain y, number-plain z, number-plain w, number-value g x, number-value g y, number-value g z, number-value g w)
      (go (code_value g x) (code_value g y) (code_value g z) (code_value g w) h)
    where
      go : (p q r t : Bool) → (p ≡ false → q ≡ false → r ≡ false → t ≡ true)
          → (((((false || p) || q) || r) || t) && holds_in (number_true a) false rest) ≡ holds_in (number_true a) false rest
      go true q r t h = refl
      go false true r t h = refl
      go false false true t h = refl
      go false false false true h = refl
      go false false false false h = absurd (false≢true (h refl refl refl))

  opposite-zero : opposite 0 ≡ 1
  unfolding opposite odd
  opposite-zero = refl

  pub clause-holds : (direction : ℕ) (x : Law) → Holds g x → (rest : List ℤ)
      → holds_in (number_true a) false (clause_of direction x ++ rest) ≡ holds_in (number_true a) false rest
  unfolding clause_of Holds
  clause-holds direction x h rest = go (law_fits x) (eqb direction 0)
    where
      opposite-true : (y : ℕ) → code_value g y ≡ false → code_value g (opposite y) ≡ true
      opposite-true y e = opposite-value g y ∙ ap not e

      opposite-false : (y : ℕ) → code_value g (opposite y) ≡ false → code_value g y ≡ true
      opposite-false y e = not-false-true (code_value g y) (sym (opposite-value g y) ∙ e)

      go : (p q : Bool)
          → holds_in (number_true a) false
          (cond p
          (number_of x.guard ∷ number_of x.second ∷ number_of (cond q (opposite x.left) x.left) ∷ number_of (cond q x.right (opposite x.right)) ∷ pos 0 ∷ [])
          (number_of 0 ∷ number_of 0 ∷ number_of 1 ∷ number_of 1 ∷ pos 0 ∷ []) ++ rest)
          ≡ holds_in (number_true a) false rest
      go true true = four x.guard x.second (opposite x.left) x.right rest (λ p q r. sym (h p q) ∙ opposite-false x.left r)
      go true false = four x.guard x.second x.left (opposite x.right) rest (λ p q r. opposite-true x.right (sym (h p q) ∙ r))
      go false q = four 0 0 1 1 rest (λ p q r. absurd (true≢false (sym (opposite-true 0 p) ∙ ap (code_value g) opposite-zero ∙ r)))
