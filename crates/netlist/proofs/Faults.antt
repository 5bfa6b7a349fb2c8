-- A netlist has no fault in any line exactly where it meets the model's limits (specs/Faults.antt and the model's Acceptance).
-- Cited by the tests of records and by the sheet reader.
use Prim.Native.Nat.{ℕ, ◌+◌, ◌-◌, ◌*◌, ◌/◌, ◌^◌, ◌≤◌, ◌<◌, zero-le}
use mathlib.Core.Path.{◌≡◌, refl, sym, ◌∙◌, ap}
use mathlib.Core.Bool.{Bool, true, false, not, ◌||◌, true≢false}
use mathlib.Core.Logic.{◌↔◌, by_cases}
use native.Mathlib.Nat.{div-eq_of_lt, le-div_iff_mul-le}
use native.Mathlib.Decide.{ℕ_discrete, dec_lt}
use native.Mathlib.Omega.{arith}
use lib.Dec.{ltb, leb, eqb}
use lib.Pow.{pow_pos, pow_mono}
use borrow.Author.Tests.{ltb-false, lt-ltb, le-ltb, leb-false, lt-leb, le-leb, eq-eqb, ne_eqb}
use Rattle.model.specs.Netlist.{Netlist, Start, given, unknown, start_of, start, IsPort, port, gate_wire, last_wire}
use Rattle.model.specs.Circuit.{depends_on_read}
use Rattle.model.specs.Search.{seen}
use Rattle.model.specs.Acceptance.{StartFits, SizesFit, IsCode, CodesFit, NoTie, NoLoop}
use Rattle.model.proofs.Ports.{first-port, second-port, each-port}
use Rattle.model.proofs.Search.{seen_at}
use Rattle.model.proofs.Start.{start-given, start-unknown}
use Rattle.model.proofs.Booleans.{not-true-false}
use Rattle.netlist.specs.Faults.{outside, start_fault, size_fault, code_fault, is_tied, tie_fault, loop_fault_by, loop_fault}
use Rattle.netlist.specs.declared.Line.{Line}
use Rattle.netlist.specs.declared.Line.TheVariants.{Sizes, Memory, Latch, Gate, Control}
use Rattle.netlist.proofs.Places.{EveryLine}

-- two conditions of which neither holds, each by what its absence means
pub neither : {x y : Bool} {A B : Type 0} → (x ≡ false) ↔ A → (y ≡ false) ↔ B → ((x || y) ≡ false) ↔ (A × B)
neither {x = true} p q = (λ h. absurd (true≢false h), λ h. p.1 h.0)
neither {x = false} p q = (λ h. (p.0 refl, q.0 h), λ h. q.1 h.1)

-- a number is within its limits
inside : (low high x : ℕ) → (outside low high x ≡ false) ↔ ((low ≤ x) × (x ≤ high))
inside low high x = neither (ltb-false x low, le-ltb x low) (ltb-false high x, le-ltb high x)

-- a limit that begins at 0 has one side
pub outside_above : (high x : ℕ) → outside 0 high x ≡ ltb high x
outside_above high x = rw (le-ltb x 0 zero-le)

-- and is met up to it
pub at_most : (high x : ℕ) → (outside 0 high x ≡ false) ↔ (x ≤ high)
at_most high x = (λ h. ((inside 0 high x).0 h).1, λ h. (inside 0 high x).1 (zero-le, h))

-- a word has more than n bits where something is left of it once n bits are shifted out
pub word-outside : (n x : ℕ) → outside 0 (2 ^ n - 1) x ≡ not (eqb (x / 2 ^ n) 0)
word-outside n x =
    outside_above (2 ^ n - 1) x
    ∙ by_cases (dec_lt x (2 ^ n))
    (λ h. rw (le-ltb (2 ^ n - 1) x (omega arith), eq-eqb (x / 2 ^ n) 0 (div-eq_of_lt h)))
    (λ h. rw (lt-ltb (2 ^ n - 1) x (omega (arith, pow_pos n)), ne_eqb (x / 2 ^ n) 0 (omega (arith, more h))))
  where
    more : (x < 2 ^ n → ⊥) → 1 ≤ x / 2 ^ n
    more h = (le-div_iff_mul-le (pow_pos n)).1 (omega arith)

-- a number of 32 bits is a word of any width from 32 on
pub word-inside : (n x : ℕ) → 32 ≤ n → x < 2 ^ 32 → outside 0 (2 ^ n - 1) x ≡ false
word-inside n x h b = (at_most (2 ^ n - 1) x).1 (omega (arith, pow_mono {i = 32} {j = n} h))

-- a start without a fault is one that fits
start-inside : (n : ℕ) (s : Start) → (start_fault n s ≡ false) ↔ StartFits n s
unfolding start_fault StartFits
start-inside n (given word) =
    (λ h. omega (arith, pow_pos n, (at_most (2 ^ n - 1) word).0 h), λ h. (at_most (2 ^ n - 1) word).1 (omega arith))
start-inside n unknown = (λ h. tt, λ h. refl)

-- the fault by the number that says whether the start is unknown
pub given-fault : (n word u : ℕ) → u ≡ 0 → start_fault n (start_of word u) ≡ outside 0 (2 ^ n - 1) word
unfolding start_fault
given-fault n word u e = rw (start-given word u e)

pub unknown-fault : (n word u : ℕ) → (u ≡ 0 → ⊥) → start_fault n (start_of word u) ≡ false
unfolding start_fault
unknown-fault n word u h = rw (start-unknown word u h)

-- the two tests of an order are each other's opposite
pub leb-not-ltb : (a b : ℕ) → leb a b ≡ not (ltb b a)
leb-not-ltb a b =
    by_cases (dec_lt b a)
    (λ h. rw (lt-leb a b h, lt-ltb b a h))
    (λ h. rw (le-leb a b (omega arith), le-ltb b a (omega arith)))

-- a code is within its limit
code_inside : (last x : ℕ) → (ltb (2 * last + 1) x ≡ false) ↔ (x ≤ 2 * last + 1)
code_inside last x = (ltb-false (2 * last + 1) x, le-ltb (2 * last + 1) x)

-- an address code is not tied: an earlier one of its wire is a constant as it is itself
untied : (address : ℕ → ℕ) (t : ℕ) → (is_tied address t ≡ false) ↔ ((s : ℕ) → s < t → address s / 2 ≡ address t / 2 → address t / 2 ≡ 0)
unfolding is_tied
untied address t =
    by_cases (ℕ_discrete w 0)
    (λ z. (λ h s l e. z, λ h. rw (eq-eqb w 0 z)))
    (λ z. rw (ne_eqb w 0 z) (
      λ h s l e. absurd (true≢false (sym ((seen_at wires t w).1 (s, l, e)) ∙ h)),
      λ h. not-true-false (seen wires t w) (λ k. let found = (seen_at wires t w).0 k in z (h found.0 found.1 found.2)),
    ))
  where
    w : ℕ
    w = address t / 2

    wires : ℕ → ℕ
    wires s = address s / 2

-- a line is without a fault
abbrev pub Without : (Netlist → Line → Bool) → Netlist → Line → Type 0
Without fault c x = fault c x ≡ false

module _ (c : Netlist) where
  -- the numbers of line N
  sizes-inside : Without size_fault c Sizes ↔ (((c.inputs ≤ 600) × (c.latches ≤ 600)) × (c.gates ≤ 600))
  unfolding size_fault
  sizes-inside = neither (neither (at_most 600 c.inputs) (at_most 600 c.latches)) (at_most 600 c.gates)

  -- the numbers of line M
  memory-inside : Without size_fault c Memory
      ↔ (((((c.unknown_start + c.second_port ≤ 1) × ((1 ≤ c.m) × (c.m ≤ 12))) × ((1 ≤ c.n) × (c.n ≤ 32))) × StartFits c.n (start c)) × (last_wire c ≤ 600))
  unfolding size_fault
  memory-inside =
      neither
      (neither (neither (neither (at_most 1 (c.unknown_start + c.second_port)) (inside 1 12 c.m)) (inside 1 32 c.n)) (start-inside c.n (start c)))
      (at_most 600 (last_wire c))

  -- where the numbers that say the kind are within their limit, the others of line M or T decide
  pub memory-rest : outside 0 1 (c.unknown_start + c.second_port) ≡ false
      → size_fault c Memory ≡ (outside 1 12 c.m || outside 1 32 c.n || start_fault c.n (start c) || outside 0 600 (last_wire c))
  unfolding size_fault
  memory-rest h = ap (λ (x : Bool). x || outside 1 12 c.m || outside 1 32 c.n || start_fault c.n (start c) || outside 0 600 (last_wire c)) h

  -- refusal 4
  pub sizes-fit : EveryLine c (Without size_fault c) ↔ SizesFit c
  unfolding size_fault
  sizes-fit = (λ q. fits (sizes-inside.0 q.of-sizes) (memory-inside.0 q.of-memory), none)
    where
      fits : ((c.inputs ≤ 600) × (c.latches ≤ 600)) × (c.gates ≤ 600)
          → ((((c.unknown_start + c.second_port ≤ 1) × ((1 ≤ c.m) × (c.m ≤ 12))) × ((1 ≤ c.n) × (c.n ≤ 32))) × StartFits c.n (start c)) × (last_wire c ≤ 600)
          → SizesFit c
      fits s r =
          record {
            inputs-fit = s.0.0;
            latches-fit = s.0.1;
            gates-fit = s.1;
            m-least = r.0.0.0.1.0;
            m-most = r.0.0.0.1.1;
            n-least = r.0.0.1.0;
            n-most = r.0.0.1.1;
            kind_fits = r.0.0.0.0;
            word_fits = r.0.1;
            wires-fit = r.1;
          }

      none : SizesFit c → EveryLine c (Without size_fault c)
      none q =
          record {
            of-sizes = sizes-inside.1 (omega arith);
            of-memory =
                memory-inside.1 ((((q.kind_fits, (q.m-least, q.m-most)), (q.n-least, q.n-most)), q.word_fits), q.wires-fit);
            of-latch = λ l h. refl;
            of-gate = λ g h. refl;
            of-address = λ t h. refl;
            of-data = λ t h. refl;
            of-second-address = λ some t h. refl;
            of-second-enable = λ some. refl;
            of-control = refl;
          }

  -- a latch's numbers
  latch-inside : (l : ℕ) → Without code_fault c (Latch l) ↔ ((c.next l ≤ 2 * last_wire c + 1) × (c.reset l ≤ 1))
  unfolding code_fault
  latch-inside l = neither (code_inside (last_wire c) (c.next l)) (at_most 1 (c.reset l))

  -- a gate's codes
  gate-inside : (g : ℕ) → Without code_fault c (Gate g) ↔ ((c.left g < 2 * gate_wire c g) × (c.right g < 2 * gate_wire c g))
  unfolding code_fault
  gate-inside g =
      neither (leb-false (2 * gate_wire c g) (c.left g), lt-leb (2 * gate_wire c g) (c.left g)) (leb-false (2 * gate_wire c g) (c.right g), lt-leb (2 * gate_wire c g) (c.right g))

  -- WE, RE and P
  control-inside : Without code_fault c Control
      ↔ (((c.WE ≤ 2 * last_wire c + 1) × (c.RE ≤ 2 * last_wire c + 1)) × (c.P ≤ 2 * last_wire c + 1))
  unfolding code_fault
  control-inside =
      let code = code_inside (last_wire c) in
      neither (neither (code c.WE) (code c.RE)) (code c.P)

  -- refusal 5
  pub codes-fit : EveryLine c (Without code_fault c) ↔ CodesFit c
  unfolding code_fault
  codes-fit =
      let code = code_inside (last_wire c) in (
        λ q.
            record {
              next_fits = λ l h. ((latch-inside l).0 (q.of-latch l h)).0;
              reset-fits = λ l h. ((latch-inside l).0 (q.of-latch l h)).1;
              left-fits = λ g h. ((gate-inside g).0 (q.of-gate g h)).0;
              right-fits = λ g h. ((gate-inside g).0 (q.of-gate g h)).1;
              address-fits =
                  each-port c (λ a e. (t : ℕ) → t < c.m → IsCode c (a t)) (λ t h. (code (c.address t)).0 (q.of-address t h))
                  (λ some t h. (code (c.address2 t)).0 (q.of-second-address some t h));
              data-fits = λ t h. (code (c.write_data t)).0 (q.of-data t h);
              WE-fits = (control-inside.0 q.of-control).0.0;
              RE-fits =
                  each-port c (λ a e. IsCode c e) (control-inside.0 q.of-control).0.1 (λ some. (code c.RE2).0 (q.of-second-enable some));
              P-fits = (control-inside.0 q.of-control).1;
            },
        λ q.
            record {
              of-sizes = refl;
              of-memory = refl;
              of-latch = λ l h. (latch-inside l).1 (q.next_fits l h, q.reset-fits l h);
              of-gate = λ g h. (gate-inside g).1 (q.left-fits g h, q.right-fits g h);
              of-address = λ t h. (code (c.address t)).1 (q.address-fits 1 (first-port c) t h);
              of-data = λ t h. (code (c.write_data t)).1 (q.data-fits t h);
              of-second-address = λ some t h. (code (c.address2 t)).1 (q.address-fits 2 (second-port c some) t h);
              of-second-enable = λ some. (code c.RE2).1 (q.RE-fits 2 (second-port c some));
              of-control = control-inside.1 ((q.WE-fits, q.RE-fits 1 (first-port c)), q.P-fits);
            },
      )

  -- refusal 17
  pub no_tie_lem : EveryLine c (Without tie_fault c) ↔ ((p : ℕ) → IsPort c p → NoTie c (port c p))
  unfolding tie_fault
  no_tie_lem = (
    λ q p is.
        record {
          tie-free =
              each-port c (λ a e. (s t : ℕ) → s < t → t < c.m → a s / 2 ≡ a t / 2 → a t / 2 ≡ 0)
              (λ s t l b e. (untied c.address t).0 (q.of-address t b) s l e)
              (λ some s t l b e. (untied c.address2 t).0 (q.of-second-address some t b) s l e) p is;
        },
    λ q.
        record {
          of-sizes = refl;
          of-memory = refl;
          of-latch = λ l h. refl;
          of-gate = λ g h. refl;
          of-address = λ t b. (untied c.address t).1 (λ s l. (q 1 (first-port c)).tie-free s t l b);
          of-data = λ t h. refl;
          of-second-address = λ some t b. (untied c.address2 t).1 (λ s l. (q 2 (second-port c some)).tie-free s t l b);
          of-second-enable = λ some. refl;
          of-control = refl;
        },
  )

  -- refusal 6
  pub no_loop_lem : EveryLine c (Without loop_fault c) ↔ ((p : ℕ) → IsPort c p → NoLoop c (port c p))
  unfolding loop_fault_by
  no_loop_lem = (
    λ q p is.
        record {
          address-free = each-port c (λ a e. (t : ℕ) → t < c.m → depends_on_read c (a t / 2) ≡ false) q.of-address q.of-second-address p is;
          RE-free = each-port c (λ a e. depends_on_read c (e / 2) ≡ false) q.of-control q.of-second-enable p is;
        },
    λ q.
        record {
          of-sizes = refl;
          of-memory = refl;
          of-latch = λ l h. refl;
          of-gate = λ g h. refl;
          of-address = (q 1 (first-port c)).address-free;
          of-data = λ t h. refl;
          of-second-address = λ some. (q 2 (second-port c some)).address-free;
          of-second-enable = λ some. (q 2 (second-port c some)).RE-free;
          of-control = (q 1 (first-port c)).RE-free;
        },
  )
