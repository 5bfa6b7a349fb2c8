-- Laws of the lines of a sheet (specs/Places.antt): which line stands at which place, and properties of every line. Cited by the
-- tests of records and by the sheet reader.
use Prim.Native.Nat.{ℕ, ◌+◌, ◌-◌, ◌*◌, ◌≤◌, ◌<◌}
use mathlib.Core.Path.{◌≡◌, refl, ap, subst}
use mathlib.Core.Logic.{◌↔◌, by_cases}
use native.Mathlib.Nat.{mul-le-mul_right, zero-mul}
use native.Mathlib.Decide.{dec_lt}
use native.Mathlib.Omega.{arith}
use borrow.Author.Tests.{lt-ltb, le-ltb, le-leb, lt-leb}
use Rattle.model.specs.Netlist.{Netlist}
use Rattle.netlist.specs.Places.{sizes_line, memory_line, latch_line, gate_line, address_line, data_line, second_address_line, second_enable_line, control_line, line_at, HasLine}
use Rattle.netlist.specs.declared.Line.{Line}
use Rattle.netlist.specs.declared.Line.TheVariants.{Sizes, Memory, Latch, Gate, Address, WriteData, SecondAddress, SecondEnable, Control}

-- a second port has its lines before line C, and there are such lines only where there is one
pub second-lines : (c : Netlist) → 0 < c.second_port → c.m + 1 ≤ c.second_port * (c.m + 1)
second-lines c h = let most : 1 * (c.m + 1) ≤ c.second_port * (c.m + 1) = mul-le-mul_right (c.m + 1) h in omega arith

pub second-some : (c : Netlist) → 0 < c.second_port * (c.m + 1) → 0 < c.second_port
second-some c h = by_cases (dec_lt 0 c.second_port) (λ some. some) (λ none. absurd (empty c.second_port (c.m + 1) (omega arith) h))
  where
    empty : (x y : ℕ) → x ≡ 0 → 0 < x * y → ⊥
    empty x y e h = let nothing : x * y ≡ 0 = rw e (zero-mul y) in omega arith

-- the line at the place of each kind
module _ (c : Netlist) (p : ℕ) where
  -- line N
  pub at-sizes : p < memory_line → line_at c p ≡ Sizes
  unfolding line_at
  at-sizes h = rw (lt-ltb p memory_line h)

  -- line M or T
  pub at-memory : p ≡ memory_line → line_at c p ≡ Memory
  unfolding line_at
  at-memory e = rw (le-ltb p memory_line (omega arith), lt-ltb p (latch_line c 0) (omega arith))

  -- a latch
  pub at-latch : (l : ℕ) → l < c.latches → p ≡ latch_line c l → line_at c p ≡ Latch l
  unfolding line_at
  at-latch l h e =
      let l-th : p - latch_line c 0 ≡ l = omega arith in
      rw (le-ltb p memory_line (omega arith), le-ltb p (latch_line c 0) (omega arith), lt-ltb p (gate_line c 0) (omega arith))
      (ap Latch l-th)

  -- a gate
  pub at-gate : (g : ℕ) → g < c.gates → p ≡ gate_line c g → line_at c p ≡ Gate g
  unfolding line_at
  at-gate g h e =
      let g-th : p - gate_line c 0 ≡ g = omega arith in
      rw (le-ltb p memory_line (omega arith), le-ltb p (latch_line c 0) (omega arith), le-ltb p (gate_line c 0) (omega arith), lt-ltb p (address_line c 0) (omega arith))
      (ap Gate g-th)

  -- an address code
  pub at_address : (t : ℕ) → t < c.m → p ≡ address_line c t → line_at c p ≡ Address t
  unfolding line_at
  at_address t h e =
      let t-th : p - address_line c 0 ≡ t = omega arith in
      rw (le-ltb p memory_line (omega arith), le-ltb p (latch_line c 0) (omega arith), le-ltb p (gate_line c 0) (omega arith), le-ltb p (address_line c 0) (omega arith), lt-ltb p (data_line c 0) (omega arith))
      (ap Address t-th)

  -- a write-data code
  pub at-data : (t : ℕ) → t < c.n → p ≡ data_line c t → line_at c p ≡ WriteData t
  unfolding line_at
  at-data t h e =
      let t-th : p - data_line c 0 ≡ t = omega arith in
      rw (le-ltb p memory_line (omega arith), le-ltb p (latch_line c 0) (omega arith), le-ltb p (gate_line c 0) (omega arith), le-ltb p (address_line c 0) (omega arith), le-ltb p (data_line c 0) (omega arith), lt-ltb p (second_address_line c 0) (omega arith))
      (ap WriteData t-th)

  -- an address code of the second port
  pub at-second-address : 0 < c.second_port → (t : ℕ) → t < c.m → p ≡ second_address_line c t → line_at c p ≡ SecondAddress t
  unfolding line_at
  at-second-address some t h e =
      let t-th : p - second_address_line c 0 ≡ t = omega arith in
      let before : p < control_line c = omega (arith, second-lines c some) in
      rw (le-ltb p memory_line (omega arith), le-ltb p (latch_line c 0) (omega arith), le-ltb p (gate_line c 0) (omega arith), le-ltb p (address_line c 0) (omega arith), le-ltb p (data_line c 0) (omega arith), le-ltb p (second_address_line c 0) (omega arith), lt-leb (control_line c) p before, lt-ltb p (second_enable_line c) (omega arith))
      (ap SecondAddress t-th)

  -- its RE
  pub at-second-enable : second_enable_line c ≤ p → p < control_line c → line_at c p ≡ SecondEnable
  unfolding line_at
  at-second-enable h before =
      rw (le-ltb p memory_line (omega arith), le-ltb p (latch_line c 0) (omega arith), le-ltb p (gate_line c 0) (omega arith), le-ltb p (address_line c 0) (omega arith), le-ltb p (data_line c 0) (omega arith), le-ltb p (second_address_line c 0) (omega arith), lt-leb (control_line c) p before, le-ltb p (second_enable_line c) h)

  -- line C, the last
  pub at-control : control_line c ≤ p → line_at c p ≡ Control
  unfolding line_at
  at-control h =
      rw (le-ltb p memory_line (omega arith), le-ltb p (latch_line c 0) (omega arith), le-ltb p (gate_line c 0) (omega arith), le-ltb p (address_line c 0) (omega arith), le-ltb p (data_line c 0) (omega arith), le-ltb p (second_address_line c 0) (omega arith), le-leb (control_line c) p h)

-- the line at a place is one that the netlist has
pub has-line_at : (c : Netlist) (p : ℕ) → HasLine c (line_at c p)
has-line_at c p =
    by_cases (dec_lt p memory_line) (λ b. rw (at-sizes c p b) tt) λ s.
    by_cases (dec_lt p (latch_line c 0)) (λ b. rw (at-memory c p (omega arith)) tt) λ m.
    by_cases (dec_lt p (gate_line c 0)) (λ b. rw (at-latch c p (p - latch_line c 0) (omega arith) (omega arith)) (omega arith)) λ l.
    by_cases (dec_lt p (address_line c 0)) (λ b. rw (at-gate c p (p - gate_line c 0) (omega arith) (omega arith)) (omega arith)) λ g.
    by_cases (dec_lt p (data_line c 0)) (λ b. rw (at_address c p (p - address_line c 0) (omega arith) (omega arith)) (omega arith)) λ a.
    by_cases (dec_lt p (second_address_line c 0)) (λ b. rw (at-data c p (p - data_line c 0) (omega arith) (omega arith)) (omega arith)) λ d.
    by_cases (dec_lt p (control_line c)) (second d) (λ b. rw (at-control c p (omega arith)) tt)
  where
    second : (p < second_address_line c 0 → ⊥) → p < control_line c → HasLine c (line_at c p)
    second d b =
        let some : 0 < c.second_port = second-some c (omega arith) in
        by_cases (dec_lt p (second_enable_line c))
        (λ e. rw (at-second-address c p some (p - second_address_line c 0) (omega arith) (omega arith)) (some, omega arith))
        (λ e. rw (at-second-enable c p (omega arith) b) some)

-- what holds of lines N and M, of every latch and of every gate holds of each line before the address codes
pub before-address : (c : Netlist) (P : Line → Type 0) → P Sizes → P Memory → ((l : ℕ) → P (Latch l)) → ((g : ℕ) → P (Gate g))
    → (p : ℕ) → p < address_line c 0 → P (line_at c p)
before-address c P sizes memory latch gate p b =
    by_cases (dec_lt p memory_line) (λ s. rw (at-sizes c p s) sizes) λ s.
    by_cases (dec_lt p (latch_line c 0)) (λ m. rw (at-memory c p (omega arith)) memory) λ m.
    by_cases (dec_lt p (gate_line c 0)) (λ l. rw (at-latch c p (p - latch_line c 0) (omega arith) (omega arith)) (latch (p - latch_line c 0))) λ l.
    rw (at-gate c p (p - gate_line c 0) (omega arith) (omega arith)) (gate (p - gate_line c 0))

-- a property of every line, said of each kind
pub record EveryLine (c : Netlist) (P : Line → Type 0) : Type 0 where
  pub of-sizes : P Sizes
  pub of-memory : P Memory
  pub of-latch : (l : ℕ) → l < c.latches → P (Latch l)
  pub of-gate : (g : ℕ) → g < c.gates → P (Gate g)
  pub of-address : (t : ℕ) → t < c.m → P (Address t)
  pub of-data : (t : ℕ) → t < c.n → P (WriteData t)
  pub of-second-address : 0 < c.second_port → (t : ℕ) → t < c.m → P (SecondAddress t)
  pub of-second-enable : 0 < c.second_port → P SecondEnable
  pub of-control : P Control

module _ (c : Netlist) (P : Line → Type 0) where
  -- such a property holds of a line that the netlist has
  every-has_line : EveryLine c P → (x : Line) → HasLine c x → P x
  every-has_line q Sizes h = q.of-sizes
  every-has_line q Memory h = q.of-memory
  every-has_line q (Latch l) h = q.of-latch l h
  every-has_line q (Gate g) h = q.of-gate g h
  every-has_line q (Address t) h = q.of-address t h
  every-has_line q (WriteData t) h = q.of-data t h
  every-has_line q (SecondAddress t) h = q.of-second-address h.0 t h.1
  every-has_line q SecondEnable h = q.of-second-enable h
  every-has_line q Control h = q.of-control

  -- it is the property of the lines at all places
  pub every-place : EveryLine c P ↔ ((p : ℕ) → 1 ≤ p → p ≤ control_line c → P (line_at c p))
  every-place = (λ q p l h. every-has_line q (line_at c p) (has-line_at c p), each)
    where
      at : ((p : ℕ) → 1 ≤ p → p ≤ control_line c → P (line_at c p)) → (p : ℕ) {x : Line} → 1 ≤ p → p ≤ control_line c → line_at c p ≡ x → P x
      at q p l h e = subst P e (q p l h)

      each : ((p : ℕ) → 1 ≤ p → p ≤ control_line c → P (line_at c p)) → EveryLine c P
      each q =
          record {
            of-sizes = at q sizes_line (omega arith) (omega arith) (at-sizes c sizes_line (omega arith));
            of-memory = at q memory_line (omega arith) (omega arith) (at-memory c memory_line refl);
            of-latch = λ l h. at q (latch_line c l) (omega arith) (omega arith) (at-latch c (latch_line c l) l h refl);
            of-gate = λ g h. at q (gate_line c g) (omega arith) (omega arith) (at-gate c (gate_line c g) g h refl);
            of-address = λ t h. at q (address_line c t) (omega arith) (omega arith) (at_address c (address_line c t) t h refl);
            of-data = λ t h. at q (data_line c t) (omega arith) (omega arith) (at-data c (data_line c t) t h refl);
            of-second-address = λ some t h.
                at q (second_address_line c t) (omega arith) (omega (arith, second-lines c some)) (at-second-address c (second_address_line c t) some t h refl);
            of-second-enable = λ some.
                let before : second_enable_line c < control_line c = omega (arith, second-lines c some) in
                at q (second_enable_line c) (omega arith) (omega arith) (at-second-enable c (second_enable_line c) (omega arith) before);
            of-control = at q (control_line c) (omega arith) (omega arith) (at-control c (control_line c) (omega arith));
          }
