-- Laws of the read ports of specs/Netlist.antt: which there are, which read bits, codes and variables each has. All else that is proved of a
-- port is proved of any. No contract cites this file.
use Prim.Native.Nat.{ℕ, ◌+◌, ◌-◌, ◌*◌, ◌/◌, ◌%◌, ◌≤◌, ◌<◌, zero, suc}
use mathlib.Core.Path.{◌≡◌, refl, sym, ◌∙◌, ap}
use mathlib.Core.Bool.{Bool, true, false, cond, true≢false}
use mathlib.Core.Logic.{by_cases}
use native.Mathlib.Nat.{div-add-mod', div-lt_iff_lt-mul, mod-lt, mul-le-mul_right, suc-mul}
use native.Mathlib.Numerals.{sub-one}
use native.Mathlib.Decide.{ℕ_discrete}
use native.Mathlib.Omega.{arith}
use lib.Dec.{eqb}
use borrow.Author.Tests.{eq-eqb, ne_eqb}
use Rattle.model.specs.Netlist.{Netlist, start_of, is_unknown, start, ports, IsPort, port, read_bits}
use Rattle.model.specs.Acceptance.{SizesFit}
use Rattle.model.specs.Variables.{stride}

-- there is a first one
pub first-port : (c : Netlist) → IsPort c 1
first-port c = (omega arith, omega arith)

-- and a second where the record says so
pub second-port : (c : Netlist) → 0 < c.second_port → IsPort c 2
second-port c h = (omega arith, omega arith)

-- it has at most as much of anything as the first
pub second-most : {c : Netlist} → SizesFit c → (x : ℕ) → c.second_port * x ≤ x
second-most {c} fit x = let most : c.second_port * x ≤ 1 * x = mul-le-mul_right x (omega (arith, fit.kind_fits)) in omega arith

-- both have at most 32 variables of a pair
pub stride_most : {c : Netlist} → SizesFit c → stride c ≤ 32
stride_most {c} fit = omega (arith, second-most fit (c.m + 4), fit.m-most)

-- what holds of the codes of both holds of each port's
pub each-port : (c : Netlist) (P : (ℕ → ℕ) → ℕ → Type 0) → P c.address c.RE → (0 < c.second_port → P c.address2 c.RE2)
    → (p : ℕ) → IsPort c p → P (port c p).address (port c p).RE
each-port c P first second p here =
    by_cases (ℕ_discrete p 1)
    (λ e. rw (eq-eqb p 1 e) first)
    (λ other. rw (ne_eqb p 1 other) (second (omega (arith, other, here.0, here.1))))

-- its address codes, one by one
pub port-address : (c : Netlist) (p t : ℕ) → (port c p).address t ≡ cond (eqb p 1) (c.address t) (c.address2 t)
port-address c p t = either (eqb p 1)
  where
    either : (b : Bool) → cond b c.address c.address2 t ≡ cond b (c.address t) (c.address2 t)
    either true = refl
    either false = refl

-- what holds of the first, and of the second where there is one, holds of each
pub by-port : {c : Netlist} → SizesFit c → (P : ℕ → Type 0) → P 1 → (0 < c.second_port → P 2) → (p : ℕ) → IsPort c p → P p
by-port {c} fit P first second p here =
    by_cases (ℕ_discrete p 1)
    (λ e. rw e first)
    (λ other.
    let two : p ≡ 2 = omega (arith, other, here.0, here.1, fit.kind_fits) in
    rw two (second (omega (arith, other, here.0, here.1))))

-- an unknown start is said by a number above 0
unknown-number : (word u : ℕ) → is_unknown (start_of word u) ≡ true → 1 ≤ u
unfolding is_unknown start_of
unknown-number word zero e = absurd (true≢false (sym e))
unknown-number word (suc u) e = omega arith

-- and no other with an unknown start
pub unknown-single : {c : Netlist} → SizesFit c → is_unknown (start c) ≡ true → (p : ℕ) → IsPort c p → p ≡ 1
unknown-single {c} fit e p here = omega (arith, here.0, here.1, fit.kind_fits, unknown-number c.initial_word c.unknown_start e)

-- so what holds of the first then holds of each
pub unknown-each : {c : Netlist} → SizesFit c → is_unknown (start c) ≡ true → (P : ℕ → Type 0) → P 1 → (p : ℕ) → IsPort c p → P p
unknown-each fit e P first p here = rw (unknown-single fit e p here) first

-- and there are as many read bits as a word has
pub unknown-bits : {c : Netlist} → SizesFit c → is_unknown (start c) ≡ true → read_bits c ≡ c.n
unknown-bits {c} fit e =
    by_cases (ℕ_discrete c.second_port 0)
    (λ none. rw none (omega arith))
    (λ some. absurd (omega (arith, unknown-single fit e 2 (second-port c (omega (arith, some))))))

-- a read bit, by its port
pub record PortBit (c : Netlist) (r : ℕ) : Type 0 where
  pub of : ℕ
  pub is-port : IsPort c of
  pub t : ℕ
  pub below : t < c.n
  pub is : r ≡ (port c of).first_read + t

-- a word has a bit where there is a read bit
width_positive : (n x r : ℕ) → r < x * n → 0 < n
width_positive zero x r h = omega (arith, h)
width_positive (suc n) x r h = omega arith

pub port-of-read : (c : Netlist) (r : ℕ) → r < read_bits c → IsPort c (suc (r / c.n))
port-of-read c r b =
    let below : r / c.n < ports c = (div-lt_iff_lt-mul (width_positive c.n (ports c) r b)).1 b in
    (omega arith, omega arith)

pub port-bit : (c : Netlist) (r : ℕ) → r < read_bits c → PortBit c r
port-bit c r b =
    record {
      of = suc (r / c.n);
      is-port = port-of-read c r b;
      t = r % c.n;
      below = mod-lt r (width_positive c.n (ports c) r b);
      is = sym (ap (λ (x : ℕ). x * c.n + r % c.n) (sub-one (suc (r / c.n))) ∙ div-add-mod' r c.n);
    }

-- what holds of each port's read bits holds of all
pub each-bit : (c : Netlist) (P : ℕ → Type 0) → ((p : ℕ) → IsPort c p → (t : ℕ) → t < c.n → P ((port c p).first_read + t))
    → (r : ℕ) → r < read_bits c → P r
each-bit c P each r b = let x = port-bit c r b in rw x.is (each x.of x.is-port x.t x.below)

module _ (c : Netlist) (p : ℕ) (here : IsPort c p) where
  -- as much of each port fits as there are ports
  within : (x : ℕ) → (p - 1) * x + x ≤ ports c * x
  within x =
      let most : suc (p - 1) * x ≤ ports c * x = mul-le-mul_right x (omega (arith, here.0, here.1)) in
      omega (arith, suc-mul (p - 1) x)

  -- its read bits are read bits
  pub bit-within : (t : ℕ) → t < c.n → (port c p).first_read + t < read_bits c
  bit-within t b = omega (arith, b, within c.n)

  -- the first of them is at most as far as a word is long
  pub first-read-most : SizesFit c → (port c p).first_read ≤ c.n
  first-read-most fit =
      let most : (p - 1) * c.n ≤ 1 * c.n = mul-le-mul_right c.n (omega (arith, here.1, fit.kind_fits)) in
      omega arith

  -- its variables: m + 4 of a pair, behind those of the ports before it
  pub variables-within : (port c p).first_variable + (c.m + 4) ≤ stride c
  variables-within = within (c.m + 4)
