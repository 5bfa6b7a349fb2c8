-- What the pass over all lines that looks for no place (specs/AnyLine.antt) says where it finds nothing. Cited by the tests of records.
use Prim.Native.Nat.{ℕ, zero, suc, ◌<◌, ◌≤◌}
use mathlib.Core.Path.{◌≡◌, refl, ap, ap₂}
use mathlib.Core.Bool.{Bool, false, ◌||◌}
use mathlib.Core.Logic.{◌↔◌, by_cases}
use native.Mathlib.Decide.{dec_lt}
use native.Mathlib.Omega.{arith}
use borrow.Author.Tests.{lt-ltb, le-ltb}
use lib.ListN.{length, take}
use Rattle.std.specs.Prelude.{List}
use Rattle.std.proofs.lemmas.List.{get_or-take, length-take-le}
use Rattle.model.specs.Netlist.{Netlist}
use Rattle.model.specs.Search.{any_below}
use Rattle.model.proofs.Search.{none_below}
use Rattle.literals.specs.declared.Code.{Code}
use Rattle.netlist.specs.NetOf.{code_of}
use Rattle.netlist.specs.Faults.{above_limit}
use Rattle.netlist.specs.declared.Line.{Line}
use Rattle.netlist.specs.declared.Line.TheVariants.{Sizes, Memory, Latch, Gate, Address, WriteData, SecondAddress, SecondEnable, Control}
use Rattle.netlist.proofs.Places.{EveryLine}
use Rattle.netlist.proofs.Faults.{neither, Without}
use Rattle.netlist_scan.specs.AnyLine.{any_above, of_second, any_line}

-- a condition that does not hold, as it is
same : (b : Bool) → (b ≡ false) ↔ (b ≡ false)
same b = (λ h. h, λ h. h)

-- what does not hold of a second port: there is none, or it does not hold
of-second : (c : Netlist) (b : Bool) {A : Type 0} → (b ≡ false) ↔ A → (of_second c b ≡ false) ↔ (0 < c.second_port → A)
of-second c b p =
    by_cases (dec_lt 0 c.second_port)
    (λ some. rw (lt-ltb 0 c.second_port some) (λ e more. p.0 e, λ h. p.1 (h some)))
    (λ none. rw (le-ltb 0 c.second_port (omega arith)) (λ e some. absurd (none some), λ h. refl))

-- where no line after the first two has a fault, and neither have these, no line has
pub none-in-lines : (c : Netlist) (fault : Netlist → Line → Bool) → Without fault c Sizes → Without fault c Memory
    → any_line c fault ≡ false → EveryLine c (Without fault c)
unfolding any_line
none-in-lines c fault sizes memory e =
    let lists = neither (none_below (λ l. fault c (Latch l)) c.latches) (none_below (λ g. fault c (Gate g)) c.gates) in
    let codes = neither (none_below (λ t. fault c (Address t)) c.m) (none_below (λ t. fault c (WriteData t)) c.n) in
    let second = of-second c _ (neither (none_below (λ t. fault c (SecondAddress t)) c.m) (same (fault c SecondEnable))) in
    let q = (neither lists (neither (neither codes second) (same (fault c Control)))).0 e in
    record {
      of-sizes = sizes;
      of-memory = memory;
      of-latch = q.0.0;
      of-gate = q.0.1;
      of-address = q.1.0.0.0;
      of-data = q.1.0.0.1;
      of-second-address = λ some. (q.1.0.1 some).0;
      of-second-enable = λ some. (q.1.0.1 some).1;
      of-control = q.1.1;
    }

-- whether any of the first codes of a list is above the limit needs these alone
pub front : (last : ℕ) (codes : List Code) (m : ℕ) → m ≤ length codes
    → any_above last (code_of (take m codes)) (length (take m codes)) ≡ any_above last (code_of codes) m
unfolding code_of any_above any_below
front last codes m fits = rw length-take-le (same-below m (omega arith))
  where
    same-below : (k : ℕ) → k ≤ m
        → any_below k (λ t. above_limit last (code_of (take m codes) t)) ≡ any_below k (λ t. above_limit last (code_of codes t))
    same-below zero h = refl
    same-below (suc k) h = ap₂ ◌||◌ (same-below k (omega arith)) (ap (λ x. above_limit last x.0) (get_or-take m codes k (record { 0 = 0 }) (omega arith)))
