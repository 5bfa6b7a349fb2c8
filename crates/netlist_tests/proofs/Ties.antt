-- The test for ties (specs/Record.antt) port by port: the first address code that is tied decides it. No contract cites this file.
use Prim.Native.Nat.{ℕ, suc, ◌+◌, ◌-◌, ◌≤◌, ◌<◌}
use mathlib.Core.Path.{◌≡◌, refl, ◌∙◌, ap}
use mathlib.Core.Bool.{false, cond}
use mathlib.Core.Logic.{by_cases}
use native.Mathlib.Decide.{dec_lt}
use native.Mathlib.Omega.{arith}
use lib.Dec.{ltb}
use borrow.Author.Tests.{lt-ltb, le-ltb}
use Rattle.refusals.specs.Verdict.{Passed, refuse}
use Rattle.refusals.specs.Tests.{◌then◌}
use Rattle.refusals.specs.declared.Refusal.TheVariants.{TiedAddress}
use Rattle.refusals.proofs.Tests.{in_order-first}
use Rattle.model.specs.Netlist.{Netlist, port}
use Rattle.model.specs.Search.{IsFirst, first_where}
use Rattle.model.proofs.Search.{first_where-is}
use Rattle.netlist.specs.Places.{address_line, data_line, second_address_line, control_line, line_at}
use Rattle.netlist.specs.Faults.{is_tied, tie_fault}
use Rattle.netlist.proofs.Places.{second-lines, at_address, at-data, at-second-address, before-address}
use Rattle.netlist.proofs.Faults.{Without}
use Rattle.netlist_tests.specs.Record.{test_lines}
use Rattle.netlist_tests.specs.OnePort.{test_address}
use Rattle.netlist_tests.proofs.Record.{test_lines-passes}

-- the codes of an address stand in lines from a place on: each line is tied where its code is
record StandsAt (c : Netlist) (address : ℕ → ℕ) (line : ℕ) : Type 0 where
  pub behind : 1 ≤ line
  pub within : line + c.m ≤ control_line c
  pub at_code : (p x : ℕ) → x < c.m → p ≡ line + x → tie_fault c (line_at c p) ≡ is_tied address x

module _ {c : Netlist} {address : ℕ → ℕ} {line : ℕ} (stands : StandsAt c address line) where
  -- where none of them is tied, no line of theirs is
  none-tied : ((x : ℕ) → x < c.m → is_tied address x ≡ false) → (p : ℕ) → line ≤ p → p < line + c.m → tie_fault c (line_at c p) ≡ false
  none-tied none p l b = let x : ℕ = p - line in stands.at_code p x (omega arith) (omega arith) ∙ none x (omega arith)

  -- the first that is tied is the first line of all that is, where no line before theirs is
  tie-found : ((p : ℕ) → p < line → tie_fault c (line_at c p) ≡ false)
      → {t : ℕ} → IsFirst (is_tied address) c.m t → t < c.m → test_lines c TiedAddress tie_fault ≡ refuse TiedAddress (line + t)
  unfolding test_lines
  tie-found before {t} first b =
      let place : suc (line - 1 + t) ≡ line + t = omega (arith, stands.behind) in
      in_order-first (λ p. tie_fault c (line_at c p)) TiedAddress (control_line c) at-line
      ∙ rw (lt-ltb (line - 1 + t) (control_line c) (omega (arith, stands.behind, stands.within))) (ap (refuse TiedAddress) place)
    where
      none : (p : ℕ) → p < line + t → tie_fault c (line_at c p) ≡ false
      none p l =
          by_cases (dec_lt p line) (before p) λ h.
          let x : ℕ = p - line in
          stands.at_code p x (omega arith) (omega arith) ∙ first.none_before x (omega arith)

      at-line : IsFirst (λ x. tie_fault c (line_at c (suc x))) (control_line c) (line - 1 + t)
      at-line =
          record {
            within = omega (arith, stands.within);
            none_before = λ x l. none (suc x) (omega (arith, stands.behind));
            holds-there = λ l. stands.at_code (suc (line - 1 + t)) t b (omega (arith, stands.behind)) ∙ first.holds-there b;
          }

module _ (c : Netlist) where
  -- the first port's codes, and the second's
  first-stands : StandsAt c (port c 1).address (address_line c 0)
  unfolding tie_fault
  first-stands = record { behind = omega arith; within = omega arith; at_code = λ p x b e. rw (at_address c p x b (omega arith)) }

  second-stands : 0 < c.second_port → StandsAt c (port c 2).address (second_address_line c 0)
  unfolding tie_fault
  second-stands some =
      record {
        behind = omega arith;
        within = omega (arith, second-lines c some);
        at_code = λ p x b e. rw (at-second-address c p some x b (omega arith));
      }

  -- no line before the first port's codes is tied, and none before the second's where the first port has no tie
  before-first : (p : ℕ) → p < address_line c 0 → tie_fault c (line_at c p) ≡ false
  unfolding tie_fault
  before-first p = before-address c (Without tie_fault c) refl refl (λ l. refl) (λ g. refl) p

  before-second : ((x : ℕ) → x < c.m → is_tied (port c 1).address x ≡ false)
      → (p : ℕ) → p < second_address_line c 0 → tie_fault c (line_at c p) ≡ false
  unfolding tie_fault
  before-second none p l =
      by_cases (dec_lt p (address_line c 0)) (before-first p) λ a.
      by_cases (dec_lt p (data_line c 0)) (λ d. none-tied first-stands none p (omega arith) (omega arith)) λ d.
      rw (at-data c p (p - data_line c 0) (omega arith) (omega arith))

  -- no line is tied where no port has a tie
  ties-none : ((x : ℕ) → x < c.m → is_tied (port c 1).address x ≡ false)
      → (0 < c.second_port → (x : ℕ) → x < c.m → is_tied (port c 2).address x ≡ false) → test_lines c TiedAddress tie_fault ≡ Passed
  unfolding tie_fault
  ties-none first second =
      (test_lines-passes c TiedAddress tie_fault).1
      (record {
        of-sizes = refl;
        of-memory = refl;
        of-latch = λ l h. refl;
        of-gate = λ g h. refl;
        of-address = first;
        of-data = λ x h. refl;
        of-second-address = second;
        of-second-enable = λ some. refl;
        of-control = refl;
      })

  -- the test port by port
  pub ties-by-ports : test_lines c TiedAddress tie_fault
      ≡ (test_address (port c 1).address c.m (address_line c 0) then cond (ltb 0 c.second_port) (test_address (port c 2).address c.m (second_address_line c 0)) Passed)
  unfolding test_address ◌then◌
  ties-by-ports =
      by_cases (dec_lt t c.m) (λ b. rw (lt-ltb t c.m b) (tie-found first-stands before-first first b)) λ b.
      rw (le-ltb t c.m (omega arith))
      (by_cases (dec_lt 0 c.second_port)
      (λ some. rw (lt-ltb 0 c.second_port some) (rest some (none b)))
      (λ single. rw (le-ltb 0 c.second_port (omega arith)) (ties-none (none b) (λ some. absurd (single some)))))
    where
      t : ℕ
      t = first_where (is_tied (port c 1).address) c.m

      u : ℕ
      u = first_where (is_tied (port c 2).address) c.m

      first : IsFirst (is_tied (port c 1).address) c.m t
      first = first_where-is (is_tied (port c 1).address) c.m

      second : IsFirst (is_tied (port c 2).address) c.m u
      second = first_where-is (is_tied (port c 2).address) c.m

      none : (t < c.m → ⊥) → (x : ℕ) → x < c.m → is_tied (port c 1).address x ≡ false
      none h x l = first.none_before x (omega arith)

      rest : 0 < c.second_port → ((x : ℕ) → x < c.m → is_tied (port c 1).address x ≡ false)
          → test_lines c TiedAddress tie_fault ≡ test_address (port c 2).address c.m (second_address_line c 0)
      rest some untied =
          by_cases (dec_lt u c.m)
          (λ b. rw (lt-ltb u c.m b) (tie-found (second-stands some) (before-second untied) second b))
          (λ b. rw (le-ltb u c.m (omega arith)) (ties-none untied (λ some x l. second.none_before x (omega arith))))
