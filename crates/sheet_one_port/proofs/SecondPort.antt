-- Laws of specs/SecondPort.antt: what the test leaves, and that it passes where there is one port. No contract cites this file.
use Prim.Native.Nat.{ℕ, ◌*◌, ◌/◌}
use mathlib.Core.Path.{◌≡◌, refl}
use mathlib.Core.Bool.{Bool, true, false, not, ◌&&◌, ◌||◌}
use mathlib.Core.Logic.{by_cases}
use native.Mathlib.Nat.{one-mul}
use native.Mathlib.Decide.{dec_lt}
use native.Mathlib.Omega.{arith}
use lib.Dec.{leb, ltb}
use borrow.Author.Tests.{lt-ltb, le-ltb, le-leb, lt-leb}
use Rattle.refusals.specs.Verdict.{Passed}
use Rattle.model.specs.Netlist.{Netlist, read_bits, read_wire, gate_wire}
use Rattle.model.specs.OnePort.{names_second}
use Rattle.model.proofs.OnePort.{Unused}
use Rattle.model.proofs.Booleans.{neither-true}
use Rattle.refusals.specs.declared.Refusal.TheVariants.{SecondPort}
use Rattle.netlist_tests.proofs.Record.{test_lines-passes}
use Rattle.sheet_one_port.specs.SecondPort.{second_use, test_second}

-- a code between two wires, compared as a code
pub between-wires : (x low high : ℕ) → (not (ltb x (2 * low)) && ltb x (2 * high)) ≡ (leb low (x / 2) && ltb (x / 2) high)
between-wires x low high = rw (below-wire x low, below-wire x high, not-below low (x / 2))
  where
    below-wire : (x w : ℕ) → ltb x (2 * w) ≡ ltb (x / 2) w
    below-wire x w =
        by_cases (dec_lt (x / 2) w)
        (λ b. rw (lt-ltb (x / 2) w b, lt-ltb x (2 * w) (omega arith)))
        (λ b. rw (le-ltb (x / 2) w (omega arith), le-ltb x (2 * w) (omega arith)))

    not-below : (a b : ℕ) → leb a b ≡ not (ltb b a)
    not-below a b = by_cases (dec_lt b a) (λ l. rw (lt-ltb b a l, lt-leb a b l)) (λ l. rw (le-ltb b a (omega arith), le-leb a b (omega arith)))

-- of two ports, no code that counts is of the second one's read bits
pub second-unused : (c : Netlist) → c.second_port ≡ 1 → test_second c ≡ Passed → Unused c
unfolding second_use
second-unused c two passed =
    let every = (test_lines-passes c SecondPort second_use).0 passed in
    let control = (neither-true (names_second c c.WE || names_second c c.RE) (names_second c c.P)).0 every.of-control in
    record {
      two-ports = two;
      next-unused = every.of-latch;
      left-unused = λ g b. ((neither-true (names_second c (c.left g)) (names_second c (c.right g))).0 (every.of-gate g b)).0;
      right-unused = λ g b. ((neither-true (names_second c (c.left g)) (names_second c (c.right g))).0 (every.of-gate g b)).1;
      data-unused = every.of-data;
      WE-unused = ((neither-true (names_second c c.WE) (names_second c c.RE)).0 control.0).0;
      P-unused = control.1;
    }

-- with one port there are no such read bits
module _ (c : Netlist) (none : c.second_port ≡ 0) where
  names-none : (x : ℕ) → names_second c x ≡ false
  unfolding names_second
  names-none x =
      let reads : read_bits c ≡ c.n = rw none (one-mul c.n) in
      by_cases (dec_lt (x / 2) (read_wire c c.n))
      (λ b. rw (lt-leb (read_wire c c.n) (x / 2) b))
      (λ b. rw (le-ltb (x / 2) (gate_wire c 0) (omega (arith, reads))) (and-false (leb (read_wire c c.n) (x / 2))))
    where
      and-false : (x : Bool) → (x && false) ≡ false
      and-false true = refl
      and-false false = refl

  pub single-passes : test_second c ≡ Passed
  unfolding second_use
  single-passes =
      (test_lines-passes c SecondPort second_use).1
      (record {
        of-sizes = refl;
        of-memory = refl;
        of-latch = λ l b. names-none (c.next l);
        of-gate = λ g b. rw (names-none (c.left g), names-none (c.right g));
        of-address = λ t b. names-none (c.address t);
        of-data = λ t b. names-none (c.write_data t);
        of-second-address = λ some t b. absurd (omega arith);
        of-second-enable = λ some. absurd (omega arith);
        of-control = rw (names-none c.WE, names-none c.RE, names-none c.P);
      })
