-- What the lists of a record (specs/NetOf.antt) have no part in: the sizes, lines and B(i) in neither, dependence on a read bit in
-- the latches; and that a list that is left out breaks no limit. Cited where a function is lent no list, or one.
use Prim.Native.Nat.{ℕ, zero, suc, ◌+◌, ◌*◌, ◌/◌, zero-le}
use mathlib.Core.Path.{◌≡◌, refl}
use mathlib.Core.Bool.{Bool}
use mathlib.Core.List.{List, []}
use native.Mathlib.Omega.{arith}
use lib.ListN.{get_or}
use Rattle.model.specs.Circuit.{sweep, is_read, either_wire, depends_on_read}
use Rattle.model.specs.Variables.{base}
use Rattle.model.specs.Acceptance.{SizesFit, WithinLimits}
use Rattle.netlist.specs.NetOf.{net_of, alone}
use Rattle.netlist.specs.Places.{line_at}
use Rattle.netlist.specs.Faults.{size_fault, loop_fault_by}
use Rattle.netlist.specs.declared.Line.{Line}
use Rattle.netlist.specs.declared.Line.TheVariants.{Sizes, Memory, Latch, Gate, Address, WriteData, SecondAddress, SecondEnable, Control}
use Rattle.netlist.specs.declared.Netlist.{Netlist}

-- the sizes' limits
pub sizes-lists : (r : Netlist) (latches gates other_latches other_gates : List ℕ)
    → SizesFit (net_of r latches gates) → SizesFit (net_of r other_latches other_gates)
unfolding net_of
sizes-lists r latches gates other_latches other_gates q =
    record {
      inputs-fit = q.inputs-fit;
      latches-fit = q.latches-fit;
      gates-fit = q.gates-fit;
      m-least = q.m-least;
      m-most = q.m-most;
      n-least = q.n-least;
      n-most = q.n-most;
      kind_fits = q.kind_fits;
      word_fits = q.word_fits;
      wires-fit = q.wires-fit;
    }

module _ (r : Netlist) (latches gates : List ℕ) where
  -- the limits of all numbers: a list that is left out has only code 0
  pub limits-without-latches : WithinLimits (net_of r latches gates) → WithinLimits (net_of r [] gates)
  unfolding net_of
  limits-without-latches q =
      record {
        sizes = sizes-lists r latches gates [] gates q.sizes;
        codes =
            record {
              next_fits = λ l h. zero-le;
              reset-fits = λ l h. zero-le;
              left-fits = q.codes.left-fits;
              right-fits = q.codes.right-fits;
              address-fits = q.codes.address-fits;
              data-fits = q.codes.data-fits;
              WE-fits = q.codes.WE-fits;
              RE-fits = q.codes.RE-fits;
              P-fits = q.codes.P-fits;
            };
      }

  pub limits-without-gates : WithinLimits (net_of r latches gates) → WithinLimits (net_of r latches [])
  unfolding net_of
  limits-without-gates q =
      record {
        sizes = sizes-lists r latches gates latches [] q.sizes;
        codes =
            record {
              next_fits = q.codes.next_fits;
              reset-fits = q.codes.reset-fits;
              left-fits = λ g h. omega arith;
              right-fits = λ g h. omega arith;
              address-fits = q.codes.address-fits;
              data-fits = q.codes.data-fits;
              WE-fits = q.codes.WE-fits;
              RE-fits = q.codes.RE-fits;
              P-fits = q.codes.P-fits;
            };
      }

  -- B(i)
  pub base-lists : (i : ℕ) → base (alone r) i ≡ base (net_of r latches gates) i
  unfolding base net_of
  base-lists i = refl

  -- the line at a place
  pub line_at-lists : (p : ℕ) → line_at (alone r) p ≡ line_at (net_of r latches gates) p
  unfolding net_of line_at
  line_at-lists p = refl

  -- refusal 4 at a line
  pub size_fault-lists : (x : Line) → size_fault (alone r) x ≡ size_fault (net_of r latches gates) x
  unfolding net_of size_fault
  size_fault-lists Sizes = refl
  size_fault-lists Memory = refl
  size_fault-lists (Latch l) = refl
  size_fault-lists (Gate g) = refl
  size_fault-lists (Address t) = refl
  size_fault-lists (WriteData t) = refl
  size_fault-lists (SecondAddress t) = refl
  size_fault-lists SecondEnable = refl
  size_fault-lists Control = refl

  -- refusal 6 at a line, once it is known which wires depend on a read bit
  pub loop_fault_by-lists : (d : ℕ → Bool) (x : Line) → loop_fault_by d (alone r) x ≡ loop_fault_by d (net_of r latches gates) x
  unfolding net_of loop_fault_by
  loop_fault_by-lists d Sizes = refl
  loop_fault_by-lists d Memory = refl
  loop_fault_by-lists d (Latch l) = refl
  loop_fault_by-lists d (Gate g) = refl
  loop_fault_by-lists d (Address t) = refl
  loop_fault_by-lists d (WriteData t) = refl
  loop_fault_by-lists d (SecondAddress t) = refl
  loop_fault_by-lists d SecondEnable = refl
  loop_fault_by-lists d Control = refl

  -- after some gates, dependence on a read bit
  sweep-latches : (g w : ℕ)
      → sweep either_wire (net_of r [] gates) (is_read (net_of r [] gates)) g w ≡ sweep either_wire (net_of r latches gates) (is_read (net_of r latches gates)) g w
  unfolding net_of sweep either_wire is_read
  sweep-latches zero w = refl
  sweep-latches (suc g) w = rw (sweep-latches g w, sweep-latches g (get_or gates (2 * g) 0 / 2), sweep-latches g (get_or gates (2 * g + 1) 0 / 2))

  -- dependence on a read bit: it does not pass through latches
  pub depends-latches : (w : ℕ) → depends_on_read (net_of r [] gates) w ≡ depends_on_read (net_of r latches gates) w
  unfolding net_of depends_on_read
  depends-latches w = sweep-latches r.gates w

-- without both lists
pub limits-alone : (r : Netlist) (latches gates : List ℕ) → WithinLimits (net_of r latches gates) → WithinLimits (alone r)
limits-alone r latches gates q = limits-without-gates r [] gates (limits-without-latches r latches gates q)
