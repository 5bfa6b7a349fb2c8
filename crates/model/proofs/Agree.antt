-- Netlists that agree below their sizes (specs/Agree.antt) have the same limits, the same wires and the same wires that depend on a
-- read bit: they are accepted alike. No contract cites this file.
use Prim.Native.Nat.{ℕ, zero, suc, ◌/◌, ◌≤◌, ◌<◌}
use mathlib.Core.Path.{◌≡◌, refl, sym, ◌∙◌, ap}
use mathlib.Core.Bool.{Bool, false}
use mathlib.Core.List.{List}
use native.Mathlib.Nat.{le_refl}
use native.Mathlib.Omega.{arith}
use lib.ListN.{get_or}
use Rattle.model.specs.Netlist.{Netlist, given, start_of, start, IsPort, port, gate_wire, last_wire}
use Rattle.model.specs.Circuit.{Values, sweep, is_read, depends_on_read}
use Rattle.model.specs.Acceptance.{SizesFit, CodesFit, Accepted}
use Rattle.model.specs.Agree.{given_word, sizes_of, SameSizes, Agree}
use Rattle.model.proofs.Sweep.{OfTwoWires}
use Rattle.model.proofs.Dependence.{either_wire-of-two}

-- the same start, where the word given and whether there is one are the same
start_of-same : (x y u v : ℕ) → u ≡ v → given_word (start_of x u) ≡ given_word (start_of y v) → start_of x u ≡ start_of y v
unfolding start_of given_word
start_of-same x y zero zero e q = ap given q
start_of-same x y (suc u) (suc v) e q = refl
start_of-same x y zero (suc v) e q = absurd (omega arith)
start_of-same x y (suc u) zero e q = absurd (omega arith)

-- netlists with the same sizes
module _ (c d : Netlist) (q : SameSizes c d) where
  -- each size by itself
  pub same_at : (i : ℕ) → get_or (sizes_of c) i 0 ≡ get_or (sizes_of d) i 0
  same_at i = ap (λ (xs : List ℕ). get_or xs i 0) q

  start-at : start c ≡ start d
  start-at = start_of-same c.initial_word d.initial_word c.unknown_start d.unknown_start (same_at 6) (same_at 5)

  -- have the same limits, kept or not
  pub sizes_fit-same : SizesFit c → SizesFit d
  sizes_fit-same h =
      record {
        inputs-fit = rw (← same_at 0) h.inputs-fit;
        latches-fit = rw (← same_at 1) h.latches-fit;
        gates-fit = rw (← same_at 2) h.gates-fit;
        m-least = rw (← same_at 3) h.m-least;
        m-most = rw (← same_at 3) h.m-most;
        n-least = rw (← same_at 4) h.n-least;
        n-most = rw (← same_at 4) h.n-most;
        kind_fits = rw (← same_at 6, ← same_at 7) h.kind_fits;
        word_fits = rw (← start-at, ← same_at 4) h.word_fits;
        wires-fit = rw (← same_at 0, ← same_at 1, ← same_at 2, ← same_at 4, ← same_at 7) h.wires-fit;
      }

-- a netlist agrees with itself
pub agree-itself : (c : Netlist) → Agree c c
agree-itself c =
    record {
      sizes-same = refl;
      next-same = λ l b. refl;
      reset-same = λ l b. refl;
      left-same = λ g b. refl;
      right-same = λ g b. refl;
      address_same = λ p here t b. refl;
      data-same = λ t b. refl;
      WE-same = refl;
      RE-same = λ p here. refl;
      P-same = refl;
    }

-- and the same entries
module _ (c d : Netlist) (q : Agree c d) where
  pub inputs-same : c.inputs ≡ d.inputs
  inputs-same = same_at c d q.sizes-same 0

  pub latches-same : c.latches ≡ d.latches
  latches-same = same_at c d q.sizes-same 1

  pub gates-same : c.gates ≡ d.gates
  gates-same = same_at c d q.sizes-same 2

  pub m-same : c.m ≡ d.m
  m-same = same_at c d q.sizes-same 3

  pub n-same : c.n ≡ d.n
  n-same = same_at c d q.sizes-same 4

  pub second-same : c.second_port ≡ d.second_port
  second-same = same_at c d q.sizes-same 7

  port-same : (p : ℕ) → IsPort d p → IsPort c p
  port-same p is = (is.0, rw second-same is.1)

  pub start-same : start c ≡ start d
  start-same = start-at c d q.sizes-same

  -- a number within a limit that both share
  pub last_wire-same : last_wire c ≡ last_wire d
  last_wire-same = rw (inputs-same, latches-same, n-same, gates-same, second-same)

  pub gate_wire-same : (g : ℕ) → gate_wire c g ≡ gate_wire d g
  gate_wire-same g = rw (inputs-same, latches-same, n-same, second-same)

  is_read-same : (w : ℕ) → is_read c w ≡ is_read d w
  unfolding is_read
  is_read-same w = rw (inputs-same, latches-same, n-same, second-same)

  -- a sweep over the same values
  pub sweep-same : {op : Values → ℕ → ℕ → Bool} → OfTwoWires op → {u v : Values} → ((w : ℕ) → u w ≡ v w)
      → (g w : ℕ) → g ≤ c.gates → sweep op c u g w ≡ sweep op d v g w
  unfolding sweep
  sweep-same two same zero w h = same w
  sweep-same {op} two {u} {v} same (suc g) w h =
      rw (
        q.left-same g (omega arith),
        q.right-same g (omega arith),
        gate_wire-same g,
        sweep-same two same g w (omega arith),
        two (sweep op c u g) (sweep op d v g) (d.left g) (d.right g) (sweep-same two same g (d.left g / 2) (omega arith))
            (sweep-same two same g (d.right g / 2) (omega arith)),
      )

  -- the same wires depend on a read bit
  depends-same : (w : ℕ) → depends_on_read c w ≡ depends_on_read d w
  unfolding depends_on_read
  depends-same w = sweep-same either_wire-of-two is_read-same c.gates w (le_refl _) ∙ rw gates-same

  free : {x y : ℕ} → x ≡ y → depends_on_read c (x / 2) ≡ false → depends_on_read d (y / 2) ≡ false
  free {x} {y} e h = sym (depends-same (y / 2)) ∙ rw (← e) h

  codes_same : CodesFit c → CodesFit d
  codes_same h =
      record {
        next_fits = λ l b. let s : l < c.latches =
            rw latches-same b in rw (← q.next-same l s, ← last_wire-same) (h.next_fits l s);
        reset-fits = λ l b. let s : l < c.latches = rw latches-same b in rw (← q.reset-same l s) (h.reset-fits l s);
        left-fits = λ g b. let s : g < c.gates =
            rw gates-same b in rw (← q.left-same g s, ← gate_wire-same g) (h.left-fits g s);
        right-fits = λ g b. let s : g < c.gates =
            rw gates-same b in rw (← q.right-same g s, ← gate_wire-same g) (h.right-fits g s);
        address-fits = λ p is t b. let s : t < c.m =
            rw m-same b in rw (← q.address_same p (port-same p is) t s, ← last_wire-same) (h.address-fits p (port-same p is) t s);
        data-fits = λ t b. let s : t < c.n = rw n-same b in rw (← q.data-same t s, ← last_wire-same) (h.data-fits t s);
        WE-fits = rw (← q.WE-same, ← last_wire-same) h.WE-fits;
        RE-fits = λ p is. rw (← q.RE-same p (port-same p is), ← last_wire-same) (h.RE-fits p (port-same p is));
        P-fits = rw (← q.P-same, ← last_wire-same) h.P-fits;
      }

  pub accepted-same : Accepted c → Accepted d
  accepted-same h =
      record {
        limits = record { sizes = sizes_fit-same c d q.sizes-same h.limits.sizes; codes = codes_same h.limits.codes };
        no_tie = λ p is. record { tie-free = untied p (port-same p is) };
        no_loop = λ p is.
            record {
              address-free = λ t b. let s : t < c.m =
                  rw m-same b in free (q.address_same p (port-same p is) t s) ((h.no_loop p (port-same p is)).address-free t s);
              RE-free = free (q.RE-same p (port-same p is)) (h.no_loop p (port-same p is)).RE-free;
            };
      }
    where
      untied : (p : ℕ) → IsPort c p → (s t : ℕ) → s < t → t < d.m → (port d p).address s / 2 ≡ (port d p).address t / 2
          → (port d p).address t / 2 ≡ 0
      untied p is s t l b e =
          let m : t < c.m = rw m-same b in
          let n : s < c.m = omega arith in
          rw (← q.address_same p is t m) ((h.no_tie p is).tie-free s t l m (rw (q.address_same p is s n, q.address_same p is t m) e))
