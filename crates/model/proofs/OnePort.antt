-- A netlist with two ports, of which nothing uses the second, as a netlist with one (specs/OnePort.antt): that one is accepted too and has
-- the same runs. No contract cites this file.
use Prim.Native.Nat.{ℕ, zero, suc, ◌+◌, ◌-◌, ◌*◌, ◌/◌, ◌≤◌, ◌<◌}
use mathlib.Core.Path.{◌≡◌, refl, sym, ◌∙◌, ap, ap₂, subst}
use mathlib.Core.Bool.{Bool, false, ◌&&◌, true≢false}
use mathlib.Core.Logic.{by_cases}
use native.Mathlib.Nat.{zero-mul, one-mul, add-zero}
use native.Mathlib.Decide.{dec_lt}
use native.Mathlib.Omega.{arith}
use lib.Dec.{eqb, leb, ltb}
use borrow.Author.Tests.{lt-ltb, le-ltb, le-leb, leb-true, ltb-true}
use Rattle.model.specs.Netlist.{Netlist, IsPort, port, read_bits, input_wire, latch_wire, read_wire, gate_wire, last_wire}
use Rattle.model.specs.Circuit.{Values, code_value, depends_on_read, ReadPath, at_read, by_left, by_right, State, Feeds, address_of, read_data, frame, word_written, step, state_at, run, Starts}
use Rattle.model.specs.Network.{renamed}
use Rattle.model.specs.Acceptance.{SizesFit, IsCode, CodesFit, Accepted}
use Rattle.model.specs.Agree.{Agree}
use Rattle.model.specs.OnePort.{names_second, one_wire, kept_wire, one_code, one_port, SameRuns}
use Rattle.model.proofs.Booleans.{not-true-false, and-true}
use Rattle.model.proofs.Bits.{from_bits-same}
use Rattle.model.proofs.Ports.{first-port}
use Rattle.model.proofs.Dependence.{paths, depends-read}
use Rattle.model.proofs.Circuit.{code_same, IsFrame, frame_is, frame-unique, read_data-port}
use Rattle.model.proofs.Renumbering.{renamed-variable, renamed-value}
use Rattle.model.proofs.Agree.{latches-same, n-same, start-same, last_wire-same}
use Rattle.model.proofs.SameRuns.{starts-same, same-state, code-value-same, run-same}

-- no code that counts is of the second port's read bits; the address codes and RE of the first port are not by themselves
pub record Unused (c : Netlist) : Type 0 where
  pub two-ports : c.second_port ≡ 1
  pub next-unused : (l : ℕ) → l < c.latches → names_second c (c.next l) ≡ false
  pub left-unused : (g : ℕ) → g < c.gates → names_second c (c.left g) ≡ false
  pub right-unused : (g : ℕ) → g < c.gates → names_second c (c.right g) ≡ false
  pub data-unused : (t : ℕ) → t < c.n → names_second c (c.write_data t) ≡ false
  pub WE-unused : names_second c c.WE ≡ false
  pub P-unused : names_second c c.P ≡ false

module _ (c : Netlist) (two : c.second_port ≡ 1) where
  -- there are twice n read bits
  reads : read_bits c ≡ c.n + c.n
  reads = rw two (omega arith)

  abbrev d : Netlist
  d = one_port c

  last_one : last_wire d + c.n ≡ last_wire c
  unfolding one_port
  last_one = omega (arith, reads)

  -- wires before the second port's read bits stay
  kept-before : (w : ℕ) → w < read_wire c c.n → kept_wire c w ≡ w
  unfolding kept_wire
  kept-before w l = rw (lt-ltb w (read_wire c c.n) l)

  kept-behind : (w : ℕ) → read_wire c c.n ≤ w → kept_wire c w ≡ w + c.n
  unfolding kept_wire
  kept-behind w l = rw (le-ltb w (read_wire c c.n) l, two, one-mul c.n)

  one-before : (w : ℕ) → w < gate_wire c 0 → one_wire c w ≡ w
  unfolding one_wire
  one-before w l = rw (lt-ltb w (gate_wire c 0) l)

  one-behind : (w : ℕ) → gate_wire c 0 ≤ w → one_wire c w ≡ w - c.n
  unfolding one_wire
  one-behind w l = rw (le-ltb w (gate_wire c 0) l, two, one-mul c.n)

  -- a code that is of no second read bit is of a wire before or behind them
  outside-second : (x : ℕ) → names_second c x ≡ false → read_wire c c.n ≤ x / 2 → gate_wire c 0 ≤ x / 2
  unfolding names_second
  outside-second x h l =
      by_cases (dec_lt (x / 2) (gate_wire c 0))
      (λ b. absurd (true≢false (sym ((and-true (leb (read_wire c c.n) (x / 2)) (ltb (x / 2) (gate_wire c 0))).1 (le-leb (read_wire c c.n) (x / 2) l, lt-ltb (x / 2) (gate_wire c 0) b)) ∙ h)))
      (λ b. omega arith)

  -- so there and back it is itself
  kept-one : (x : ℕ) → names_second c x ≡ false → kept_wire c (one_wire c (x / 2)) ≡ x / 2
  kept-one x h =
      by_cases (dec_lt (x / 2) (read_wire c c.n))
      (λ l. ap (kept_wire c) (one-before (x / 2) (omega (arith, reads))) ∙ kept-before (x / 2) l)
      (λ l.
      let far : gate_wire c 0 ≤ x / 2 = outside-second x h (omega arith) in
      ap (kept_wire c) (one-behind (x / 2) far) ∙ kept-behind (x / 2 - c.n) (omega (arith, reads)) ∙ omega (arith, reads))

  -- and it is a code of the other netlist
  one-most : (x last : ℕ) → names_second c x ≡ false → c.inputs + c.latches + c.n ≤ last → x / 2 ≤ last + c.n → one_wire c (x / 2) ≤ last
  one-most x last h least most =
      by_cases (dec_lt (x / 2) (read_wire c c.n))
      (λ l. subst (λ (w : ℕ). w ≤ last) (sym (one-before (x / 2) (omega (arith, reads)))) (omega arith))
      (λ l. subst (λ (w : ℕ). w ≤ last) (sym (one-behind (x / 2) (outside-second x h (omega arith)))) (omega arith))

  code_one : (x : ℕ) → names_second c x ≡ false → IsCode c x → IsCode d (one_code c x)
  unfolding one_port renamed
  code_one x h b = omega (arith, one-most x (last_wire d) h (omega arith) (omega (arith, last_one)))

  -- the values of a frame seen through the wires that stay
  abbrev seen : Values → Values
  seen v w = v (kept_wire c w)

  code-kept : (v : Values) (x : ℕ) → names_second c x ≡ false → code_value (seen v) (one_code c x) ≡ code_value v x
  code-kept v x h =
      renamed-value (seen v) (one_wire c) x ∙ code_same (λ w. seen v (one_wire c w)) v x (ap v (kept-one x h))

  -- a wire with a path from a read bit has one before too
  path-kept : ((g : ℕ) → g < c.gates → names_second c (c.left g) ≡ false) → ((g : ℕ) → g < c.gates → names_second c (c.right g) ≡ false)
      → (w : ℕ) → ReadPath d w → ReadPath c (kept_wire c w)
  unfolding one_port
  path-kept left right w (at_read t h) =
      rw (kept-before (read_wire c t) (omega arith)) (at_read t (omega (arith, reads)))
  path-kept left right w (by_left g h p) =
      let is : kept_wire c (gate_wire d g) ≡ gate_wire c g = kept-behind (gate_wire d g) (omega arith) ∙ omega (arith, reads) in
      rw is (by_left g h (subst (ReadPath c) (ap (kept_wire c) (renamed-variable (one_wire c) (c.left g)) ∙ kept-one (c.left g) (left g h)) (path-kept left right (d.left g / 2) p)))
  path-kept left right w (by_right g h p) =
      let is : kept_wire c (gate_wire d g) ≡ gate_wire c g = kept-behind (gate_wire d g) (omega arith) ∙ omega (arith, reads) in
      rw is (by_right g h (subst (ReadPath c) (ap (kept_wire c) (renamed-variable (one_wire c) (c.right g)) ∙ kept-one (c.right g) (right g h)) (path-kept left right (d.right g / 2) p)))

module _ {c : Netlist} (ok : Accepted c) (unused : Unused c) where
  abbrev two : c.second_port ≡ 1
  two = unused.two-ports

  abbrev one : Netlist
  one = one_port c

  -- what depends on no read bit is none
  free_other : (x : ℕ) → depends_on_read c (x / 2) ≡ false → names_second c x ≡ false
  unfolding names_second
  free_other x h =
      not-true-false (names_second c x) (λ named.
      let both = (and-true (leb (read_wire c c.n) (x / 2)) (ltb (x / 2) (gate_wire c 0))).0 named in
      let lo = leb-true (read_wire c c.n) (x / 2) both.0 in
      let hi = ltb-true (x / 2) (gate_wire c 0) both.1 in
      let t : ℕ = x / 2 - read_wire c 0 in
      let is : read_wire c t ≡ x / 2 = omega arith in
      true≢false (sym (depends-read c t (omega arith)) ∙ ap (depends_on_read c) is ∙ h))

  address-other : (t : ℕ) → t < c.m → names_second c (c.address t) ≡ false
  address-other t b = free_other (c.address t) ((ok.no_loop 1 (first-port c)).address-free t b)

  RE-other : names_second c c.RE ≡ false
  RE-other = free_other c.RE (ok.no_loop 1 (first-port c)).RE-free

  -- the only port of the other netlist
  only : (p : ℕ) → IsPort one p → p ≡ 1
  unfolding one_port
  only p here = omega (arith, here.0, here.1)

  one-sizes : SizesFit one
  unfolding one_port
  one-sizes =
      let q = ok.limits.sizes in
      record {
        inputs-fit = q.inputs-fit;
        latches-fit = q.latches-fit;
        gates-fit = q.gates-fit;
        m-least = q.m-least;
        m-most = q.m-most;
        n-least = q.n-least;
        n-most = q.n-most;
        kind_fits = omega (arith, q.kind_fits);
        word_fits = q.word_fits;
        wires-fit = omega (arith, q.wires-fit, last_one c two);
      }

  -- a gate's code is below the gate there too
  operand_below : (g x : ℕ) → names_second c x ≡ false → x < 2 * gate_wire c g → one_code c x < 2 * gate_wire one g
  unfolding one_port renamed
  operand_below g x h b =
      omega (arith, one-most c two x (c.inputs + c.latches + c.n + g) h (omega arith) (omega (arith, reads c two)))

  one-codes : CodesFit one
  unfolding one_port
  one-codes =
      let q = ok.limits.codes in
      record {
        next_fits = λ l b. code_one c two (c.next l) (unused.next-unused l b) (q.next_fits l b);
        reset-fits = q.reset-fits;
        left-fits = λ g b. operand_below g (c.left g) (unused.left-unused g b) (q.left-fits g b);
        right-fits = λ g b. operand_below g (c.right g) (unused.right-unused g b) (q.right-fits g b);
        address-fits = λ p here t b.
            rw (only p here) (code_one c two (c.address t) (address-other t b) (q.address-fits 1 (first-port c) t b));
        data-fits = λ t b. code_one c two (c.write_data t) (unused.data-unused t b) (q.data-fits t b);
        WE-fits = code_one c two c.WE unused.WE-unused q.WE-fits;
        RE-fits = λ p here. rw (only p here) (code_one c two c.RE RE-other (q.RE-fits 1 (first-port c)));
        P-fits = code_one c two c.P unused.P-unused q.P-fits;
      }

  -- two wires that stay are one where their new numbers are
  wires-apart : (x y : ℕ) → names_second c x ≡ false → names_second c y ≡ false → one_code c x / 2 ≡ one_code c y / 2 → x / 2 ≡ y / 2
  wires-apart x y h g e =
      sym (kept-one c two x h)
      ∙ ap (kept_wire c) (sym (renamed-variable (one_wire c) x) ∙ e ∙ renamed-variable (one_wire c) y)
      ∙ kept-one c two y g

  free_one : (x : ℕ) → depends_on_read c (x / 2) ≡ false → depends_on_read one (one_code c x / 2) ≡ false
  free_one x h =
      not-true-false (depends_on_read one (one_code c x / 2)) (λ read.
      let path = (paths one (record { sizes = one-sizes; codes = one-codes }) (one_code c x / 2)).0 read in
      let before = path-kept c two unused.left-unused unused.right-unused (one_code c x / 2) path in
      let at = subst (ReadPath c) (ap (kept_wire c) (renamed-variable (one_wire c) x) ∙ kept-one c two x (free_other x h)) before in
      true≢false (sym ((paths c ok.limits (x / 2)).1 at) ∙ h))

  pub one-accepted : Accepted one
  unfolding one_port
  one-accepted =
      record {
        limits = record { sizes = one-sizes; codes = one-codes };
        no_tie = λ p here. rw (only p here) (record { tie-free = untied });
        no_loop = λ p here.
            rw (only p here)
            (record {
              address-free = λ t b. free_one (c.address t) ((ok.no_loop 1 (first-port c)).address-free t b);
              RE-free = free_one c.RE (ok.no_loop 1 (first-port c)).RE-free;
            });
      }
    where
      untied : (s t : ℕ) → s < t → t < c.m → one_code c (c.address s) / 2 ≡ one_code c (c.address t) / 2 → one_code c (c.address t) / 2 ≡ 0
      untied s t l b e =
          let wires = wires-apart (c.address s) (c.address t) (address-other s (omega arith)) (address-other t b) e in
          renamed-variable (one_wire c) (c.address t) ∙ ap (one_wire c) ((ok.no_tie 1 (first-port c)).tie-free s t l b wires) ∙ one-before c two 0 (omega arith)

  -- states that agree on what both netlists look at
  record Alike (s r : State) : Type 0 where
    latch-alike : (l : ℕ) → l < c.latches → s.latch l ≡ r.latch l
    memory-alike : (x : ℕ) → s.memory x ≡ r.memory x
    held-alike : (t : ℕ) → t < c.n → s.held t ≡ r.held t

  module _ (v : Values) where
    code_alike : (x : ℕ) → names_second c x ≡ false → code_value (seen c two v) (one_code c x) ≡ code_value v x
    code_alike = code-kept c two v

    address-alike : address_of one (port one 1) (seen c two v) ≡ address_of c (port c 1) v
    unfolding address_of one_port
    address-alike = from_bits-same c.m _ _ (λ t b. code_alike (c.address t) (address-other t b))

    -- a bit of the first port
    read_alike : {s r : State} → Alike s r → (t : ℕ) → t < c.n → read_data one s (seen c two v) t ≡ read_data c r v t
    unfolding one_port
    read_alike {s} {r} alike t b =
        let bit-one : (1 - 1) * c.n + t ≡ t = omega (arith, zero-mul c.n) in
        subst (λ (x : ℕ). read_data one s (seen c two v) x ≡ read_data c r v x) bit-one
        (read_data-port one 1 (first-port one) s (seen c two v) t b
        ∙ rw (code_alike c.RE RE-other, address-alike, alike.memory-alike (address_of c (port c 1) v), bit-one, alike.held-alike t b)
        (sym (rw bit-one at (read_data-port c 1 (first-port c) r v t b))))

  -- a frame of two ports, seen through the wires that stay, is one of one port
  frame-alike : {s r : State} → Alike s r → (f : ℕ → Bool) (v : Values) → IsFrame c r f v → IsFrame one s f (seen c two v)
  unfolding one_port
  frame-alike {s} {r} alike f v q =
      record {
        at_zero = ap v (kept-before c two 0 (omega arith)) ∙ q.at_zero;
        at-input = λ x b. ap v (kept-before c two (input_wire c x) (omega arith)) ∙ q.at-input x b;
        at-latch = λ l b. ap v (kept-before c two (latch_wire c l) (omega arith)) ∙ q.at-latch l b ∙ sym (alike.latch-alike l b);
        at_read = λ t b.
            let below : t < c.n = omega arith in
            ap v (kept-before c two (read_wire c t) (omega arith)) ∙ q.at_read t (omega (arith, reads c two)) ∙ sym (read_alike v alike t below);
        at-gate = λ g b.
            let is : kept_wire c (gate_wire one g) ≡ gate_wire c g = kept-behind c two (gate_wire one g) (omega arith) ∙ omega (arith, reads c two) in
            ap v is ∙ q.at-gate g b
            ∙ sym (ap₂ ◌&&◌ (code_alike v (c.left g) (unused.left-unused g b)) (code_alike v (c.right g) (unused.right-unused g b)));
      }

  -- so the values are the same on them
  values-alike : {s r : State} → Alike s r → (f : ℕ → Bool) (w : ℕ) → w ≤ last_wire one → frame one s f w ≡ seen c two (frame c r f) w
  values-alike {s} {r} alike f w b =
      sym (frame-unique one-accepted s f (seen c two (frame c r f)) (frame-alike alike f (frame c r f) (frame_is ok r f)) w b)

  -- a code has the same value in values that agree on the wires
  code_in : {u : Values} (v : Values) → ((w : ℕ) → w ≤ last_wire one → u w ≡ seen c two v w) → (x : ℕ) → names_second c x ≡ false → IsCode c x
      → code_value u (one_code c x) ≡ code_value v x
  code_in {u} v same x h b =
      code_same u (seen c two v) (one_code c x) (same (one_code c x / 2) (omega (arith, code_one c two x h b))) ∙ code_alike v x h

  address-in : {u : Values} (v : Values) → ((w : ℕ) → w ≤ last_wire one → u w ≡ seen c two v w)
      → address_of one (port one 1) u ≡ address_of c (port c 1) v
  unfolding address_of one_port
  address-in v same =
      from_bits-same c.m _ _ (λ t b. code_in v same (c.address t) (address-other t b) (ok.limits.codes.address-fits 1 (first-port c) t b))

  word_in : {u : Values} (v : Values) → ((w : ℕ) → w ≤ last_wire one → u w ≡ seen c two v w) → word_written one u ≡ word_written c v
  unfolding word_written one_port
  word_in v same =
      from_bits-same c.n _ _ (λ t b. code_in v same (c.write_data t) (unused.data-unused t b) (ok.limits.codes.data-fits t b))

  step-alike : {s r : State} → Alike s r → {u : Values} (v : Values) → ((w : ℕ) → w ≤ last_wire one → u w ≡ seen c two v w)
      → Alike (step one s u) (step c r v)
  unfolding step one_port
  step-alike {s} {r} alike {u} v same =
      record {
        latch-alike = λ l b. code_in v same (c.next l) (unused.next-unused l b) (ok.limits.codes.next_fits l b);
        memory-alike = λ x.
            rw (
              code_in v same c.WE unused.WE-unused ok.limits.codes.WE-fits,
              address-in v same,
              word_in v same,
              alike.memory-alike x,
            );
        held-alike = λ t b.
            same (read_wire c t) (omega arith) ∙ ap v (kept-before c two (read_wire c t) (omega arith));
      }

  states-alike : (s : State) (f : Feeds) (i : ℕ) → Alike (state_at one s f i) (state_at c s f i)
  unfolding state_at
  states-alike s f zero = record { latch-alike = λ l b. refl; memory-alike = λ x. refl; held-alike = λ t b. refl }
  states-alike s f (suc i) =
      let before = states-alike s f i in
      step-alike before (frame c (state_at c s f i) (f i)) (values-alike before (f i))

  runs-alike : (s : State) (f : Feeds) (i w : ℕ) → w ≤ last_wire one → run one s f i w ≡ run c s f i (kept_wire c w)
  unfolding run
  runs-alike s f i w b = values-alike (states-alike s f i) (f i) w b

  pub same_runs : SameRuns c one
  unfolding one_port
  same_runs =
      record {
        starts-alike = λ s. (
          λ h. record { at-reset = h.at-reset; begins = h.begins },
          λ h. record { at-reset = h.at-reset; begins = h.begins },
        );
        wires-alike = runs-alike;
        property-alike = λ s f i. code_in (run c s f i) (runs-alike s f i) c.P unused.P-unused ok.limits.codes.P-fits;
      }

-- one port is one port: nothing is renamed
pub same-runs-single : (c : Netlist) → c.second_port ≡ 0 → SameRuns c c
same-runs-single c none =
    record {
      starts-alike = λ s. (λ h. h, λ h. h);
      wires-alike = λ s f i w b. ap (run c s f i) (sym (kept w));
      property-alike = λ s f i. refl;
    }
  where
    kept : (w : ℕ) → kept_wire c w ≡ w
    kept w =
        by_cases (dec_lt w (read_wire c c.n))
        (λ l. unfold kept_wire in rw (lt-ltb w (read_wire c c.n) l))
        (λ l. unfold kept_wire in rw (le-ltb w (read_wire c c.n) (omega arith), none, zero-mul c.n) (add-zero w))

-- and a netlist that agrees with the second is as good
pub same-runs-agree : {c d e : Netlist} → SameRuns c d → Agree d e → SameRuns c e
same-runs-agree {c} {d} {e} same q =
    record {
      starts-alike = λ s. (λ h. starts-same d e q s ((same.starts-alike s).0 h), λ h. (same.starts-alike s).1 (back s h));
      wires-alike = λ s f i w b.
          sym (run-same d e q (same-state d s) f i w) ∙ same.wires-alike s f i w (rw (last_wire-same d e q) b);
      property-alike = λ s f i.
          sym (code-value-same d e q (run-same d e q (same-state d s) f i) q.P-same) ∙ same.property-alike s f i;
    }
  where
    back : (s : State) → Starts e s → Starts d s
    back s h =
        record {
          at-reset = λ l b. h.at-reset l (rw (← latches-same d e q) b) ∙ ap (λ (r : ℕ). eqb r 1) (sym (q.reset-same l b));
          begins = rw (n-same d e q, start-same d e q) h.begins;
        }
