-- Laws of reading line by line (specs/Steps.antt).
use Prim.Native.Nat.{ℕ, ◌≤◌, ◌<◌}
use mathlib.Core.Path.{◌≡◌, refl, sym, ◌∙◌, ap, fun_ext}
use mathlib.Core.Bool.{Bool, true, false, not, cond, ◌||◌}
use mathlib.Core.Logic.{by_cases}
use mathlib.Core.List.{List}
use native.Mathlib.Decide.{ℕ_discrete}
use native.Mathlib.Omega.{arith}
use lib.Dec.{eqb, ltb}
use lib.ListN.{length, get_or, set}
use lib.Seq.{get_or-set_same, get_or-set_other}
use borrow.Author.Tests.{eq-eqb, ne_eqb}
use Rattle.refusals.specs.Verdict.{refuse}
use Rattle.refusals.specs.declared.Refusal.TheVariants.{OutOfOrder}
use Rattle.literals.specs.declared.Code.{Code}
use Rattle.model.specs.Netlist as M
use Rattle.model.specs.Agree.{sizes_of, SameSizes}
use Rattle.model.proofs.Agree.{sizes_fit-same}
use Rattle.netlist.specs.Places.{control_line, line_at}
use Rattle.sheet_lines.specs.declared.Kind.{Kind}
use Rattle.netlist.specs.NetOf.{code_of, net_of, alone, put_numbers}
use Rattle.netlist.proofs.PutNumbers.{length-put_numbers, first_at-put_numbers, second_at-put_numbers}
use Rattle.netlist.specs.declared.Netlist.{Netlist}
use Rattle.netlist.specs.declared.Line.TheVariants.{Latch, Gate}
use Rattle.sheet_steps.specs.Due.{is_due}
use Rattle.sheet_steps.specs.Steps.{stored, step_net, step_verdict, SizesKnown}
use Rattle.sheet_steps.specs.Lists.{FullLength, Holds}
use Rattle.sheet_steps.specs.LineFaults.{faults_at}
use Rattle.sheet_steps.proofs.Places.{codes-from-3, line_at-known}
use Rattle.refusals.specs.Tests.{◌then◌}

-- one code of a record's array set
pub code-set : (xs : List Code) (i x : ℕ) → i < length xs → code_of (set xs i (record { 0 = x })) ≡ (λ j. cond (eqb i j) x (code_of xs j))
unfolding code_of
code-set xs i x h = fun_ext at
  where
    at : (j : ℕ) → (get_or (set xs i (record { 0 = x })) j (record { 0 = 0 })).0 ≡ cond (eqb i j) x (get_or xs j (record { 0 = 0 })).0
    at j =
        by_cases (ℕ_discrete i j)
        (λ e. rw (eq-eqb i j e, ← e) (ap (λ (k : Code). k.0) (get_or-set_same xs i (record { 0 = x }) (record { 0 = 0 }) h)))
        (λ e. rw (ne_eqb i j e) (ap (λ (k : Code). k.0) (get_or-set_other xs i j (record { 0 = x }) (record { 0 = 0 }) (λ q. e (omega arith)))))

-- a line's numbers put into a record and lists of full length
module _ (r : Netlist) (latches gates : List ℕ) (full : FullLength r latches gates) (kind : Kind) (x y z e : ℕ) where
  -- those of a latch
  pub holds-latch : (l : ℕ) → l < 600 → Holds r (put_numbers l x y latches) gates (stored (net_of r latches gates) (Latch l) kind x y z e)
  unfolding net_of stored
  holds-latch l h =
      record {
        full =
            record {
              address-codes = full.address-codes;
              data-codes = full.data-codes;
              second-codes = full.second-codes;
              latch-codes = rw length-put_numbers full.latch-codes;
              gate-codes = full.gate-codes;
            };
        net-is = simp (first_at-put_numbers latches l x y full.latch-codes h, second_at-put_numbers latches l x y full.latch-codes h);
      }

  -- of a gate
  pub holds-gate : (g : ℕ) → g < 600 → Holds r latches (put_numbers g x y gates) (stored (net_of r latches gates) (Gate g) kind x y z e)
  unfolding net_of stored
  holds-gate g h =
      record {
        full =
            record {
              address-codes = full.address-codes;
              data-codes = full.data-codes;
              second-codes = full.second-codes;
              latch-codes = full.latch-codes;
              gate-codes = rw length-put_numbers full.gate-codes;
            };
        net-is = simp (first_at-put_numbers gates g x y full.gate-codes h, second_at-put_numbers gates g x y full.gate-codes h);
      }

-- a line of codes leaves the sizes
same-stored : (c d : M.Netlist) (kind : Kind) (p x y z e : ℕ) → 3 ≤ p → SameSizes c (stored c (line_at d p) kind x y z e)
unfolding stored
same-stored c d kind p x y z e h =
    codes-from-3 d p (λ due. SameSizes c (stored c due kind x y z e)) h (λ l. refl) (λ g. refl) (λ t. refl) (λ t. refl) (λ t. refl) refl refl

-- the record after a line, from line 3 on: its sizes, and so the line due at this place
module _ (r next : Netlist) (latches gates new_latches new_gates : List ℕ) (kind : Kind) (p x y z e : ℕ)
    (holds : Holds next new_latches new_gates (step_net (net_of r latches gates) kind x y z e p)) where
  sizes_step : 3 ≤ p → SameSizes (alone r) (alone next)
  unfolding net_of step_net
  sizes_step h =
      same-stored (net_of r latches gates) (net_of r latches gates) kind p x y z e h ∙ sym (ap sizes_of holds.net-is)

  pub sizes_known-step : SizesKnown (alone r) p → SizesKnown (alone next) p
  sizes_known-step known h = sizes_fit-same (alone r) (alone next) (sizes_step h) (known h)

  pub due-step : line_at (alone r) p ≡ line_at (alone next) p
  due-step = line_at-known (alone r) (alone next) p sizes_step

-- the verdict on a line, by whether it is out of order
module _ (c : M.Netlist) (kind : Kind) (p : ℕ) where
  abbrev pub out_of_order : Bool
  out_of_order = ltb (control_line c) p || not (is_due (line_at c p) kind)

  module _ (x y z e : ℕ) where
    pub step-refused : out_of_order ≡ true → step_verdict c kind x y z e p ≡ refuse OutOfOrder p
    unfolding step_verdict ◌then◌
    step-refused h = rw h

    pub step-due : out_of_order ≡ false → step_verdict c kind x y z e p ≡ faults_at (step_net c kind x y z e p) (line_at c p) p
    unfolding step_verdict ◌then◌
    step-due h = rw h
