-- Laws of what a sheet is answered with (specs/Records.antt, and `Outcome` in specs/Steps.antt), by which test refuses. Cited by the
-- functions that read a sheet.
use Prim.Native.Nat.{ℕ, zero, suc, ◌≤◌}
use mathlib.Core.Path.{◌≡◌, refl, sym, ◌∙◌, ap, subst}
use mathlib.Core.List.{List}
use native.Mathlib.Omega.{arith}
use lib.ListN.{length, take}
use lib.Seq.{take-suc, take_all}
use Rattle.std.specs.Prelude.{Ok, Err}
use Rattle.refusals.specs.Verdict.{Verdict, Passed, refuse}
use Rattle.refusals.specs.declared.Refusal.{Refusal}
use Rattle.model.specs.Netlist as M
use Rattle.model.specs.Gather.{gather}
use Rattle.literals.specs.declared.Code.{Code}
use Rattle.netlist.specs.NetOf.{code_of, net_of}
use Rattle.netlist.specs.RecordOf.{code_entry, record_of}
use Rattle.netlist.specs.declared.Netlist.{Netlist}
use Rattle.sheet_steps.specs.declared.SheetAnswer.{SheetAnswer}
use Rattle.sheet_steps.specs.Records.{record_beside, refused_at}
use Rattle.sheet_steps.specs.Lists.{FullLength, Holds, ListsBeside}
use Rattle.sheet_steps.specs.Steps.{Outcome}

-- the codes of a record's array, gathered again
gather-codes : (xs : List Code) (n : ℕ) → n ≤ length xs → gather n (code_entry (code_of xs)) ≡ take n xs
unfolding gather code_of
gather-codes xs zero h = refl
gather-codes xs (suc n) h = rw (gather-codes xs n (omega arith), take-suc xs n (record { 0 = 0 }) (omega arith))

gather-all : (xs : List Code) (n : ℕ) → length xs ≡ n → gather n (code_entry (code_of xs)) ≡ xs
gather-all xs n e = gather-codes xs n (omega arith) ∙ take_all n xs (omega arith)

-- a record of full length is the record of the netlist that it stands for
record_of_lem : (r : Netlist) (latches gates : List ℕ) → FullLength r latches gates
    → r ≡ record_of (net_of r latches gates)
unfolding record_of net_of
record_of_lem r latches gates full =
    λ i. record {
      inputs = r.inputs;
      latches = r.latches;
      gates = r.gates;
      m = r.m;
      n = r.n;
      initial_word = r.initial_word;
      unknown_start = r.unknown_start;
      second_port = r.second_port;
      address = sym (gather-all r.address 12 full.address-codes) i;
      write_data = sym (gather-all r.write_data 32 full.data-codes) i;
      we = r.we;
      re = r.re;
      p = r.p;
      address2 = sym (gather-all r.address2 12 full.second-codes) i;
      re2 = r.re2;
    }

module _ {sheet : SheetAnswer} {latches gates : List ℕ} {v : Verdict} {c : M.Netlist} (o : Outcome sheet latches gates v c) where
  -- the verdict of an answer, and its record
  pub verdict-is : sheet.verdict ≡ v
  verdict-is = ap (λ (s : SheetAnswer). s.verdict) o.answer-is

  pub record_is : sheet.net ≡ record_beside v c
  record_is = ap (λ (s : SheetAnswer). s.net) o.answer-is

  -- where nothing is refused, the record and the lists hold the netlist
  pub holds : v ≡ Passed → Holds sheet.net latches gates c
  holds passed = subst (λ (w : Verdict). ListsBeside w sheet.net latches gates c) passed o.lists-are

module _ {v : Verdict} (latches gates : List ℕ) (c : M.Netlist) where
  -- a refusal
  pub outcome-refused : {r : Refusal} {p : ℕ} → v ≡ refuse r p → Outcome (refused_at r p) latches gates v c
  unfolding record_beside
  outcome-refused e = rw e (record { answer-is = refl; lists-are = tt })

  -- a refusal that was the answer before
  pub outcome-kept : {sheet : SheetAnswer} {w : Verdict} {d : M.Netlist} {r : Refusal} {p : ℕ} → Outcome sheet latches gates w d
      → sheet.verdict ≡ refuse r p → v ≡ refuse r p → Outcome sheet latches gates v c
  unfolding record_beside
  outcome-kept {sheet} {w} {d} {r} {p} o told e =
      let was : w ≡ refuse r p = sym (verdict-is o) ∙ told in
      let is : sheet ≡ refused_at r p = o.answer-is ∙ rw was in
      rw is (outcome-refused e)

  -- no refusal: the record and the lists that hold the netlist
  pub outcome-passed : (r : Netlist) → Holds r latches gates c → v ≡ Passed → Outcome (record { verdict = Passed; net = r }) latches gates v c
  unfolding record_beside
  outcome-passed r held e =
      let is : r ≡ record_of c = record_of_lem r latches gates held.full ∙ rw held.net-is in
      rw e (record { answer-is = ap (λ (n : Netlist). record { verdict = Passed; net = n }) is; lists-are = held })

-- the same verdict, and where nothing is refused the same netlist
pub outcome-same : {sheet : SheetAnswer} {latches gates : List ℕ} {v : Verdict} {c d : M.Netlist} (w : Verdict) → v ≡ w → (w ≡ Passed → c ≡ d)
    → Outcome sheet latches gates v c → Outcome sheet latches gates w d
outcome-same {latches = latches} {gates = gates} {d = d} (Ok _) e same o = rw (← same refl, ← e) o
outcome-same {latches = latches} {gates = gates} {d = d} (Err f) e same o = outcome-kept latches gates d o (verdict-is o ∙ e) refl
