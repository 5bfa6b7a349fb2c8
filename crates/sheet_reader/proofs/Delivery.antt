-- What a call that reads a netlist c leaves in the lists that it is lent, from its answer and what stands in its own unpacked lists
-- (`Outcome`): for any verdict and any netlist. Cited by `read` and by the export that imports a text.
use Prim.Native.Nat.{ℕ, ◌≤◌, ◌<◌}
use mathlib.Core.Path.{◌≡◌, refl, sym, ◌∙◌, ap}
use mathlib.Core.List.{List}
use native.Mathlib.Omega.{arith}
use lib.ListN.{length}
use Rattle.std.specs.Prelude.{Ok, Err}
use Rattle.refusals.specs.Verdict.{Verdict, Passed}
use Rattle.refusals.specs.Slices.{contents_after}
use Rattle.model.specs.Netlist as M
use Rattle.model.specs.Acceptance.{Accepted}
use Rattle.model.specs.Agree.{Agree}
use Rattle.model.specs.Gather.{gather}
use Rattle.literals.specs.declared.Code.{Code}
use Rattle.netlist.specs.NetOf.{code_of, net_of}
use Rattle.netlist.specs.RecordOf.{code_entry, record_of}
use Rattle.model.proofs.Agree.{accepted-same}
use Rattle.model.proofs.Ports.{by-port}
use Rattle.netlist_tests.specs.Record.{record_verdict}
use Rattle.netlist_tests.proofs.Acceptance.{passes-accepted}
use Rattle.sheet_steps.specs.declared.SheetAnswer.{SheetAnswer}
use Rattle.sheet_steps.specs.Records.{record_beside}
use Rattle.sheet_steps.specs.Steps.{Outcome}
use Rattle.sheet_steps.proofs.Records.{record_is, holds}
use Rattle.call_lists.specs.declared.LatchEntry.{LatchEntry}
use Rattle.call_lists.specs.declared.GateEntry.{GateEntry}
use Rattle.call_lists.specs.Unpacked.{latch_codes, gate_codes}
use Rattle.call_lists.specs.Lent.{net_lent}
use Rattle.call_lists.specs.RecordAt.{latch_at, gate_at}
use Rattle.call_lists.specs.Delivered.{delivered}
use Rattle.call_lists.specs.ListsBeside.{latch_of, gate_of, latches_beside, gates_beside}
use Rattle.call_lists.proofs.Delivered.{delivered-none, length-delivered}
use Rattle.sheet_reader.proofs.Lists.{get_or-gather-alone, delivered-pairs}

-- an accepted netlist, its record, and its latches and gates delivered into lists
module _ (c : M.Netlist) (accepted : Accepted c) (latches : List LatchEntry) (gates : List GateEntry)
    (long-latches : c.latches ≤ length latches) (long-gates : c.gates ≤ length gates) where
  pub agree : Agree c (net_of (record_of c) (latch_codes (delivered c.latches (latch_of c) latches))
      (gate_codes (delivered c.gates (gate_of c) gates)))
  unfolding net_of code_of record_of latch_codes gate_codes
  agree =
      let sizes = accepted.limits.sizes in
      let d = net_of (record_of c) (latch_codes (delivered c.latches (latch_of c) latches)) (gate_codes (delivered c.gates (gate_of c) gates)) in
      let wide = sizes.m-most in
      let deep = sizes.n-most in
      let latch = delivered-pairs (λ (l : LatchEntry). l.next.0) (λ (l : LatchEntry). l.reset) c.latches (latch_of c) latches
      sizes.latches-fit long-latches in
      let gate = delivered-pairs (λ (g : GateEntry). g.left.0) (λ (g : GateEntry). g.right.0) c.gates (gate_of c) gates
      sizes.gates-fit long-gates in
      record {
        sizes-same = refl;
        next-same = λ l h. sym (latch l h).0;
        reset-same = λ l h. sym (latch l h).1;
        left-same = λ g h. sym (gate g h).0;
        right-same = λ g h. sym (gate g h).1;
        address_same =
            by-port sizes (λ p. (t : ℕ) → t < c.m → (M.port c p).address t ≡ (M.port d p).address t)
            (λ t h. code 12 c.address t (omega arith)) (λ some t h. code 12 c.address2 t (omega arith));
        data-same = λ t h. code 32 c.write_data t (omega arith);
        WE-same = refl;
        RE-same = λ p here. refl;
        P-same = refl;
      }
    where
      -- a code in an array of the record
      code : (n : ℕ) (f : ℕ → ℕ) (t : ℕ) → t < n → f t ≡ code_of (gather n (code_entry f)) t
      code n f t h = sym (ap (λ (k : Code). k.0) (get_or-gather-alone n 1 (code_entry f) (λ t. refl) t 0 t h (omega arith) (omega arith) (record { 0 = 0 })))

  -- no test of records refuses them
  pub not-refused : record_verdict (net_lent (record_of c) (delivered c.latches (latch_of c) latches) (delivered c.gates (gate_of c) gates))
      (length (delivered c.latches (latch_of c) latches)) (length (delivered c.gates (gate_of c) gates)) ≡ Passed
  unfolding net_of record_of
  not-refused =
      let new_latches = delivered c.latches (latch_of c) latches in
      let new_gates = delivered c.gates (gate_of c) gates in
      let d = net_lent (record_of c) new_latches new_gates in
      (passes-accepted d (length new_latches) (length new_gates)).1 (
        accepted-same c d agree accepted,
        rw (length-delivered (latch_of c) latches c.latches long-latches) long-latches,
        rw (length-delivered (gate_of c) gates c.gates long-gates) long-gates,
      )

-- what is delivered beside a verdict v, which passes only an accepted netlist and lists that are long enough
pub record Fits (v : Verdict) (c : M.Netlist) (latches : List LatchEntry) (gates : List GateEntry) : Type 0 where
  pub accepted : v ≡ Passed → Accepted c
  pub latches-long : v ≡ Passed → c.latches ≤ length latches
  pub gates-long : v ≡ Passed → c.gates ≤ length gates

module _ {v : Verdict} {c : M.Netlist} (latches : List LatchEntry) (gates : List GateEntry) (fits : Fits v c latches gates) (sheet : SheetAnswer)
    (latch_list gate_list : List ℕ) (outcome : Outcome sheet latch_list gate_list v c) where
  -- what is to be delivered: no more than 600 records, and no more than there is room for
  abbrev pub Deliverable : Type 0
  Deliverable = ((sheet.net.latches ≤ 600) × (sheet.net.latches ≤ length latches)) ×
      ((sheet.net.gates ≤ 600) × (sheet.net.gates ≤ length gates))

  pub deliverable : Deliverable
  unfolding record_beside record_of
  deliverable = by-verdict v refl
    where
      by-verdict : (w : Verdict) → v ≡ w → Deliverable
      by-verdict (Ok _) e =
          let sizes = (fits.accepted e).limits.sizes in
          rw (record_is outcome, e) ((sizes.latches-fit, fits.latches-long e), (sizes.gates-fit, fits.gates-long e))
      by-verdict (Err f) e = rw (record_is outcome, e) ((omega arith, omega arith), (omega arith, omega arith))

  abbrev pub new_latches : List LatchEntry
  new_latches = delivered sheet.net.latches (latch_at latch_list) latches

  abbrev pub new_gates : List GateEntry
  new_gates = delivered sheet.net.gates (gate_at gate_list) gates

  -- where nothing is refused: the record and the netlist's own latches and gates
  module _ (e : v ≡ Passed) where
    record_of_lem : sheet.net ≡ record_of c
    unfolding record_beside
    record_of_lem = record_is outcome ∙ rw e

    latches-of : new_latches ≡ delivered c.latches (latch_of c) latches
    unfolding net_of
    latches-of = let held = (holds outcome e).net-is in rw (← held)

    gates-of : new_gates ≡ delivered c.gates (gate_of c) gates
    unfolding net_of
    gates-of = let held = (holds outcome e).net-is in rw (← held)

    pub agrees : Agree c (net_lent sheet.net new_latches new_gates)
    agrees =
        rw (latches-of, gates-of, record_of_lem) (agree c (fits.accepted e) latches gates (fits.latches-long e) (fits.gates-long e))

    pub none-refused : record_verdict (net_lent sheet.net new_latches new_gates) (length new_latches) (length new_gates) ≡ Passed
    none-refused =
        rw (latches-of, gates-of, record_of_lem)
        (not-refused c (fits.accepted e) latches gates (fits.latches-long e) (fits.gates-long e))

  -- and in any case
  pub latches-are : new_latches ≡ latches_beside v c latches
  unfolding latches_beside contents_after delivered record_beside record_of
  latches-are = by-verdict v refl
    where
      by-verdict : (w : Verdict) → v ≡ w → new_latches ≡ latches_beside v c latches
      by-verdict (Ok _) e = rw e (latches-of e)
      by-verdict (Err f) e =
          let net : sheet.net ≡ record_beside (Err f) c = record_is outcome ∙ rw e in rw e (rw net (delivered-none (latch_at latch_list) latches))

  pub gates-are : new_gates ≡ gates_beside v c gates
  unfolding gates_beside contents_after delivered record_beside record_of
  gates-are = by-verdict v refl
    where
      by-verdict : (w : Verdict) → v ≡ w → new_gates ≡ gates_beside v c gates
      by-verdict (Ok _) e = rw e (gates-of e)
      by-verdict (Err f) e =
          let net : sheet.net ≡ record_beside (Err f) c = record_is outcome ∙ rw e in rw e (rw net (delivered-none (gate_at gate_list) gates))

  -- the lists stay as long as they were
  pub latches-length : length new_latches ≡ length latches
  latches-length = length-delivered (latch_at latch_list) latches sheet.net.latches deliverable.0.1

  pub gates-length : length new_gates ≡ length gates
  gates-length = length-delivered (gate_at gate_list) gates sheet.net.gates deliverable.1.1
