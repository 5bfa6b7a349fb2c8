-- Laws of specs/ForeverCall.antt and CertifiedForever.antt: which test decides, what lies in the store, and that what is certified holds. No contract cites this
-- file.
use Prim.Native.Nat.{ℕ, suc, ◌+◌, ◌*◌, ◌/◌, ◌%◌, ◌≤◌}
use mathlib.Core.Path.{◌≡◌, refl, sym, ◌∙◌, ap}
use mathlib.Core.Bool.{Bool, true, false, cond, ◌&&◌, false≢true}
use mathlib.Core.List.{List, [], ◌++◌}
use native.Mathlib.Omega.{arith}
use lib.IntN.{ℤ, pos, negsuc}
use lib.ListN.{length, get_or, drop, drop_of_length-le, length-append}
use Rattle.refusals.specs.Verdict.{Passed, refuse}
use Rattle.model.specs.Netlist.{Netlist}
use Rattle.model.specs.Gather.{gather}
use Rattle.model.proofs.Gather.{length-gather}
use Rattle.refusals.specs.Refusal.{refusal_number}
use Rattle.refusals.specs.Tests.{◌then◌}
use Rattle.refusals.specs.Slices.{test_room, contents_after}
use Rattle.refusals.specs.declared.Refusal.{Refusal}
use Rattle.refusals.proofs.Tests.{then-passes}
use Rattle.netlist.specs.declared.Netlist as R
use Rattle.netlist.specs.NetOf.{net_of}
use Rattle.sheet_parse.specs.Files.{net_in}
use Rattle.sheet_tests.proofs.Codes.{passed-sheet, passed-file}
use Rattle.sheet_text.proofs.WriteBack.{written_back}
use Rattle.program_input.specs.Input.{sheet_in}
use Rattle.refutation_hints.specs.Propagation.{every, within}
use Rattle.refutation_lemmas.specs.Refutation.{checked}
use Rattle.refutation_lemmas.specs.declared.Checked.{Checked}
use Rattle.refutation_lemmas.specs.declared.Checked.TheVariants.{Refuted, Unjustified}
use Rattle.refutation_lemmas.proofs.Soundness.{refuted-unsatisfiable}
use Rattle.refutation_depth.specs.Certificate.{refused_with, certificate_reply, scratch_after}
use Rattle.refutation_depth.proofs.Certificate.{certified-reply}
use Rattle.invariant_terms.specs.StateBits.{state_count}
use Rattle.invariant_terms.proofs.Walk.{holds_same}
use Rattle.invariant_laws.specs.declared.Law.{Law}
use Rattle.invariant_laws.specs.LawForms.{law_fits, clause_of}
use Rattle.invariant_axioms.specs.Laws.{requested}
use Rattle.invariant_formula.specs.Formula.{requested_clause, step_formula}
use Rattle.invariant_formula.specs.AtStart.{bit_starts, number_starts, holds_at_start}
use Rattle.invariant_formula.proofs.Soundness.{invariant→forever}
use Rattle.invariant_check.specs.CertifiedForever.{CertifiedForever}
use Rattle.invariant_check.specs.ForeverCall.{store_need, forever_verdict, step_found, forever_sent, forever_store, step_scratch, forever_scratch}

-- a clause of a law has five numbers
length-either : (b : Bool) (xs ys : List ℤ) → length xs ≡ 5 → length ys ≡ 5 → length (cond b xs ys) ≡ 5
length-either true xs ys p q = p
length-either false xs ys p q = q

length-clause : (direction : ℕ) (x : Law) → length (clause_of direction x) ≡ 5
unfolding clause_of
length-clause direction x = length-either (law_fits x) _ _ refl refl

pub length-formula : (c : Netlist) (zs : List ℤ) (requests : List ℕ) → length (step_formula c zs requests) ≡ length requests / 3 * 5 + length zs
unfolding step_formula requested_clause
length-formula c zs requests =
    length-append (gather (length requests / 3) (requested_clause c zs requests)) zs
    ∙ ap (λ (n : ℕ). n + length zs)
    (length-gather (length requests / 3) 5 (requested_clause c zs requests)
    (λ x l. length-clause (get_or requests (3 * x) 0 % 2) (requested c zs (get_or requests (3 * x) 0) (get_or requests (3 * x + 1) 0) (get_or requests (3 * x + 2) 0))))

-- gates have no part in the test of the start
number-lists : (r : R.Netlist) (latches gates : List ℕ) (z : ℤ) → number_starts (net_of r latches []) z ≡ number_starts (net_of r latches gates) z
unfolding number_starts bit_starts net_of
number-lists r latches gates (pos v) = refl
number-lists r latches gates (negsuc v) = refl

pub start-lists : (r : R.Netlist) (latches gates : List ℕ) (zs : List ℤ) → holds_at_start (net_of r latches []) zs ≡ holds_at_start (net_of r latches gates) zs
unfolding holds_at_start state_count net_of
start-lists r latches gates zs =
    ap (λ (b : Bool). every (within (suc (state_count (net_of r latches gates)))) zs && b)
    (holds_same (number_starts (net_of r latches [])) (number_starts (net_of r latches gates)) false zs (number-lists r latches gates))

-- as many marks as are lent are all of them
pub all-scratch : (old new : List ℕ) → length new ≡ length old → drop (length old) new ≡ drop (length old) old
all-scratch old new e =
    let most : length new ≤ length old = omega (arith, e) in
    let all : length old ≤ length old = omega arith in
    drop_of_length-le new most ∙ sym (drop_of_length-le old all)

-- the sheet is refused, or taken
module _ (file : List ℕ) (zs : List ℤ) (requests : List ℕ) (lemmas : List ℤ) where
  pub refused-sent : (r : Refusal) (p : ℕ) → sheet_in file ≡ refuse r p → (hints : List ℕ) (store marks : ℕ)
      → refused_with (refusal_number r) p ≡ forever_sent file zs requests lemmas hints store marks
  unfolding forever_sent forever_verdict ◌then◌ certificate_reply
  refused-sent r p e hints store marks = rw e

  pub refused-kept : (r : Refusal) (p : ℕ) → sheet_in file ≡ refuse r p → (store : List ℤ) → store ≡ forever_store file zs requests lemmas store
  unfolding forever_store forever_verdict ◌then◌ contents_after
  refused-kept r p e store = rw e

  pub taken-sent : sheet_in file ≡ Passed → (hints : List ℕ) (store marks : ℕ)
      → certificate_reply (test_room (store_need (length zs) (length requests) (length lemmas)) store) (step_found (net_in file) zs requests lemmas hints marks)
      ≡ forever_sent file zs requests lemmas hints store marks
  unfolding forever_sent forever_verdict ◌then◌
  taken-sent e hints store marks = rw e

  pub taken-store : sheet_in file ≡ Passed → (store : List ℤ)
      → contents_after (test_room (store_need (length zs) (length requests) (length lemmas)) (length store)) (step_formula (net_in file) zs requests ++ lemmas) store
      ≡ forever_store file zs requests lemmas store
  unfolding forever_store forever_verdict ◌then◌
  taken-store e store = rw e

  pub taken-scratch : sheet_in file ≡ Passed → (store marks : ℕ)
      → scratch_after (test_room (store_need (length zs) (length requests) (length lemmas)) store) (step_scratch (net_in file) zs marks)
      ≡ forever_scratch file zs (length requests) (length lemmas) store marks
  unfolding forever_scratch forever_verdict ◌then◌
  taken-scratch e store marks = rw e

refuted-found : (b : Bool) (found : Checked) → cond b found (Unjustified 0) ≡ Refuted → (b ≡ true) × (found ≡ Refuted)
refuted-found true found e = (refl, e)
refuted-found false found e = absurd (false≢true (ap is-refuted e))
  where
    is-refuted : Checked → Bool
    is-refuted Refuted = true
    is-refuted (Unjustified i) = false

-- a sheet that is certified: it is accepted, and its property holds for ever
pub certified-forever : (file : List ℕ) (zs : List ℤ) (requests : List ℕ) (lemmas : List ℤ) (hints : List ℕ) (store marks : ℕ)
    → (forever_sent file zs requests lemmas hints store marks).certified ≡ 1 → CertifiedForever file
unfolding forever_sent forever_verdict step_found
certified-forever file zs requests lemmas hints store marks e =
    let c = net_in file in
    let told = certified-reply _ _ e in
    let sheet = ((then-passes (sheet_in file) (test_room (store_need (length zs) (length requests) (length lemmas)) store)).0 told.0).0 in
    let accepted = (passed-sheet file 600 600 sheet).0 in
    let found = refuted-found (holds_at_start c zs) (checked (marks / 2) (step_formula c zs requests) lemmas hints) told.1 in
    record {
      net = c;
      is-sheet = sym (written_back file (passed-file file 600 600 sheet));
      accepted = accepted;
      safe = invariant→forever c accepted zs requests found.0 (refuted-unsatisfiable (marks / 2) (step_formula c zs requests) lemmas hints found.1);
    }
