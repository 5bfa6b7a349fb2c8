-- Laws of specs/Certificate.antt and Certified.antt: which test decides, what lies in the store, and that what is certified holds. No contract cites this
-- file.
use Prim.Native.Nat.{ℕ, ◌+◌, ◌*◌, ◌/◌, ◌≤◌, ◌<◌}
use mathlib.Core.Path.{◌≡◌, refl, ◌∙◌, ap}
use mathlib.Core.List.{List, ◌++◌}
use native.Mathlib.Omega.{arith}
use lib.IntN.{ℤ}
use lib.ListN.{length, take, drop, length-append, length-drop}
use lib.Seq.{length-take-le, take_at, drop_at, take-append_seam, drop-append_seam}
use Rattle.std.specs.Prelude.{Ok, Err}
use Rattle.refusals.specs.Verdict.{Verdict, Passed, refuse}
use Rattle.model.specs.Netlist.{Netlist}
use Rattle.model.specs.Variables.{base}
use Rattle.model.specs.Numbers.{formula}
use Rattle.model.specs.Wrote.{over}
use Rattle.model.specs.Claim.{Satisfies}
use Rattle.model.proofs.Claim.{encodes, unsatisfiable→safe}
use Rattle.refusals.specs.Refusal.{reply_of}
use Rattle.refusals.specs.Tests.{◌then◌}
use Rattle.refusals.specs.Slices.{test_room, contents_after}
use Rattle.refusals.specs.declared.Refusal.TheVariants.{NoRoom}
use Rattle.refusals.proofs.Slices.{room-enough, room-short, room-shown}
use Rattle.refusals.proofs.Tests.{then-passes}
use Rattle.netlist.specs.declared.Netlist as R
use Rattle.netlist.specs.NetOf.{net_of, alone}
use Rattle.netlist.proofs.NetOf.{base-lists}
use Rattle.sheet_lines.specs.Depth.{depth_verdict, depth_line}
use Rattle.sheet_parse.specs.Files.{net_in}
use Rattle.sheet_tests.proofs.Codes.{passed-sheet, passed-file}
use Rattle.sheet_text.specs.SheetText.{input_text}
use Rattle.sheet_text.proofs.WriteBack.{written_back}
use Rattle.sheet_text.proofs.DepthText.{depth-text}
use Rattle.program_input.specs.Input.{sheet_in, input_verdict, input_answer}
use Rattle.program_input.specs.declared.Input.{Input}
use Rattle.refutation_lemmas.specs.Refutation.{checked}
use Rattle.refutation_lemmas.specs.declared.Checked.{Checked}
use Rattle.refutation_lemmas.specs.declared.Checked.TheVariants.{Refuted, Unjustified}
use Rattle.refutation_lemmas.proofs.Soundness.{refuted-unsatisfiable}
use Rattle.refutation_depth.specs.Certified.{CertifiedInput}
use Rattle.refutation_depth.specs.Certificate.{marks_need, room_verdict, certify_verdict, found_of, refused_with, certificate_reply, certificate_sent, store_after, scratch_after, marks_scratch}

-- the lists have no part in the need of marks
pub marks-lists : (r : R.Netlist) (latches gates : List ℕ) (k : ℕ) → marks_need (alone r) k ≡ marks_need (net_of r latches gates) k
unfolding marks_need
marks-lists r latches gates k = ap (λ (x : ℕ). 2 * (x + 1)) (base-lists r latches gates (k + 1))

-- the need of marks has a variable for each two
marks-half : (c : Netlist) (k : ℕ) → marks_need c k / 2 ≡ base c (k + 1) + 1
unfolding marks_need
marks-half c k = omega arith

module _ (c : Netlist) (k lemmas store marks : ℕ) where
  -- the store is too short
  pub store-short : store < length (formula c k) + lemmas → room_verdict c k lemmas store marks ≡ refuse NoRoom 0
  unfolding room_verdict ◌then◌
  store-short h = rw (room-short (length (formula c k) + lemmas) store h)

  -- the marks are
  pub marks-short : length (formula c k) + lemmas ≤ store → marks < marks_need c k → room_verdict c k lemmas store marks ≡ refuse NoRoom 0
  unfolding room_verdict ◌then◌
  marks-short l h = rw (room-enough (length (formula c k) + lemmas) store l, room-short (marks_need c k) marks h)

  -- there is room, and that a pass has shown it
  pub both-enough : length (formula c k) + lemmas ≤ store → marks_need c k ≤ marks → room_verdict c k lemmas store marks ≡ Passed
  unfolding room_verdict ◌then◌
  both-enough l h = rw (room-enough (length (formula c k) + lemmas) store l, room-enough (marks_need c k) marks h)

  pub both-shown : room_verdict c k lemmas store marks ≡ Passed → (length (formula c k) + lemmas ≤ store) × (marks_need c k ≤ marks)
  unfolding room_verdict
  both-shown e =
      let parts = (then-passes (test_room (length (formula c k) + lemmas) store) (test_room (marks_need c k) marks)).0 e in
      (room-shown (length (formula c k) + lemmas) store parts.0, room-shown (marks_need c k) marks parts.1)

-- two lists at the start of a store, one behind the other
module _ (xs lemmas old store : List ℤ) (is : store ≡ over (xs ++ lemmas) old) where
  pub laid-length : length xs + length lemmas ≤ length old → length store ≡ length old
  laid-length h = ap length is ∙ simp (length-append, length-drop) (omega arith)

  laid_both : take (length xs + length lemmas) store ≡ xs ++ lemmas
  laid_both = rw is (take_at (xs ++ lemmas) (drop (length (xs ++ lemmas)) old) (length xs + length lemmas) (length-append xs lemmas))

  pub laid-found : (n front : ℕ) (hints : List ℕ) (found : Checked) → front ≡ length xs
      → found ≡ checked n (take front (take (front + length lemmas) store)) (drop front (take (front + length lemmas) store)) hints
      → found ≡ checked n xs lemmas hints
  laid-found n front hints found ef e = e ∙ rw (ef, laid_both, take-append_seam xs lemmas, drop-append_seam xs lemmas)

-- what is found of the lemmas behind the formula, with as many marks as are needed
pub depth-found : (c : Netlist) (k : ℕ) (lemmas old store : List ℤ) (marks hints : List ℕ) (front need : ℕ) (found : Checked)
    → front ≡ length (formula c k) → store ≡ over (formula c k ++ lemmas) old → need ≡ marks_need c k → need ≤ length marks
    → found ≡ checked (length (take need marks) / 2) (take front (take (front + length lemmas) store)) (drop front (take (front + length lemmas) store)) hints
    → found ≡ found_of c k lemmas hints
unfolding found_of
depth-found c k lemmas old store marks hints front need found ef es en room e =
    laid-found (formula c k) lemmas old store es (base c (k + 1) + 1) front hints found ef (e ∙ rw (length-take-le need marks room, en, marks-half c k))

-- marks of which the first are lent: those behind them stay
pub behind-kept : (wanted need : ℕ) (old part : List ℕ) → need ≡ wanted → need ≤ length old → length part ≡ length (take need old)
    → drop wanted (part ++ drop need old) ≡ drop wanted old
behind-kept wanted need old part e room same = rw (← e) (drop_at part (drop need old) need (same ∙ length-take-le need old room))

-- the input is refused
module _ (w : Verdict) where
  refused-reply : (v : Verdict) (found : Checked) → ((reply_of v).number ≡ 0 → ⊥)
      → certificate_reply (v then w) found ≡ refused_with (reply_of v).number (reply_of v).place
  unfolding certificate_reply ◌then◌
  refused-reply (Ok _) found h = absurd (h refl)
  refused-reply (Err e) found h = refl

  refused-store : (v : Verdict) (xs old : List ℤ) → ((reply_of v).number ≡ 0 → ⊥) → contents_after (v then w) xs old ≡ old
  unfolding contents_after ◌then◌
  refused-store (Ok _) xs old h = absurd (h refl)
  refused-store (Err e) xs old h = refl

module _ (s : List ℕ) (r : Input) (e : r ≡ input_answer s) (h : r.number ≡ 0 → ⊥) where
  number_is : r.number ≡ (reply_of (input_verdict s)).number
  unfolding input_answer
  number_is = ap (λ (i : Input). i.number) e

  place_is : r.place ≡ (reply_of (input_verdict s)).place
  unfolding input_answer
  place_is = ap (λ (i : Input). i.place) e

  pub refused-sent : (lemmas : List ℤ) (hints : List ℕ) (store marks : ℕ) → certificate_sent s lemmas hints store marks ≡ refused_with r.number r.place
  unfolding certificate_sent certify_verdict
  refused-sent lemmas hints store marks = refused-reply _ (input_verdict s) _ (λ none. h (number_is ∙ none)) ∙ rw (number_is, place_is)

  pub refused-kept : (lemmas store : List ℤ) (marks : ℕ) → store_after s lemmas store marks ≡ store
  unfolding store_after certify_verdict
  refused-kept lemmas store marks = refused-store _ (input_verdict s) _ store (λ none. h (number_is ∙ none))

-- the input is taken
module _ (s : List ℕ) (e : input_verdict s ≡ Passed) where
  pub taken-sent : (lemmas : List ℤ) (hints : List ℕ) (store marks : ℕ)
      → certificate_sent s lemmas hints store marks
      ≡ certificate_reply (room_verdict (net_in (drop 11 s)) (depth_line s).depth (length lemmas) store marks) (found_of (net_in (drop 11 s)) (depth_line s).depth lemmas hints)
  unfolding certificate_sent certify_verdict ◌then◌
  taken-sent lemmas hints store marks = rw e

  pub taken-store : (lemmas store : List ℤ) (marks : ℕ)
      → store_after s lemmas store marks
      ≡ contents_after (room_verdict (net_in (drop 11 s)) (depth_line s).depth (length lemmas) (length store) marks) (formula (net_in (drop 11 s)) (depth_line s).depth ++ lemmas) store
  unfolding store_after certify_verdict ◌then◌
  taken-store lemmas store marks = rw e

  pub taken-scratch : (lemmas store marks : ℕ)
      → marks_scratch s lemmas store marks
      ≡ scratch_after (room_verdict (net_in (drop 11 s)) (depth_line s).depth lemmas store marks) (marks_need (net_in (drop 11 s)) (depth_line s).depth)
  unfolding marks_scratch certify_verdict ◌then◌
  taken-scratch lemmas store marks = rw e

-- what is certified was found, and nothing refused
pub certified-reply : (v : Verdict) (found : Checked) → (certificate_reply v found).certified ≡ 1 → (v ≡ Passed) × (found ≡ Refuted)
unfolding certificate_reply
certified-reply (Ok _) Refuted e = (refl, refl)
certified-reply (Ok _) (Unjustified i) e = absurd (omega (arith, e))
certified-reply (Err f) found e = absurd (omega (arith, e))

-- an input that is certified: its sheet is accepted, and as its formula has no model, no run breaks the property
pub certified-input : (s : List ℕ) (lemmas : List ℤ) (hints : List ℕ) (store marks : ℕ) → (certificate_sent s lemmas hints store marks).certified ≡ 1 → CertifiedInput s
unfolding certificate_sent certify_verdict input_verdict found_of Satisfies input_text
certified-input s lemmas hints store marks e =
    let c = net_in (drop 11 s) in
    let k = (depth_line s).depth in
    let told = certified-reply _ _ e in
    let input = ((then-passes (input_verdict s) (room_verdict c k (length lemmas) store marks)).0 told.0).0 in
    let both = (then-passes (depth_verdict s) (sheet_in (drop 11 s))).0 input in
    let accepted = (passed-sheet (drop 11 s) 600 600 both.1).0 in
    record {
      depth = k;
      net = c;
      is-input = rw (written_back (drop 11 s) (passed-file (drop 11 s) 600 600 both.1)) (depth-text s both.0);
      accepted = accepted;
      safe = unsatisfiable→safe (encodes c accepted k) (refuted-unsatisfiable (base c (k + 1) + 1) (formula c k) lemmas hints told.1);
    }
