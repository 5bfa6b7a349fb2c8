-- What the call that checks a certificate answers and leaves (RULES U6 to U8): its tests, what is found of the lemmas, and both as one reply. Cited by
-- `certify` and the exported call.
use Rattle.std.specs.Prelude.{ℕ, ◌+◌, ◌*◌, ◌≡◌, List, ◌++◌, ℤ, length, drop, Ok, Err}
use Rattle.refusals.specs.Verdict.{Verdict}
use Rattle.model.specs.Netlist.{Netlist}
use Rattle.model.specs.Variables.{base}
use Rattle.model.specs.Numbers.{formula}
use Rattle.refusals.specs.Refusal.{refusal_number}
use Rattle.refusals.specs.Tests.{◌then◌}
use Rattle.refusals.specs.Slices.{test_room, contents_after}
use Rattle.sheet_lines.specs.Depth.{depth_line}
use Rattle.sheet_parse.specs.Files.{net_in}
use Rattle.program_input.specs.Input.{input_verdict}
use Rattle.refutation_lemmas.specs.Refutation.{checked}
use Rattle.refutation_lemmas.specs.declared.Checked.{Checked}
use Rattle.refutation_lemmas.specs.declared.Checked.TheVariants.{Refuted, Unjustified}
use Rattle.refutation_depth.specs.declared.CertificateReply.{CertificateReply}

-- RULES U6: "2 × (B(k + 1) + 1)" marks
unfoldable pub marks_need : Netlist → ℕ → ℕ
marks_need c k = 2 * (base c (k + 1) + 1)

-- RULES U6: "9 for the store, .. then 9 for the marks"
unfoldable pub room_verdict : Netlist → ℕ → ℕ → ℕ → ℕ → Verdict
room_verdict c k lemmas store marks = test_room (length (formula c k) + lemmas) store then test_room (marks_need c k) marks

-- RULES U6: "It tests the input by P4", then those
unfoldable pub certify_verdict : List ℕ → ℕ → ℕ → ℕ → Verdict
certify_verdict s lemmas store marks = input_verdict s then room_verdict (net_in (drop 11 s)) (depth_line s).depth lemmas store marks

-- what is found of lemmas behind the formula, whose variables are 1 to B(k + 1) (RULES U3 to U5)
unfoldable pub found_of : Netlist → ℕ → List ℤ → List ℕ → Checked
found_of c k lemmas hints = checked (base c (k + 1) + 1) (formula c k) lemmas hints

-- a verdict and what is found as a reply (RULES U7)
abbrev pub refused_with : ℕ → ℕ → CertificateReply
refused_with number place = record { number = number; place = place; certified = 0; lemma = 0 }

unfoldable pub certificate_reply : Verdict → Checked → CertificateReply
certificate_reply (Err e) found = refused_with (refusal_number e.0) e.1
certificate_reply (Ok _) Refuted = record { number = 0; place = 0; certified = 1; lemma = 0 }
certificate_reply (Ok _) (Unjustified i) = record { number = 0; place = 0; certified = 0; lemma = i }

unfoldable pub certificate_sent : List ℕ → List ℤ → List ℕ → ℕ → ℕ → CertificateReply
certificate_sent s lemmas hints store marks =
    certificate_reply (certify_verdict s (length lemmas) store marks) (found_of (net_in (drop 11 s)) (depth_line s).depth lemmas hints)

-- what is in the store then (RULES U8)
unfoldable pub store_after : List ℕ → List ℤ → List ℤ → ℕ → List ℤ
store_after s lemmas store marks =
    contents_after (certify_verdict s (length lemmas) (length store) marks) (formula (net_in (drop 11 s)) (depth_line s).depth ++ lemmas) store

-- how many of the marks are scratch: at a refusal none, else those that are needed (RULES U8)
unfoldable pub scratch_after : Verdict → ℕ → ℕ
scratch_after (Ok _) need = need
scratch_after (Err e) need = 0

unfoldable pub marks_scratch : List ℕ → ℕ → ℕ → ℕ → ℕ
marks_scratch s lemmas store marks = scratch_after (certify_verdict s lemmas store marks) (marks_need (net_in (drop 11 s)) (depth_line s).depth)

-- the marks behind those that are scratch are as they were
abbrev pub KeptBehind : ℕ → List ℕ → List ℕ → Type 0
KeptBehind scratch old new = drop scratch new ≡ drop scratch old
