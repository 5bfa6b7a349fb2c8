-- What the call that checks a certificate for every depth answers and leaves (RULES H5 and H6): its tests, what is found of the invariant and the lemmas, and both as one
-- reply. Cited by `certify_forever` and the exported call.
use Rattle.std.specs.Prelude.{ℕ, ◌+◌, ◌*◌, ◌/◌, cond, List, ◌++◌, ℤ, length}
use Rattle.refusals.specs.Verdict.{Verdict}
use Rattle.model.specs.Netlist.{Netlist}
use Rattle.refusals.specs.Tests.{◌then◌}
use Rattle.refusals.specs.Slices.{test_room, contents_after}
use Rattle.sheet_parse.specs.Files.{net_in}
use Rattle.program_input.specs.Input.{sheet_in}
use Rattle.refutation_lemmas.specs.Refutation.{checked}
use Rattle.refutation_lemmas.specs.declared.Checked.{Checked}
use Rattle.refutation_lemmas.specs.declared.Checked.TheVariants.{Unjustified}
use Rattle.refutation_depth.specs.Certificate.{certificate_reply, scratch_after}
use Rattle.refutation_depth.specs.declared.CertificateReply.{CertificateReply}
use Rattle.invariant_formula.specs.Formula.{step_formula}
use Rattle.invariant_formula.specs.AtStart.{holds_at_start}

-- what the store is to have room for: a clause of five numbers for each request, the invariant and the lemmas
unfoldable pub store_need : ℕ → ℕ → ℕ → ℕ
store_need invariant requests lemmas = requests / 3 * 5 + invariant + lemmas

-- the tests of the sheet, then 9 for the store
unfoldable pub forever_verdict : List ℕ → ℕ → ℕ → ℕ → ℕ → Verdict
forever_verdict file invariant requests lemmas store = sheet_in file then test_room (store_need invariant requests lemmas) store

-- what is found: of an invariant that fails at the start nothing
unfoldable pub step_found : Netlist → List ℤ → List ℕ → List ℤ → List ℕ → ℕ → Checked
step_found c invariant requests lemmas hints marks =
    cond (holds_at_start c invariant) (checked (marks / 2) (step_formula c invariant requests) lemmas hints) (Unjustified 0)

unfoldable pub forever_sent : List ℕ → List ℤ → List ℕ → List ℤ → List ℕ → ℕ → ℕ → CertificateReply
forever_sent file invariant requests lemmas hints store marks =
    certificate_reply (forever_verdict file (length invariant) (length requests) (length lemmas) store)
    (step_found (net_in file) invariant requests lemmas hints marks)

-- what is in the store then
unfoldable pub forever_store : List ℕ → List ℤ → List ℕ → List ℤ → List ℤ → List ℤ
forever_store file invariant requests lemmas store =
    contents_after (forever_verdict file (length invariant) (length requests) (length lemmas) (length store))
    (step_formula (net_in file) invariant requests ++ lemmas) store

-- how many of the marks are scratch: none where the invariant fails at the start, else all (RULES H6)
unfoldable pub step_scratch : Netlist → List ℤ → ℕ → ℕ
step_scratch c invariant marks = cond (holds_at_start c invariant) marks 0

unfoldable pub forever_scratch : List ℕ → List ℤ → ℕ → ℕ → ℕ → ℕ → ℕ
forever_scratch file invariant requests lemmas store marks =
    scratch_after (forever_verdict file (length invariant) requests lemmas store) (step_scratch (net_in file) invariant marks)
