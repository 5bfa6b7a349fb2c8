-- What is certified of a sheet for every depth (RULES H2): all that has to be believed of such an answer. Cited by `certify_forever` and the exported call.
use Rattle.std.specs.Prelude.{ℕ, ◌≡◌, List}
use Rattle.model.specs.Netlist.{Netlist}
use Rattle.model.specs.Acceptance.{Accepted}
use Rattle.model.specs.Claim.{SafeForever}
use Rattle.sheet_text.specs.SheetText.{sheet_text}

-- it is the sheet of a netlist, byte for byte, which is accepted and whose property holds in every frame of every run
pub record CertifiedForever (file : List ℕ) : Type 0 where
  pub net : Netlist
  pub is-sheet : file ≡ sheet_text net
  pub accepted : Accepted net
  pub safe : SafeForever net
