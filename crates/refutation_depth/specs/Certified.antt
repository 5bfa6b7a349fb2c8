-- What is certified of an input (RULES U2): all that has to be believed of an answer that certifies. Cited by `certify` and the exported call.
use Rattle.std.specs.Prelude.{ℕ, ◌≡◌, List}
use Rattle.model.specs.Netlist.{Netlist}
use Rattle.model.specs.Acceptance.{Accepted}
use Rattle.model.specs.Claim.{Safe}
use Rattle.sheet_text.specs.SheetText.{input_text}

-- it is a depth and the sheet of a netlist, byte for byte, which is accepted and safe to that depth
pub record CertifiedInput (s : List ℕ) : Type 0 where
  pub depth : ℕ
  pub net : Netlist
  pub is-input : s ≡ input_text depth net
  pub accepted : Accepted net
  pub safe : Safe net depth
