-- What is known of a text once it has passed 11 to 13 and its sizes 4, and the table by which its codes are then renumbered. Cited by the
-- functions of this crate, and by no public contract.
use Rattle.std.specs.Prelude.{ℕ, ◌+◌, ◌<◌, ◌≡◌, List, length, get_or}
use Rattle.refusals.specs.Verdict.{Passed}
use Rattle.model.specs.Limits.{most_wires}
use Rattle.model.specs.Netlist as M
use Rattle.model.specs.Acceptance.{SizesFit}
use Rattle.netlist.specs.RecordOf.{record_of}
use Rattle.netlist.specs.declared.Netlist.{Netlist}
use Rattle.aiger_lines.specs.Parts.{counts_in}
use Rattle.aiger_lines.specs.Steps.{Behind}
use Rattle.aiger_netlist.specs.TextNetlist.{text_sizes}
use Rattle.aiger_netlist.specs.ImportVerdict.{text_verdict}
use Rattle.aiger_netlist.specs.TextAig.{text_aig}
use Rattle.aiger_codes.specs.WireTable.{WireTable}

-- the sizes of a text, with the caller's numbers in a record
abbrev pub sizes_of_text : List ℕ → Netlist → M.Netlist
sizes_of_text s r = text_sizes (counts_in s) r.m r.n r.initial_word r.unknown_start r.second_port

-- a text that passes 11 to 13, and the record of its sizes, which are within their limits
pub record TextReady (s : List ℕ) (r : Netlist) : Type 0 where
  pub text-passes : text_verdict s r.m r.n r.second_port ≡ Passed
  pub sizes-are : r ≡ record_of (sizes_of_text s r)
  pub sizes-fit : SizesFit (sizes_of_text s r)

-- a table of a text's first numbers by wire, with its outputs behind the last wire that there may be; its latches' lines begin at byte
-- `latches`, and its gates' at byte `gates`
pub record TableFor (s : List ℕ) (r : Netlist) (table : List ℕ) (latches gates : ℕ) : Type 0 where
  pub full : length table ≡ 661
  pub wires : WireTable s (sizes_of_text s r) table
  pub outputs : (o : ℕ) → o < (counts_in s).outputs → get_or table (most_wires + 1 + o) 0 ≡ (text_aig s).output o
  pub latches-behind : Behind s (1 + (counts_in s).inputs) latches
  pub gates-behind : Behind s (1 + (counts_in s).inputs + (counts_in s).latches + (counts_in s).outputs) gates
