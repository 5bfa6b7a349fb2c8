-- What a sheet is answered with beside a verdict (RULES T43, "a record that is returned beside them is all zeros"). Cited by `refused`,
-- sheet_steps/specs/Steps, sheet_reader/specs/ReadCall and aiger_import/specs/ImportCall.
use Rattle.std.specs.Prelude.{ℕ}
use Rattle.refusals.specs.Verdict.{Verdict, refuse}
use Rattle.model.specs.Netlist as M
use Rattle.refusals.specs.Tests.{if_passed}
use Rattle.refusals.specs.declared.Refusal.{Refusal}
use Rattle.netlist.specs.RecordOf.{record_of, no_netlist}
use Rattle.netlist.specs.declared.Netlist.{Netlist}
use Rattle.sheet_steps.specs.declared.SheetAnswer.{SheetAnswer}

-- the netlist's record where nothing is refused, all zeros where something is
unfoldable pub record_beside : Verdict → M.Netlist → Netlist
record_beside v c = record_of (if_passed v c no_netlist)

-- a verdict with its record
abbrev pub sheet_answer : Verdict → M.Netlist → SheetAnswer
sheet_answer v c = record { verdict = v; net = record_beside v c }

-- a refusal with its record
abbrev pub refused_at : Refusal → ℕ → SheetAnswer
refused_at r p = record { verdict = refuse r p; net = record_of no_netlist }
