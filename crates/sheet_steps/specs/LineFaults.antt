-- Refusals 4 and 5 at one line (RULES T53, "line by line, at each line 2, then 3, then 4 or 5"). Cited by `test_stored`, sheet_steps/specs/Steps and
-- sheet_parse/specs/FileTests.
use Rattle.std.specs.Prelude.{ℕ}
use Rattle.refusals.specs.Verdict.{Verdict}
use Rattle.refusals.specs.Tests.{refuse_if, ◌then◌}
use Rattle.refusals.specs.declared.Refusal.TheVariants.{Size, CodeOutside}
use Rattle.model.specs.Netlist.{Netlist}
use Rattle.netlist.specs.Faults.{size_fault, code_fault}
use Rattle.netlist.specs.declared.Line.{Line}

-- 4 or 5 at line `due`, which stands at place p
unfoldable pub faults_at : Netlist → Line → ℕ → Verdict
faults_at c due p = refuse_if (size_fault c due) Size p then refuse_if (code_fault c due) CodeOutside p
