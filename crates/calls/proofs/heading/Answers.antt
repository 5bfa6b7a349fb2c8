-- `calls::heading` meets its contract: what the call over unpacked lists answers is said of the lent lists. Demand 3 and its theorems, the
-- paths of refusal 6 and the starred facts are laws of what that call answers.
use Rattle.model.proofs.Dependence.{paths}
use Rattle.model.proofs.Claim.{encodes}
use Rattle.model.proofs.Stated.{stated}
use Rattle.model.proofs.Trace.{traced}
use Rattle.netlist_tests.proofs.Acceptance.{passes-accepted}
use Rattle.call_unpacked.proofs.Calls.{calls-encode, bounded}
use Rattle.calls.proofs.Lent.{net_of-lent}
use Rattle.calls.proofs.Starred.{starred}
use Rattle.calls.proofs.heading.Goals as goal

pub returns-clause-answer : goal.returns-clause-answer
returns-clause-answer c =
    let same = net_of-lent c.args.net c.args.latches.now c.args.gates.now _ _ c.unpack_latches.ensures c.unpack_gates.ensures in
    rw same at c.heading.ensures

pub returns-clause-claim : goal.returns-clause-claim
returns-clause-claim c = calls-encode _ _ _ _

pub returns-clause-paths : goal.returns-clause-paths
returns-clause-paths c = paths

pub returns-clause-accepted : goal.returns-clause-accepted
returns-clause-accepted c = passes-accepted

pub returns-clause-theorems : goal.returns-clause-theorems
returns-clause-theorems c = (encodes, stated, traced, bounded)

pub returns-clause-starred : goal.returns-clause-starred
returns-clause-starred c = starred
