-- `aiger_codes::text_sizes` meets its contract: no code is 0 twelve and thirty-two times, and the read bits are among the inputs.

use native.Mathlib.Numerals.{add-one}
use Rattle.model.specs.Gather.{gather}
use Rattle.netlist.specs.RecordOf.{record_of}
use Rattle.aiger_codes.proofs.text_sizes.Goals as goal

pub returns : goal.returns
unfolding record_of gather
returns c = rw (add-one c.args.second_port)
