-- `call_source::has_source` meets its contract.

use Rattle.call_source.proofs.has_source.Goals as goal

pub returns : goal.returns
returns c = rw (c.is_in_depth.ensures, c.port_in.ensures)
