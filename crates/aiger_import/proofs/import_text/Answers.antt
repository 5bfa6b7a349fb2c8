-- `aiger_import::import_text` meets its contract: each test refuses, or the next one may assume what it has passed.

use mathlib.Core.Path.{◌≡◌, sym, ◌∙◌}
use Rattle.refusals.specs.Verdict.{Passed}
use Rattle.refusals.specs.declared.Refusal.TheVariants.{Size}
use Rattle.netlist.specs.RecordOf.{record_of}
use Rattle.netlist.specs.Faults.{size_fault}
use Rattle.netlist_tests.specs.Record.{test_lines, test_ports}
use Rattle.sheet_steps.specs.Lists.{Holds}
use Rattle.sheet_steps.proofs.Records.{outcome-refused, outcome-passed}
use Rattle.aiger_netlist.specs.TextNetlist.{text_sizes, aag_net}
use Rattle.aiger_netlist.specs.ImportVerdict.{text_verdict}
use Rattle.aiger_netlist.proofs.Verdict.{fits-interface}
use Rattle.aiger_import.specs.ImportCall.{imported_word}
use Rattle.aiger_import.proofs.Tested.{sizes-tested, ready, held, limits, port-tested, short-held, text-refused, sizes-refused, port-refused, room-refused, all-passed}
use Rattle.aiger_import.proofs.import_text.Goals as goal
use Rattle.aiger_import.proofs.import_text.Goals.{After-fill-net, After-test_ports-port, After-test_sizes-sized, After-text_sizes-sizes, In_default, In_default-sized}

-- the text has passed its own tests
text-passed : (c : In_default) →
    text_verdict c.args.text.now c.args.m c.args.n c.args.second_port ≡ Passed
text-passed c = sym c.test_text-tested.ensures ∙ c.in_default.is

-- the record of its sizes, with the word that is given
sizes-are : (c : After-text_sizes-sizes) →
    c.text_sizes-sizes.result ≡ record_of (text_sizes c.read_header-header.result.counts c.args.m c.args.n (imported_word c.args.word c.args.unknown) c.args.unknown c.args.second_port)
sizes-are c = rw c.given_word-given.ensures at c.text_sizes-sizes.ensures

-- its sizes, tested and passed
sizes-judged : (c : After-test_sizes-sized) →
    test_lines (aag_net c.args.text.now c.args.m c.args.n (imported_word c.args.word c.args.unknown) c.args.unknown c.args.second_port) Size size_fault ≡ c.test_sizes-sized.result
sizes-judged c =
    sizes-tested c.args.text.now c.args.m c.args.n (imported_word c.args.word c.args.unknown) c.args.unknown c.args.second_port c.read_header-header.result.counts c.read_header-header.ensures.counts-are c.text_sizes-sizes.result (rw c.given_word-given.ensures at c.text_sizes-sizes.ensures)
    c.test_sizes-sized.ensures

sizes-passed : (c : In_default-sized) →
    test_lines (aag_net c.args.text.now c.args.m c.args.n (imported_word c.args.word c.args.unknown) c.args.unknown c.args.second_port) Size size_fault ≡ Passed
sizes-passed c =
    sizes-tested c.args.text.now c.args.m c.args.n (imported_word c.args.word c.args.unknown) c.args.unknown c.args.second_port c.read_header-header.result.counts c.read_header-header.ensures.counts-are c.text_sizes-sizes.result (rw c.given_word-given.ensures at c.text_sizes-sizes.ensures)
    c.test_sizes-sized.ensures ∙ c.in_default-sized.is

-- the record and the lists hold its netlist
net-held : (c : After-fill-net) → text_verdict c.args.text.now c.args.m c.args.n c.args.second_port ≡ Passed
    → test_lines (aag_net c.args.text.now c.args.m c.args.n (imported_word c.args.word c.args.unknown) c.args.unknown c.args.second_port) Size size_fault ≡ Passed
    → Holds c.fill-net.result c.fill-net.new.latches c.fill-net.new.gates (aag_net c.args.text.now c.args.m c.args.n (imported_word c.args.word c.args.unknown) c.args.unknown c.args.second_port)
net-held c text sized =
    held c.args.text.now c.args.m c.args.n (imported_word c.args.word c.args.unknown) c.args.unknown c.args.second_port c.read_header-header.result.counts c.read_header-header.ensures.counts-are c.text_sizes-sizes.result (rw c.given_word-given.ensures at c.text_sizes-sizes.ensures)
    text sized _ _ _ c.fill-net.ensures

-- and its port is tested
port-judged : (c : After-test_ports-port) → text_verdict c.args.text.now c.args.m c.args.n c.args.second_port ≡ Passed
    → test_lines (aag_net c.args.text.now c.args.m c.args.n (imported_word c.args.word c.args.unknown) c.args.unknown c.args.second_port) Size size_fault ≡ Passed
    → test_ports (aag_net c.args.text.now c.args.m c.args.n (imported_word c.args.word c.args.unknown) c.args.unknown c.args.second_port) ≡ c.test_ports-port.result
port-judged c text sized =
    port-tested c.args.text.now c.args.m c.args.n (imported_word c.args.word c.args.unknown) c.args.unknown c.args.second_port c.read_header-header.result.counts c.read_header-header.ensures.counts-are c.text_sizes-sizes.result (rw c.given_word-given.ensures at c.text_sizes-sizes.ensures)
    text sized _ _ _ c.fill-net.ensures c.test_ports-port.ensures

pub returns-in-Err : goal.returns-in-Err
returns-in-Err c =
    rw c.refused.ensures
    (outcome-refused _ _ (aag_net c.args.text.now c.args.m c.args.n (imported_word c.args.word c.args.unknown) c.args.unknown c.args.second_port)
    (text-refused c.args.text.now c.args.m c.args.n (imported_word c.args.word c.args.unknown) c.args.unknown c.args.second_port c.args.latch_room c.args.gate_room
    (sym c.test_text-tested.ensures ∙ c.in-Err.is)))

pub text_sizes-sizes-requires : goal.text_sizes-sizes-requires
text_sizes-sizes-requires c =
    rw c.read_header-header.ensures.counts-are (fits-interface c.args.text.now c.args.m c.args.n c.args.second_port (text-passed (goal.at.text_sizes-sizes-requires c).In_default)).inputs-enough

pub returns-in-Err-sized : goal.returns-in-Err-sized
returns-in-Err-sized c =
    rw c.refused-in-Err-sized.ensures
    (outcome-refused _ _ (aag_net c.args.text.now c.args.m c.args.n (imported_word c.args.word c.args.unknown) c.args.unknown c.args.second_port)
    (sizes-refused c.args.text.now c.args.m c.args.n (imported_word c.args.word c.args.unknown) c.args.unknown c.args.second_port c.args.latch_room c.args.gate_room
    (text-passed (goal.at.returns-in-Err-sized c).In_default) (sizes-judged (goal.at.returns-in-Err-sized c).After-test_sizes-sized ∙ c.in-Err-sized.is)))

pub fill-net-requires : goal.fill-net-requires
fill-net-requires c = (
  c.read_header-header.ensures,
  ready c.args.text.now c.args.m c.args.n (imported_word c.args.word c.args.unknown) c.args.unknown c.args.second_port c.read_header-header.result.counts c.read_header-header.ensures.counts-are c.text_sizes-sizes.result (sizes-are (goal.at.fill-net-requires c).After-text_sizes-sizes)
      (text-passed (goal.at.fill-net-requires c).In_default) (sizes-passed (goal.at.fill-net-requires c).In_default-sized),
  c.requires.0,
  c.requires.1,
)

pub test_ports-port-requires : goal.test_ports-port-requires
test_ports-port-requires c =
    limits c.args.text.now c.args.m c.args.n (imported_word c.args.word c.args.unknown) c.args.unknown c.args.second_port c.read_header-header.result.counts c.read_header-header.ensures.counts-are c.text_sizes-sizes.result (sizes-are (goal.at.test_ports-port-requires c).After-text_sizes-sizes)
    (text-passed (goal.at.test_ports-port-requires c).In_default) (sizes-passed (goal.at.test_ports-port-requires c).In_default-sized) _ _ _ c.fill-net.ensures

pub returns-in-Err-port : goal.returns-in-Err-port
returns-in-Err-port c =
    rw c.refused-in-Err-port.ensures
    (outcome-refused _ _ (aag_net c.args.text.now c.args.m c.args.n (imported_word c.args.word c.args.unknown) c.args.unknown c.args.second_port)
    (port-refused c.args.text.now c.args.m c.args.n (imported_word c.args.word c.args.unknown) c.args.unknown c.args.second_port c.args.latch_room c.args.gate_room
    (text-passed (goal.at.returns-in-Err-port c).In_default) (sizes-passed (goal.at.returns-in-Err-port c).In_default-sized) (port-judged (goal.at.returns-in-Err-port c).After-test_ports-port (text-passed (goal.at.returns-in-Err-port c).In_default) (sizes-passed (goal.at.returns-in-Err-port c).In_default-sized) ∙ c.in-Err-port.is)))

pub returns-then-latch_room-net : goal.returns-then-latch_room-net
returns-then-latch_room-net c =
    let text = text-passed (goal.at.returns-then-latch_room-net c).In_default in
    let sized = sizes-passed (goal.at.returns-then-latch_room-net c).In_default-sized in
    let port = port-judged (goal.at.returns-then-latch_room-net c).After-test_ports-port text sized ∙ c.in_default-port.is in
    let short =
    short-held c.args.text.now c.args.m c.args.n (imported_word c.args.word c.args.unknown) c.args.unknown c.args.second_port c.read_header-header.result.counts c.read_header-header.ensures.counts-are c.text_sizes-sizes.result (sizes-are (goal.at.returns-then-latch_room-net c).After-text_sizes-sizes) text sized
    _ _ _ c.fill-net.ensures c.args.latch_room c.args.gate_room in
    rw c.refused-then-latch_room-net.ensures
    (outcome-refused _ _ (aag_net c.args.text.now c.args.m c.args.n (imported_word c.args.word c.args.unknown) c.args.unknown c.args.second_port)
    (room-refused c.args.text.now c.args.m c.args.n (imported_word c.args.word c.args.unknown) c.args.unknown c.args.second_port c.args.latch_room c.args.gate_room text sized port (sym short ∙ c.if-latch_room-net.true)))

pub returns : goal.returns
returns c =
    let text = text-passed (goal.at.returns c).In_default in
    let sized = sizes-passed (goal.at.returns c).In_default-sized in
    let port = port-judged (goal.at.returns c).After-test_ports-port text sized ∙ c.in_default-port.is in
    let short =
    short-held c.args.text.now c.args.m c.args.n (imported_word c.args.word c.args.unknown) c.args.unknown c.args.second_port c.read_header-header.result.counts c.read_header-header.ensures.counts-are c.text_sizes-sizes.result (sizes-are (goal.at.returns c).After-text_sizes-sizes) text sized
    _ _ _ c.fill-net.ensures c.args.latch_room c.args.gate_room in
    outcome-passed _ _ (aag_net c.args.text.now c.args.m c.args.n (imported_word c.args.word c.args.unknown) c.args.unknown c.args.second_port) c.fill-net.result (net-held (goal.at.returns c).After-fill-net text sized)
    (all-passed c.args.text.now c.args.m c.args.n (imported_word c.args.word c.args.unknown) c.args.unknown c.args.second_port c.args.latch_room c.args.gate_room text sized port (sym short ∙ c.if-latch_room-net.false))
