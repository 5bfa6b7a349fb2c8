-- The claim about the table of specs/Starred.antt, proved by computation. No contract cites this file.
use mathlib.Core.Path.{refl}
use Rattle.model.specs.Bits.{odd, bit}
use Rattle.model.specs.Netlist.{start_of}
use Rattle.model.specs.Circuit.{sweep, is_read, either_wire, depends_on_read}
use Rattle.model.specs.Gather.{gather, gather_down}
use Rattle.model.specs.Clauses.{neg, and_clauses, same_if_clauses, bit_clauses, address_bit_clauses, unequal_of, all_bits, forwarded_clauses, agreed_reads, pair_clauses, initial_read_clauses, initial_reads, held_clauses, held_reads, selected_of, some_source, closing_clauses}
use Rattle.model.specs.Variables.{base, pair_base, wire_at, code_at, none_since_of, selected, read_bit, pair_literals, closing_literals}
use Rattle.model.specs.Groups.{violation_of, clauses_of, at_ports, frame_groups, group_order, in_depth}
use Rattle.model.specs.Numbers.{kept_of, kept, is_true, has_true, end_of, written_clause, written, numbers_of, joined, formula, split_after, clauses_in}
use Rattle.model.specs.Search.{any_below, seen}
use Rattle.refusals.specs.Tests.{◌then◌, in_order}
use Rattle.netlist.specs.Places.{line_at}
use Rattle.netlist.specs.Faults.{start_fault, size_fault, code_fault, is_tied, tie_fault, loop_fault_by}
use Rattle.netlist_tests.specs.Record.{test_lines, record_verdict}
use Rattle.refusals.specs.Slices.{test_room}
use Rattle.call_unpacked.specs.Calls.{test_depth, test_group, group_verdict, heading_verdict}
use Rattle.decimal.specs.Digits.{digits_within, digits, field}
use Rattle.decimal.specs.TextValue.{same_text, value_after, number_in}
use Rattle.sheet_fields.specs.Fields.{drop_spaces, filled_with, behind_spaces, field_of}
use Rattle.sheet_lines.specs.Letters.{kind_of, content_of}
use Rattle.sheet_lines.specs.Lines.{field_in, all_as_wanted, line_with, line_of}
use Rattle.sheet_lines.specs.Depth.{depth_field, field_verdict, depth_verdict}
use Rattle.sheet_steps.specs.LineFaults.{faults_at}
use Rattle.sheet_parse.specs.Files.{line_in, sizes_in, net_of_lines, net_in}
use Rattle.sheet_parse.specs.FileTests.{ragged, test_read, test_line_in}
use Rattle.sheet_tests.specs.Sheet.{end_verdict, file_verdict, sheet_verdict}
use Rattle.calls.specs.Starred.{sheet, net, rows, Starred}

pub starred : Starred
unfolding odd bit sweep is_read either_wire depends_on_read neg gather gather_down and_clauses same_if_clauses bit_clauses address_bit_clauses unequal_of all_bits
    forwarded_clauses agreed_reads pair_clauses initial_read_clauses initial_reads held_clauses held_reads selected_of some_source closing_clauses base pair_base wire_at code_at none_since_of
    selected read_bit pair_literals closing_literals violation_of clauses_of at_ports frame_groups group_order in_depth kept_of
    kept is_true has_true end_of written_clause written numbers_of joined formula split_after clauses_in ◌then◌ in_order line_at start_of start_fault size_fault code_fault seen any_below is_tied tie_fault loop_fault_by test_lines
    record_verdict test_depth test_group test_room group_verdict heading_verdict digits_within digits field same_text
    value_after number_in drop_spaces filled_with behind_spaces field_of kind_of content_of field_in all_as_wanted line_with line_of
    depth_field field_verdict depth_verdict faults_at line_in sizes_in net_of_lines net_in ragged test_read test_line_in end_verdict
    file_verdict sheet_verdict sheet net rows
starred = refl
