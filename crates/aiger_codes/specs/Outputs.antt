-- How the outputs of a text are put into a record (RULES I6 and I12: address codes, write-data codes, of a second port address codes and RE, then
-- WE, RE and P), as codes by a table that has them behind the last wire that there may be. Cited by the functions that do so, and by no public contract.
use Rattle.std.specs.Prelude.{ℕ, ◌+◌, ◌*◌, ◌≡◌, cond, List, ltb, length, get_or}
use Rattle.model.specs.Limits.{most_wires, most_address_bits, most_data_bits}
use Rattle.model.specs.Network.{renamed}
use Rattle.literals.specs.declared.Code.{Code}
use Rattle.netlist.specs.NetOf.{code_of}
use Rattle.netlist.specs.RecordOf.{up_to}
use Rattle.netlist.specs.declared.Netlist.{Netlist}
use Rattle.aiger_graph.specs.RecordAig.{control_output}
use Rattle.aiger_codes.specs.WireTable.{wire_found}

-- output o as a code by a table
unfoldable pub output_code : List ℕ → ℕ → ℕ
output_code table o = renamed (wire_found table) (get_or table (most_wires + 1 + o) 0)

-- an array of so many codes, of which the first `count` are f's and the others 0
pub record Coded (size count : ℕ) (f : ℕ → ℕ) (codes : List Code) : Type 0 where
  pub full : length codes ≡ size
  pub has : code_of codes ≡ up_to count f

-- a record with other codes: of address, write data and a second port's address, and WE, RE, P and a second port's RE
abbrev pub with_codes : Netlist → List Code → List Code → List Code → Code → Code → Code → Code → Netlist
with_codes net address write_data second we re p re2 =
    record {
      inputs = net.inputs;
      latches = net.latches;
      gates = net.gates;
      m = net.m;
      n = net.n;
      initial_word = net.initial_word;
      unknown_start = net.unknown_start;
      second_port = net.second_port;
      address = address;
      write_data = write_data;
      we = we;
      re = re;
      p = p;
      address2 = second;
      re2 = re2;
    }

-- with some of these
abbrev pub with_address : Netlist → List Code → Netlist
with_address net codes = with_codes net codes net.write_data net.address2 net.we net.re net.p net.re2

abbrev pub with_data : Netlist → List Code → Netlist
with_data net codes = with_codes net net.address codes net.address2 net.we net.re net.p net.re2

abbrev pub with_second : Netlist → List Code → Netlist
with_second net codes = with_codes net net.address net.write_data codes net.we net.re net.p net.re2

abbrev pub with_control : Netlist → ℕ → ℕ → ℕ → ℕ → Netlist
with_control net we re p re2 =
    with_codes net net.address net.write_data net.address2 (record { 0 = we }) (record { 0 = re }) (record { 0 = p }) (record { 0 = re2 })

-- the first m outputs are the record's address codes; the n behind them its write-data codes
pub record AddressPut (net : Netlist) (table : List ℕ) (r : Netlist) : Type 0 where
  pub others : r ≡ with_address net r.address
  pub codes : Coded most_address_bits net.m (output_code table) r.address

pub record DataPut (net : Netlist) (table : List ℕ) (r : Netlist) : Type 0 where
  pub others : r ≡ with_data net r.write_data
  pub codes : Coded most_data_bits net.n (λ t. output_code table (net.m + t)) r.write_data

-- the m behind these the address codes of a second port, where there is one, and the next its RE
pub record SecondPut (net : Netlist) (table : List ℕ) (r : Netlist) : Type 0 where
  pub others : r ≡ with_second net r.address2
  pub codes : Coded most_address_bits (net.second_port * net.m) (λ t. output_code table (net.m + net.n + t)) r.address2

abbrev pub enable_code : Netlist → List ℕ → ℕ
enable_code net table = cond (ltb 0 net.second_port) (output_code table (net.m + net.n + net.m)) 0

-- and the last three are WE, RE and P: the record r with them, by the sizes of net
abbrev pub control_put : Netlist → List ℕ → Netlist → Netlist
control_put net table r =
    let control = control_output net.m net.n net.second_port in
    with_control r (output_code table control) (output_code table (control + 1)) (output_code table (control + 2)) (enable_code net table)

pub record OutputsPut (net : Netlist) (table : List ℕ) (r : Netlist) : Type 0 where
  pub others : r ≡ control_put net table (with_second (with_data (with_address net r.address) r.write_data) r.address2)
  pub address-codes : Coded most_address_bits net.m (output_code table) r.address
  pub data-codes : Coded most_data_bits net.n (λ t. output_code table (net.m + t)) r.write_data
  pub second-codes : Coded most_address_bits (net.second_port * net.m) (λ t. output_code table (net.m + net.n + t)) r.address2
