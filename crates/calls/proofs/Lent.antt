-- A list unpacked over zeros stands for the same netlist as the list: behind a list every code reads as 0. No contract cites this
-- file.
use Prim.Native.Nat.{ℕ, ◌+◌, ◌*◌}
use mathlib.Core.Path.{◌≡◌}
use mathlib.Core.List.{List}
use lib.ListN.{replicate}
use Rattle.netlist.specs.NetOf.{code_of, net_of}
use Rattle.netlist.specs.declared.Netlist.{Netlist}
use Rattle.model.specs.Wrote.{over}
use Rattle.call_lists.specs.Lent.{net_lent}
use Rattle.call_lists.specs.Unpacked.{latch_codes, gate_codes}
use Rattle.call_lists.specs.declared.LatchEntry.{LatchEntry}
use Rattle.call_lists.specs.declared.GateEntry.{GateEntry}
use Rattle.call_lists.proofs.Unpacked.{get_d_over}

pub net_of-unpacked : (n : ℕ) (net : Netlist) (latches gates : List ℕ)
    → net_of net (over latches (replicate n 0)) (over gates (replicate n 0)) ≡ net_of net latches gates
unfolding net_of
net_of-unpacked n net latches gates = λ i.
    record {
      inputs = net.inputs;
      latches = net.latches;
      gates = net.gates;
      m = net.m;
      n = net.n;
      initial_word = net.initial_word;
      unknown_start = net.unknown_start;
      second_port = net.second_port;
      next = λ l. get_d_over latches n (2 * l) i;
      reset = λ l. get_d_over latches n (2 * l + 1) i;
      left = λ g. get_d_over gates n (2 * g) i;
      right = λ g. get_d_over gates n (2 * g + 1) i;
      address = code_of net.address;
      write_data = code_of net.write_data;
      WE = net.we.0;
      RE = net.re.0;
      P = net.p.0;
      address2 = code_of net.address2;
      RE2 = net.re2.0;
    }

-- so do two local lists of zeros into which both lent lists are unpacked
pub net_of-lent : (net : Netlist) (latches : List LatchEntry) (gates : List GateEntry) (latches' gates' : List ℕ)
    → latches' ≡ over (latch_codes latches) (replicate 1200 0) → gates' ≡ over (gate_codes gates) (replicate 1200 0)
    → net_of net latches' gates' ≡ net_lent net latches gates
net_of-lent net latches gates latches' gates' e f =
    rw (e, f) (net_of-unpacked 1200 net (latch_codes latches) (gate_codes gates))
