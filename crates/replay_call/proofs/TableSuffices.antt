-- `TableSuffices` of specs/Settled.antt: a replay looks at the variables 1 to B(k + 1) alone. No contract cites this file.
use Prim.Native.Nat.{ℕ, suc, ◌+◌, ◌/◌, ◌^◌, ◌≤◌, ◌<◌}
use mathlib.Core.Path.{◌≡◌, refl, sym, ◌∙◌, ap, ap₂}
use mathlib.Core.Bool.{Bool, not, ◌&&◌, ◌||◌}
use mathlib.Core.List.{List, [], ◌∷◌}
use native.Mathlib.Omega.{arith}
use lib.Dec.{eqb}
use lib.ListN.{length}
use lib.IntN.{ℤ}
use Rattle.std.specs.Prelude.{Ok, Err}
use Rattle.refusals.specs.Verdict.{Verdict, Passed}
use Rattle.model.specs.Search.{first_where, IsFirst}
use Rattle.model.specs.Netlist.{Netlist, ports, IsPort, port, input_wire, read_wire, last_wire}
use Rattle.model.specs.Circuit.{code_value}
use Rattle.model.specs.Acceptance.{Accepted, IsCode}
use Rattle.model.specs.Variables.{base}
use Rattle.model.specs.Claim.{feed_of, idle_of}
use Rattle.model.proofs.Bits.{from_bits-same}
use Rattle.model.proofs.Ports.{first-port, bit-within}
use Rattle.model.proofs.Search.{first_where-is, first-unique}
use Rattle.model.proofs.Gather.{gather-same}
use Rattle.model.proofs.Variables.{base-suc, base-monotone, base-most}
use Rattle.model.proofs.Circuit.{code_same}
use Rattle.refusals.specs.Tests.{if_passed}
use Rattle.refusals.proofs.Tests.{first_passes, rest-passes}
use Rattle.netlist_tests.specs.Record.{record_verdict}
use Rattle.netlist_tests.proofs.Acceptance.{passes-accepted}
use Rattle.call_unpacked.specs.Calls.{test_depth}
use Rattle.call_unpacked.proofs.Calls.{depth-passes}
use Rattle.call_lists.specs.Delivered.{delivered}
use Rattle.answer_signs.specs.Signs.{SignsOf}
use Rattle.answer_signs.proofs.Signs.{table-tells}
use Rattle.answer_lines.specs.declared.AnswerKind.{AnswerKind}
use Rattle.answer_lines.specs.declared.AnswerKind.TheVariants.{Malformed, Unsatisfiable, Satisfiable}
use Rattle.circuit_step.proofs.Alike.{InputsAlike, StatesAlike, states-same}
use Rattle.circuit_step.proofs.Touched.{any_same}
use Rattle.replay_frame.specs.Replay.{Said, said_in, word_said, start_words, replayed, replayed_state, fed_unclear, feed_fault, violates, first_violation, frame_line, trace_text}
use Rattle.replay_frame.proofs.Replay.{line_same}
use Rattle.replay_frame.proofs.SaidAlike.{IdlesAlike, SaidAlike, begun-alike, fills-said, words-alike, runs-alike}
use Rattle.replay_call.specs.ReplayCall.{replay_tests, fed_fault, run_verdict, outcome, words_left, unless_refused, replay_answer, replay_reply, replay_sent, replay_memory, trace_after, replay_trace}
use Rattle.replay_call.specs.Settled.{said_by}
use Rattle.replay_call.specs.Table.{TableSuffices}

-- the first place needs a property below the number alone
first-same : (n : ℕ) {f g : ℕ → Bool} → ((x : ℕ) → x < n → f x ≡ g x) → first_where f n ≡ first_where g n
first-same n {f} {g} same = first-unique moved (first_where-is g n)
  where
    q : IsFirst f n (first_where f n)
    q = first_where-is f n

    moved : IsFirst g n (first_where f n)
    moved =
        record {
          within = q.within;
          none_before = λ x h. sym (same x (omega (arith, q.within))) ∙ q.none_before x h;
          holds-there = λ h. sym (same (first_where f n) h) ∙ q.holds-there h;
        }

-- two that say the same of every variable of the file, 1 to B(k + 1) (RULES V6)
record SayAlike (c : Netlist) (k : ℕ) (y z : Said) : Type 0 where
  value-alike : (v : ℕ) → v ≤ base c (k + 1) → y.value v ≡ z.value v
  unclear-alike : (v : ℕ) → v ≤ base c (k + 1) → y.unclear v ≡ z.unclear v

module _ {c : Netlist} (ok : Accepted c) (k : ℕ) {y z : Said} (say : SayAlike c k y z) where
  -- a wire's variable in a frame to k is one of the file's
  within : (i w : ℕ) → i ≤ k → w ≤ last_wire c → base c i + w ≤ base c (k + 1)
  within i w h l = omega (arith, base-suc c i, base-monotone c {i = suc i} {j = k + 1} (omega arith))

  inputs : (i : ℕ) → i ≤ k → InputsAlike c (feed_of c y.value i) (feed_of c z.value i)
  unfolding feed_of
  inputs i h x l = say.value-alike (base c i + input_wire c x) (within i (input_wire c x) h (omega arith))

  reads-within : (i p : ℕ) → IsPort c p → (t : ℕ) → i ≤ k → t < c.n → base c i + read_wire c ((port c p).first_read + t) ≤ base c (k + 1)
  reads-within i p here t h l = within i (read_wire c ((port c p).first_read + t)) h (omega (arith, bit-within c p here t l))

  idles : (words : ℕ → ℕ) → IdlesAlike c y z words
  unfolding idle_of
  idles words p here r t l = say.value-alike (base c 0 + read_wire c ((port c p).first_read + t)) (reads-within 0 p here t (omega arith) l)

  said-alike : (i : ℕ) → i ≤ k + 1 → SaidAlike c y z i
  unfolding word_said
  said-alike i h =
      record {
        inputs-said = λ j l. inputs j (omega arith);
        words-said = λ j l f. from_bits-same c.n (λ t. y.value (base c j + read_wire c t)) (λ t. z.value (base c j + read_wire c t))
            (λ t b. say.value-alike (base c j + read_wire c t) (omega (arith, reads-within j 1 (first-port c) t (omega arith) b)));
        idle-said = λ l. idles;
      }

  runs : (i : ℕ) → i ≤ k → (w : ℕ) → w ≤ last_wire c → replayed c y i w ≡ replayed c z i w
  runs i h = runs-alike ok i (said-alike (suc i) (omega arith))

  codes : (i : ℕ) → i ≤ k → (x : ℕ) → IsCode c x → code_value (replayed c y i) x ≡ code_value (replayed c z i) x
  codes i h x l = code_same (replayed c y i) (replayed c z i) x (runs i h (x / 2) (omega arith))

  faults : fed_fault c y k ≡ fed_fault c z k
  unfolding feed_fault fed_unclear
  faults =
      any_same (k + 1) (λ i h.
      ap₂ ◌||◌ (any_same c.inputs (λ x l. say.unclear-alike (base c i + input_wire c x) (within i (input_wire c x) (omega arith) (omega arith))))
      (any_same (ports c) (λ x b.
      ap₂ ◌&&◌ (ap₂ (λ f r. f || (eqb i 0 && not r)) (fills-said ok i (said-alike i (omega arith)) (words-alike ok i (said-alike i (omega arith))) (inputs i (omega arith))) (codes i (omega arith) (port c (suc x)).RE (ok.limits.codes.RE-fits (suc x) (omega arith, b))))
      (any_same c.n (λ t l. say.unclear-alike (base c i + read_wire c ((port c (suc x)).first_read + t)) (reads-within i (suc x) (omega arith, b) t (omega arith) l))))))

  first : first_violation c y k ≡ first_violation c z k
  unfolding first_violation violates
  first = first-same (k + 1) (λ i h. ap not (codes i (omega arith) c.P ok.limits.codes.P-fits))

  lines-alike : trace_text c y k ≡ trace_text c z k
  unfolding trace_text
  lines-alike =
      gather-same (k + 1) (λ i. frame_line c (replayed c y i)) (λ i. frame_line c (replayed c z i))
      (λ i h. line_same c (λ w l. runs i (omega arith) w (omega arith)))

  words : (old : List ℕ)
      → delivered (2 ^ c.m) (replayed_state c y (k + 1)).memory old ≡ delivered (2 ^ c.m) (replayed_state c z (k + 1)).memory old
  unfolding delivered
  words old =
      let states : StatesAlike c (feed_of c y.value (k + 1)) (replayed_state c y (k + 1)) (replayed_state c z (k + 1))
      = states-same ok (feed_of c y.value) (feed_of c z.value) (begun-alike c y z (start_words c y (k + 1)) (start_words c z (k + 1)) (λ x b. words-alike ok (k + 1) (said-alike (k + 1) (omega arith)) x) (idles (start_words c y (k + 1)))) (k + 1) (λ j l. inputs j (omega arith)) in
      rw (gather-same (2 ^ c.m) (λ t. (replayed_state c y (k + 1)).memory t ∷ []) (λ t. (replayed_state c z (k + 1)).memory t ∷ []) (λ t h. rw (states.memory-alike t h)))

  outcome-alike : (kind : AnswerKind) → outcome c k kind y ≡ outcome c k kind z
  unfolding outcome run_verdict
  outcome-alike Malformed = refl
  outcome-alike Unsatisfiable = refl
  outcome-alike Satisfiable = rw (faults, first)

  left-alike : (kind : AnswerKind) (old : List ℕ) → words_left c k kind y old ≡ words_left c k kind z old
  unfolding words_left
  left-alike Malformed old = refl
  left-alike Unsatisfiable old = refl
  left-alike Satisfiable old = rw (faults, words old)

-- where a replay passes its tests, the netlist is accepted and the depth within its limit
accepted-at : (c : Netlist) (latch_count gate_count k words room : ℕ) → replay_tests c latch_count gate_count k words room ≡ Passed → Accepted c × (k ≤ 255)
unfolding replay_tests
accepted-at c latch_count gate_count k words room h =
    let rest = rest-passes (record_verdict c latch_count gate_count) _ h in
    (((passes-accepted c latch_count gate_count).0 (first_passes (record_verdict c latch_count gate_count) _ h)).0, depth-passes k (first_passes (test_depth k) _ rest))

-- the table says what the numbers say, of every variable of the file
table-says : {c : Netlist} {k : ℕ} {ys : List ℤ} {signs : List ℕ} → SignsOf ys signs → Accepted c × (k ≤ 255) → SayAlike c k (said_in signs) (said_by ys)
table-says {c} {k} {ys} {signs} is (ok, d) =
    let most : base c (k + 1) ≤ 1198081 = base-most c ok.limits.sizes (k + 1) (omega arith) in
    record {
      value-alike = λ v h. table-tells.true-is ys signs is v (omega arith);
      unclear-alike = λ v h. table-tells.unclear-is ys signs is v (omega arith);
    }

module _ (c : Netlist) (latch_count gate_count k : ℕ) (kind : AnswerKind) {y z : Said} (say : Accepted c × (k ≤ 255) → SayAlike c k y z) where
  answer-alike : (words room : ℕ) → replay_answer c latch_count gate_count k kind y words room ≡ replay_answer c latch_count gate_count k kind z words room
  unfolding replay_answer unless_refused
  answer-alike words room = by (replay_tests c latch_count gate_count k words room) refl
    where
      by : (v : Verdict) → replay_tests c latch_count gate_count k words room ≡ v → unless_refused v (outcome c k kind y) ≡ unless_refused v (outcome c k kind z)
      by (Ok _) e = let ok = accepted-at c latch_count gate_count k words room e in outcome-alike ok.0 k (say ok) kind
      by (Err f) e = refl

  memory-alike : (old : List ℕ) (room : ℕ) → replay_memory c latch_count gate_count k kind y old room ≡ replay_memory c latch_count gate_count k kind z old room
  unfolding replay_memory
  memory-alike old room = by (replay_tests c latch_count gate_count k (length old) room) refl
    where
      by : (v : Verdict) → replay_tests c latch_count gate_count k (length old) room ≡ v → if_passed v (words_left c k kind y old) old ≡ if_passed v (words_left c k kind z old) old
      by (Ok _) e = let ok = accepted-at c latch_count gate_count k (length old) room e in left-alike ok.0 k (say ok) kind old
      by (Err f) e = refl

  trace-alike : (words : ℕ) (old : List ℕ) → replay_trace c latch_count gate_count k kind y words old ≡ replay_trace c latch_count gate_count k kind z words old
  unfolding replay_trace replay_answer unless_refused trace_after
  trace-alike words old = by (replay_tests c latch_count gate_count k words (length old)) refl
    where
      by : (v : Verdict) → replay_tests c latch_count gate_count k words (length old) ≡ v
          → trace_after (unless_refused v (outcome c k kind y)) (trace_text c y k) old ≡ trace_after (unless_refused v (outcome c k kind z)) (trace_text c z k) old
      by (Ok _) e =
          let ok = accepted-at c latch_count gate_count k words (length old) e in
          ap₂ (λ a xs. trace_after a xs old) (outcome-alike ok.0 k (say ok) kind) (lines-alike ok.0 k (say ok))
      by (Err f) e = refl

pub table-suffices : TableSuffices
unfolding replay_sent
table-suffices c latch_count gate_count k kind ys signs is =
    record {
      same_sent = λ words room. ap replay_reply (answer-alike c latch_count gate_count k kind (table-says is) words room);
      same_memory = memory-alike c latch_count gate_count k kind (table-says is);
      same-trace = trace-alike c latch_count gate_count k kind (table-says is);
    }
