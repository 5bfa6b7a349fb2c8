-- The replay of a solver's answer (RULES Y1, Y5, Y6 and Y11 to Y14): the model's run, fed what the answer says of the inputs, of the
-- idle word and of the words of an unknown start that are read. Cited by the functions that replay and by what the call promises
-- (replay_call/specs/ReplayCall).
use Rattle.std.specs.Prelude.{ℕ, zero, suc, ◌+◌, ◌*◌, ◌^◌, ◌≤◌, ◌<◌, ◌≡◌, Bool, true, false, cond, not, ◌&&◌, ◌||◌, List, [], ◌∷◌, ◌++◌, eqb}
use Rattle.model.specs.Search.{any_below, first_where}
use Rattle.model.specs.Gather.{gather}
use Rattle.model.specs.Bits.{from_bits}
use Rattle.model.specs.Netlist.{Netlist, is_unknown, start, Port, ports, IsPort, port, read_bits, input_wire, read_wire, last_wire}
use Rattle.model.specs.Circuit.{Values, code_value, State, Feeds, address_of, state_at, run, Starts}
use Rattle.model.specs.Acceptance.{Accepted}
use Rattle.model.specs.Agree.{given_word}
use Rattle.model.specs.Variables.{base}
use Rattle.model.specs.Numbers.{Assignment}
use Rattle.model.specs.Claim.{feed_of, idle_of}
use Rattle.decimal.specs.Digits.{line_feed}
use Rattle.circuit_step.specs.Touched.{touched_before}
use Rattle.answer_signs.specs.Signs.{true_in, unclear_in}

-- what an answer says of each variable: whether it is true (RULES Q5), and whether that is unclear (RULES Q6)
pub record Said : Type 0 where
  pub value : Assignment
  pub unclear : ℕ → Bool

-- by a table of signs
abbrev pub said_in : List ℕ → Said
said_in signs = record { value = true_in signs; unclear = unclear_in signs }

-- the state that the run begins in from a memory: each latch at its reset, and the idle word that is said (RULES C2 and C18)
unfoldable pub begun_from : Netlist → Said → (ℕ → ℕ) → State
begun_from c y words = record { latch = λ l. eqb (c.reset l) 1; memory = words; held = idle_of c y.value }

-- the model's run from it, fed the inputs that are said
abbrev pub run_from : Netlist → Said → (ℕ → ℕ) → ℕ → Values
run_from c y words = run c (begun_from c y words) (feed_of c y.value)

-- of that run: the state in which frame i begins, its address, and whether a frame before it reads or writes the word at x
abbrev pub state_from : Netlist → Said → (ℕ → ℕ) → ℕ → State
state_from c y words = state_at c (begun_from c y words) (feed_of c y.value)

abbrev pub address_from : Netlist → Said → (ℕ → ℕ) → ℕ → ℕ
address_from c y words i = address_of c (port c 1) (run_from c y words i)

abbrev pub touched_from : Netlist → Said → (ℕ → ℕ) → ℕ → ℕ → Bool
touched_from c y words = touched_before c (begun_from c y words) (feed_of c y.value)

-- frame i of that run reads a word of an unknown start: one that no frame before it reads or writes (RULES Y12)
unfoldable pub fills_from : Netlist → Said → (ℕ → ℕ) → ℕ → Bool
fills_from c y words i =
    is_unknown (start c) && (code_value (run_from c y words i) (port c 1).RE && not (touched_from c y words i (address_from c y words i)))

-- the word of n read bits that is said of frame i: an unknown start has one port
unfoldable pub word_said : Netlist → Said → ℕ → ℕ
word_said c y i = from_bits c.n (λ t. y.value (base c i + read_wire c t))

-- The memory that the replay begins with, as far as its first i frames tell: the given word or, where the start is unknown, 0 but for what
-- they fill. A frame that reads a word of an unknown start fills it with the read bits that are said of it (RULES Y12)
unfoldable pub start_words : Netlist → Said → ℕ → ℕ → ℕ
start_words c y zero x = given_word (start c)
start_words c y (suc i) x =
    cond (fills_from c y (start_words c y i) i && eqb x (address_from c y (start_words c y i) i)) (word_said c y i) (start_words c y i x)

-- frame i fills a word
abbrev pub fills : Netlist → Said → ℕ → Bool
fills c y i = fills_from c y (start_words c y i) i

-- Frame i of the replay, and the state in which it begins: the model's run from the memory filled so far. Nothing else of the answer
-- counts (RULES Y11). What later frames fill does not change it: it is one run from one memory (`OneRun`)
abbrev pub replayed : Netlist → Said → ℕ → Values
replayed c y i = run_from c y (start_words c y (suc i)) i

abbrev pub replayed_state : Netlist → Said → ℕ → State
replayed_state c y i = state_from c y (start_words c y i) i

-- The frames 0 to k of the replay are those of one run from a state that a run may begin in, and what frame k leaves is what that run
-- leaves. A frame of that run that reads a word of an unknown start, which no frame before it reads or writes, reads what is said of its read
-- bits; a word that no frame reads or writes ends as the initial word or, where the start is unknown, as 0 (RULES Y12). Promised by
-- `marrubigai_replay`; the proof is in proofs/OneRun.antt
pub record OneRun (c : Netlist) (y : Said) (k : ℕ) : Type 0 where
  pub starts : Starts c (begun_from c y (start_words c y (k + 1)))
  pub frames : (i : ℕ) → i ≤ k → replayed c y i ≡ run_from c y (start_words c y (k + 1)) i
  pub leaves : replayed_state c y (k + 1) ≡ state_from c y (start_words c y (k + 1)) (k + 1)
  pub fills-as-said : (i : ℕ) → i ≤ k → fills_from c y (start_words c y (k + 1)) i ≡ true
      → (t : ℕ) → t < read_bits c → replayed c y i (read_wire c t) ≡ y.value (base c i + read_wire c t)
  pub untouched : (x : ℕ) → touched_from c y (start_words c y (k + 1)) (k + 1) x ≡ false
      → (replayed_state c y (k + 1)).memory x ≡ given_word (start c)

abbrev pub OneRunTheorem : Type 0
OneRunTheorem = (c : Netlist) → Accepted c → (y : Said) (k : ℕ) → OneRun c y k

-- Room: a run's memory is 2^m words of n bits (RULES C23). No frame has another address, and no word is longer. Promised by
-- `marrubigai_replay`, to which 2^m words are lent; the proof is in proofs/OneRun.antt
abbrev pub RoomTheorem : Type 0
RoomTheorem = (c : Netlist) → Accepted c → (s : State) (f : Feeds) (i : ℕ)
    → ((p : ℕ) → IsPort c p → address_of c (port c p) (run c s f i) < 2 ^ c.m) × (Starts c s → (x : ℕ) → (state_at c s f i).memory x < 2 ^ c.n)

-- RULES Y13: an input of frame i is unclear; or a port's read bit where its RE is false in frame 0, with the values v of the frame that is
-- stepped, or where the frame fills a word
abbrev pub read_unclear : Netlist → (ℕ → Bool) → ℕ → Bool → Values → Port → Bool
read_unclear c unclear i filled v p =
    (filled || (eqb i 0 && not (code_value v p.RE))) && any_below c.n (λ t. unclear (base c i + read_wire c (p.first_read + t)))

unfoldable pub fed_unclear : Netlist → (ℕ → Bool) → ℕ → Bool → Values → Bool
fed_unclear c unclear i filled v =
    any_below c.inputs (λ x. unclear (base c i + input_wire c x))
    || any_below (ports c) (λ x. read_unclear c unclear i filled v (port c (suc x)))

unfoldable pub feed_fault : Netlist → Said → ℕ → Bool
feed_fault c y i = fed_unclear c y.unclear i (fills c y i) (replayed c y i)

-- P is false in frame i
unfoldable pub violates : Netlist → Said → ℕ → Bool
violates c y i = not (code_value (replayed c y i) c.P)

-- the first frame up to k that breaks the property; k + 1 if none does
unfoldable pub first_violation : Netlist → Said → ℕ → ℕ
first_violation c y k = first_where (violates c y) (k + 1)

-- a frame's line: the digits 0 and 1 of all wires, wire 1 first
abbrev pub digit_of : Bool → ℕ
digit_of b = cond b 49 48

unfoldable pub frame_line : Netlist → Values → List ℕ
frame_line c v = gather (last_wire c) (λ w. digit_of (v (1 + w)) ∷ []) ++ line_feed ∷ []

-- the lines of frames 0 to k
unfoldable pub trace_text : Netlist → Said → ℕ → List ℕ
trace_text c y k = gather (k + 1) (λ i. frame_line c (replayed c y i))

-- how many bytes these have
abbrev pub trace_length : Netlist → ℕ → ℕ
trace_length c k = (k + 1) * (last_wire c + 1)

-- The replay bears out the assignment a: every wire of every frame 0 to k is as assigned, and one of these frames breaks the property. Cited by
-- the promise about right answers (replay_call/specs/RightAnswer)
pub record BearsOut (c : Netlist) (y : Said) (k : ℕ) (a : Assignment) : Type 0 where
  pub as-assigned : (i : ℕ) → i ≤ k → (w : ℕ) → 1 ≤ w → w ≤ last_wire c → a (base c i + w) ≡ replayed c y i w
  pub breaks : first_violation c y k ≤ k
