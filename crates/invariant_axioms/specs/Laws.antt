-- The laws of one step that may be asked for (RULES H4), by family. None of this is believed: every law is proved to hold. Cited by what works them out of a
-- record and by what writes their clauses.
use Rattle.std.specs.Prelude.{ℕ, suc, ◌+◌, ◌-◌, ◌*◌, ◌/◌, ◌%◌, ◌^◌, cond, ◌&&◌, List, eqb, leb, ltb, ℤ, pos, length, get_or}
use Rattle.model.specs.Bits.{bit}
use Rattle.model.specs.Netlist.{Netlist, port, latch_wire, read_wire, gate_wire}
use Rattle.text_writer.specs.Signed.{parts_of}
use Rattle.invariant_terms.specs.StateBits.{state_count, held_bit, word_bit}
use Rattle.invariant_terms.specs.Walk.{is_end}
use Rattle.invariant_terms.specs.Terms.{state_term, term, code_term, opposite}
use Rattle.invariant_laws.specs.LawForms.{no_law, false_term, true_term, same, where_true, where_both, where_false, pick}
use Rattle.invariant_laws.specs.declared.Law.{Law}

-- match 32 y + i of word y, for i = 2 t + q: of no bits; and of one bit more, where that bit of the address, a code, is word y's, and where it is not
unfoldable pub match_pick : ℕ → ℕ → ℕ → ℕ → ℕ → Law
match_pick b k i y code =
    let own = code_term b code in
    let agree = cond (bit y (i / 2)) own (opposite own) in
    pick k (same b (term b 2 (32 * y + i % 2)) (true_term b)) (where_true agree (term b 2 (32 * y + i + 2)) (term b 2 (32 * y + i)))
    (where_false agree (term b 2 (32 * y + i + 2)) (false_term b))
    no_law

-- the number z at place h of the invariant, and behind its end: whether it fails from there on, with nothing found yet, and with something found
unfoldable pub place_law : ℕ → ℕ → ℕ → ℤ → Law
place_law b k h z =
    let after = term b 0 ((parts_of z).value - 1) + (parts_of z).sign in
    cond (is_end z)
    (pick k (same b (term b 3 h) (true_term b)) (same b (term b 4 h) (term b 3 (h + 1))) no_law no_law)
    (pick k (where_true after (term b 3 h) (term b 4 (h + 1))) (where_false after (term b 3 h) (term b 3 (h + 1))) (same b (term b 4 h) (term b 4 (h + 1))) no_law)

unfoldable pub last_law : ℕ → ℕ → ℕ → Law
last_law b k h = pick k (same b (term b 3 h) (false_term b)) (same b (term b 4 h) (false_term b)) no_law no_law

unfoldable pub invariant_law : ℕ → List ℤ → ℕ → ℕ → Law
invariant_law b zs k h = cond (ltb h (length zs)) (place_law b k h (get_or zs h (pos 0))) (last_law b k h)

module _ (c : Netlist) where
  abbrev b : ℕ
  b = state_count c

  -- the constants; a latch's wire; a latch behind the step; and P is false, or the invariant fails behind the step
  unfoldable pub constant_law : Law
  constant_law = where_false (true_term b) (false_term b) (true_term b)

  unfoldable pub latch_law : ℕ → Law
  latch_law l = cond (ltb l c.latches) (same b (term b 1 (latch_wire c l)) (state_term l)) no_law

  unfoldable pub next_law : ℕ → Law
  next_law l = cond (ltb l c.latches) (same b (term b 0 l) (code_term b (c.next l))) no_law

  unfoldable pub fail_law : Law
  fail_law = where_true (code_term b c.P) (term b 3 0) (true_term b)

  -- gate g by its two codes: it is the left one where the right one is true, and false where it is false; and the other way round
  unfoldable pub gate_law : ℕ → ℕ → Law
  gate_law k g =
      let own = term b 1 (gate_wire c g) in
      let left = code_term b (c.left g) in
      let right = code_term b (c.right g) in
      cond (ltb g c.gates)
      (pick k (where_true right own left) (where_false right own (false_term b)) (where_true left own right) (where_false left own (false_term b)))
      no_law

  -- read bit t of port q + 1: the bit held where nothing is read; the bit of word x where it is read; the bit to be held
  unfoldable pub read_pick : ℕ → ℕ → ℕ → ℕ → Law
  read_pick k q t x =
      let r = q * c.n + t in
      let re = code_term b (port c (suc q)).RE in
      pick k (where_false re (term b 1 (read_wire c r)) (state_term (held_bit c r)))
      (where_both re (term b 2 (32 * x + 2 * c.m + q)) (term b 1 (read_wire c r)) (state_term (word_bit c x t)))
      (same b (term b 0 (held_bit c r)) (term b 1 (read_wire c r)))
      no_law

  -- asked for as i = 2 t + q
  unfoldable pub read_law : ℕ → ℕ → ℕ → Law
  read_law k i x =
      cond (leb (i % 2) c.second_port && ltb (i / 2) c.n && ltb x (2 ^ c.m)) (read_pick k (i % 2) (i / 2) x) no_law

  -- bit t of word x behind the step: the bit written where it is written, the same where nothing is, and where it is written elsewhere
  unfoldable pub word_pick : ℕ → ℕ → ℕ → Law
  word_pick k t x =
      let after = term b 0 (word_bit c x t) in
      let before = state_term (word_bit c x t) in
      let match = term b 2 (32 * x + 2 * c.m) in
      let we = code_term b c.WE in
      pick k (where_both we match after (code_term b (c.write_data t))) (where_false we after before) (where_false match after before) no_law

  unfoldable pub word_law : ℕ → ℕ → ℕ → Law
  word_law k t x = cond (ltb t c.n && ltb x (2 ^ c.m)) (word_pick k t x) no_law

  -- match 32 y + i of word y, for i = 2 t + q
  unfoldable pub match_law : ℕ → ℕ → ℕ → Law
  match_law k i y =
      cond (leb (i % 2) c.second_port && ltb (i / 2) c.m && ltb y 4096) (match_pick b k i y ((port c (suc (i % 2))).address (i / 2))) no_law

  -- what a request asks for: 8 × the family + 2 × the law in it + its direction, and two indices
  unfoldable pub requested : List ℤ → ℕ → ℕ → ℕ → Law
  requested zs request i j =
      let family = request / 8 in
      let k = request / 2 % 4 in
      cond (eqb family 0) (pick k constant_law (latch_law i) (next_law i) fail_law)
      (cond (eqb family 1) (gate_law k i)
      (cond (eqb family 2) (read_law k i j)
      (cond (eqb family 3) (word_law k i j)
      (cond (eqb family 4) (match_law k i j) (cond (eqb family 5) (invariant_law b zs k i) no_law)))))
