-- The lists have no part in laws that use none of them, or one alone. No contract cites this file.
use Prim.Native.Nat.{ℕ}
use mathlib.Core.Path.{◌≡◌, refl}
use mathlib.Core.List.{List, []}
use Rattle.netlist.specs.declared.Netlist as R
use Rattle.netlist.specs.NetOf.{net_of, alone}
use Rattle.invariant_terms.specs.StateBits.{state_count, held_bit, word_bit}
use Rattle.invariant_laws.specs.LawForms.{pick}
use Rattle.invariant_axioms.specs.Laws.{constant_law, latch_law, next_law, fail_law, gate_law, read_pick, read_law, word_pick, word_law, match_law}

module _ (r : R.Netlist) (latches gates : List ℕ) where
  pub count-lists : state_count (alone r) ≡ state_count (net_of r latches gates)
  unfolding state_count net_of
  count-lists = refl

  pub circuit-lists : (k i : ℕ)
      → pick k (constant_law (alone r)) (latch_law (alone r) i) (next_law (net_of r latches []) i) (fail_law (alone r))
      ≡ pick k (constant_law (net_of r latches gates)) (latch_law (net_of r latches gates) i) (next_law (net_of r latches gates) i) (fail_law (net_of r latches gates))
  unfolding constant_law latch_law next_law fail_law state_count net_of
  circuit-lists k i = refl

  pub gate-lists : (k g : ℕ) → gate_law (net_of r [] gates) k g ≡ gate_law (net_of r latches gates) k g
  unfolding gate_law state_count net_of
  gate-lists k g = refl

  pub read-lists : (k i x : ℕ) → read_law (alone r) k i x ≡ read_law (net_of r latches gates) k i x
  unfolding read_law read_pick state_count held_bit word_bit net_of
  read-lists k i x = refl

  pub word-lists : (k t x : ℕ) → word_law (alone r) k t x ≡ word_law (net_of r latches gates) k t x
  unfolding word_law word_pick state_count word_bit net_of
  word-lists k t x = refl

  pub match-lists : (k i y : ℕ) → match_law (alone r) k i y ≡ match_law (net_of r latches gates) k i y
  unfolding match_law state_count net_of
  match-lists k i y = refl
