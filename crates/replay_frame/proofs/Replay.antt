-- Laws of specs/Replay.antt: the line of a frame. No contract cites this file.
use Prim.Native.Nat.{ℕ, suc, ◌+◌, ◌<◌}
use mathlib.Core.Path.{◌≡◌, refl, sym, ◌∙◌, ap}
use mathlib.Core.List.{List, [], ◌∷◌, ◌++◌, append_assoc}
use native.Mathlib.Omega.{arith}
use lib.ListN.{length, get_or, set, drop, length-append}
use lib.Seq.{drop-cons, set_at}
use Rattle.model.specs.Gather.{gather}
use Rattle.model.specs.Wrote.{over, Wrote}
use Rattle.model.specs.Netlist.{Netlist, last_wire}
use Rattle.model.specs.Circuit.{Values}
use Rattle.model.proofs.Gather.{length-gather, gather-same}
use Rattle.decimal.specs.Digits.{line_feed}
use Rattle.call_lists.specs.Delivered.{delivered}
use Rattle.replay_frame.specs.Replay.{digit_of, frame_line}

-- one element more behind those in front
set-behind : (xs old : List ℕ) (n y : ℕ) → length xs ≡ n → n < length old → set (over xs old) n y ≡ over (xs ++ y ∷ []) old
set-behind xs old n y e h =
    let longer : length (xs ++ y ∷ []) ≡ suc n = simp length-append (omega arith) in
    rw (longer, e, drop-cons old n 0 h) (set_at xs (get_or old n 0) (drop (suc n) old) y n e ∙ sym (append_assoc xs (y ∷ []) (drop (suc n) old)))

-- how long a line is
pub length-line : (c : Netlist) (v : Values) → length (frame_line c v) ≡ last_wire c + 1
unfolding frame_line
length-line c v =
    rw length-append (omega (arith, length-gather (last_wire c) 1 (λ w. digit_of (v (1 + w)) ∷ []) (λ t h. refl)))

-- all digits, and the line feed behind them
pub line-ended : (c : Netlist) (v : Values) (old : List ℕ) → last_wire c < length old
    → Wrote (frame_line c v) old (set (delivered (last_wire c) (λ w. digit_of (v (1 + w))) old) (last_wire c) line_feed) (last_wire c + 1)
unfolding frame_line delivered
line-ended c v old h =
    record {
      counted = sym (length-line c v);
      leaves = set-behind (gather (last_wire c) (λ w. digit_of (v (1 + w)) ∷ [])) old (last_wire c) line_feed
          (omega (arith, length-gather (last_wire c) 1 (λ w. digit_of (v (1 + w)) ∷ []) (λ t b. refl))) h;
    }

-- a line is of the values of the wires that there are
pub line_same : (c : Netlist) {u v : Values} → ((w : ℕ) → w < last_wire c + 1 → u w ≡ v w) → frame_line c u ≡ frame_line c v
unfolding frame_line
line_same c {u} {v} same =
    ap (λ xs. xs ++ line_feed ∷ [])
    (gather-same (last_wire c) (λ w. digit_of (u (1 + w)) ∷ []) (λ w. digit_of (v (1 + w)) ∷ []) (λ w h. rw (same (1 + w) (omega arith))))
