-- Laws of specs/WhereRoom.antt: nothing put yet, what a writer put, and one list behind another. No contract cites this file.
use Prim.Native.Nat.{ℕ, ◌+◌, ◌-◌, ◌≤◌, ◌<◌}
use mathlib.Core.Path.{◌≡◌, refl, sym, ◌∙◌, subst}
use mathlib.Core.List.{List, [], ◌++◌}
use native.Mathlib.Omega.{arith}
use lib.ListN.{length, length-append}
use borrow.Rule.Slice.PartMut.{mid_of, put_mid, same_len_mid, mid_len}
use Rattle.model.specs.Wrote.{Wrote, over}
use Rattle.model.proofs.Wrote.{wrote-length, wrote_then}
use Rattle.refutation_formula.specs.WhereRoom.{PutWhereRoom}

module _ {A : Type 0} where
  -- nothing put yet
  pub put-nothing : (old : List A) → PutWhereRoom [] old old 0
  put-nothing old = record { counted = refl; same_length = refl; put = λ h. refl }

  -- what a writer with room has written, and what is not written without
  pub put-wrote : {xs old new : List A} {n : ℕ} (r : ℕ) → r ≡ length xs → r ≤ length old → Wrote xs old new n → PutWhereRoom xs old new r
  put-wrote r e h w = record { counted = e; same_length = wrote-length w (omega (arith, e, h)); put = λ l. w.leaves }

  pub put-not : (xs old : List A) (r : ℕ) → r ≡ length xs → length old < r → PutWhereRoom xs old old r
  put-not xs old r e h = record { counted = e; same_length = refl; put = λ l. absurd (omega (arith, e, h, l)) }

  -- where there was room, it is written
  pub wrote-put : {xs old new : List A} {r : ℕ} → PutWhereRoom xs old new r → length xs ≤ length old → Wrote xs old new r
  wrote-put p h = record { counted = p.counted; leaves = p.put h }

  -- one list, and then another into the rest of the slice, from where the first one ends, or from the slice's end
  pub put_then : (a b old mid part : List A) (i from j : ℕ) → from ≤ length mid → (i ≤ length mid → from ≡ i) → PutWhereRoom a old mid i
      → PutWhereRoom b (mid_of from (length mid - from) mid) part j → PutWhereRoom (a ++ b) old (put_mid from (length mid - from) mid part) (i + j)
  put_then a b old mid part i from j within here first second =
      record {
        counted = rw (length-append, first.counted, second.counted);
        same_length = same_len_mid from (length mid - from) mid part second.same_length ∙ first.same_length;
        put = λ h.
            let long : length a + length b ≤ length old = simp length-append at h in
            let at : from ≡ i = here (omega (arith, long, first.counted, first.same_length)) in
            let rest : length (mid_of from (length mid - from) mid) ≡ length mid - from = mid_len from (length mid) mid (omega arith) in
            let room : length b ≤ length (mid_of from (length mid - from) mid) = omega (arith, rest, at, long, first.counted, first.same_length) in
            let more : Wrote b (mid_of i (length mid - i) mid) part j = subst (λ (x : ℕ). Wrote b (mid_of x (length mid - x) mid) part j) at (wrote-put second room) in
            let both = wrote_then a b old mid part i j (wrote-put first (omega (arith, long))) more in
            subst (λ (x : ℕ). put_mid x (length mid - x) mid part ≡ over (a ++ b) old) (sym at) both.leaves;
      }
