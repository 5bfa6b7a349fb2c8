-- Lines and their places: a line that a netlist has stands at one place, and the place says which line it is. Cited by the laws of
-- reading line by line.
use Prim.Native.Nat.{ℕ, zero, suc, ◌+◌, ◌-◌, ◌*◌, ◌≤◌, ◌<◌}
use mathlib.Core.Path.{◌≡◌, refl, sym, ◌∙◌}
use mathlib.Core.Bool.{Bool, true, false, cond}
use mathlib.Core.Logic.{◌↔◌, ◌⊎◌, inl, inr, ⊎_elim, by_cases}
use mathlib.Core.List.{[], ◌∷◌}
use native.Mathlib.Nat.{zero-mul, one-mul}
use native.Mathlib.Decide.{dec_lt}
use native.Mathlib.Omega.{arith}
use lib.Dec.{eqb, leb, ltb}
use lib.ListN.{get_or}
use borrow.Author.Tests.{eq-eqb, eqb-true, le-ltb}
use Rattle.model.specs.Netlist.{Netlist}
use Rattle.model.specs.Acceptance.{SizesFit}
use Rattle.model.specs.Agree.{SameSizes}
use Rattle.model.proofs.Agree.{same_at}
use Rattle.model.proofs.Booleans.{and-true, not-true-false}
use Rattle.netlist.specs.Places.{memory_line, latch_line, gate_line, address_line, data_line, second_address_line, second_enable_line, control_line, line_at, HasLine}
use Rattle.netlist.specs.Faults.{size_fault}
use Rattle.netlist.specs.declared.Line.{Line}
use Rattle.netlist.specs.declared.Line.TheVariants.{Sizes, Memory, Latch, Gate, Address, WriteData, SecondAddress, SecondEnable, Control}
use Rattle.netlist.proofs.Places.{at-sizes, at-memory, at-latch, at-gate, at_address, at-data, at-second-address, at-second-enable, at-control, has-line_at}
use Rattle.sheet_lines.specs.Letters.{row_of}
use Rattle.sheet_steps.specs.Due.{kind_due}
use Rattle.sheet_steps.specs.LineIndex.{line_index, room_for, same_line}
use Rattle.sheet_steps.specs.Steps.{SizesKnown}

-- the row of a line's kind
abbrev pub row_of_line : Line → ℕ
row_of_line x = row_of (kind_due x)

-- the place of the first line in a row, and how many lines a row has; M and T are both line 2
abbrev first_in_row : Netlist → ℕ → ℕ
first_in_row c row =
    get_or (1 ∷ 2 ∷ 2 ∷ 3 ∷ (3 + c.latches) ∷ (3 + c.latches + c.gates) ∷ (3 + c.latches + c.gates + c.m) ∷ (3 + c.latches + c.gates + c.m + c.n) ∷ second_enable_line c ∷ control_line c ∷ []) row 0

abbrev pub size_of_row : Netlist → ℕ → ℕ
size_of_row c row = get_or (1 ∷ 1 ∷ 1 ∷ c.latches ∷ c.gates ∷ c.m ∷ c.n ∷ c.second_port * c.m ∷ c.second_port ∷ 1 ∷ []) row 0

-- where a line stands
abbrev pub place_of : Netlist → Line → ℕ
place_of c x = first_in_row c (row_of_line x) + line_index x

-- a line that the netlist has is below its row's size
abbrev pub InRow : Netlist → Line → Type 0
InRow c x = line_index x < size_of_row c (row_of_line x)

-- a second port or none: how many lines it has
port-lines : (s k : ℕ) → s ≤ 1 → ((s ≡ 0) × (s * k ≡ 0)) ⊎ ((s ≡ 1) × (s * k ≡ k))
port-lines zero k h = inl (refl, zero-mul k)
port-lines (suc zero) k h = inr (refl, one-mul k)
port-lines (suc (suc s)) k h = absurd (omega arith)

-- a line is the same as itself
same_line-self : (x : Line) → same_line x x ≡ true
same_line-self x = rw (eq-eqb (row_of_line x) (row_of_line x) refl, eq-eqb (line_index x) (line_index x) refl)

-- lines that are the same have the same place and are both in their row
module _ (c : Netlist) (x y : Line) (h : same_line x y ≡ true) where
  same_row : row_of_line x ≡ row_of_line y
  same_row = eqb-true (row_of_line x) (row_of_line y) ((and-true (eqb (row_of_line x) (row_of_line y)) (eqb (line_index x) (line_index y))).0 h).0

  same_number : line_index x ≡ line_index y
  same_number = eqb-true (line_index x) (line_index y) ((and-true (eqb (row_of_line x) (row_of_line y)) (eqb (line_index x) (line_index y))).0 h).1

  same_place : place_of c x ≡ place_of c y
  same_place = rw (same_row, same_number)

  same-in_row : InRow c x → InRow c y
  same-in_row b = rw (← same_row, ← same_number) b

-- of a netlist with one port or two
module _ (c : Netlist) (one : c.second_port ≤ 1) where
  -- a line is in its row where the netlist has it
  pub second-address : (t : ℕ) → (t < c.second_port * c.m) ↔ ((0 < c.second_port) × (t < c.m))
  second-address t =
      ⊎_elim (λ (none : (c.second_port ≡ 0) × (c.second_port * c.m ≡ 0)). (λ h. absurd (omega arith), λ h. absurd (omega arith)))
      (λ (is : (c.second_port ≡ 1) × (c.second_port * c.m ≡ c.m)). (λ h. (omega arith, omega arith), λ h. omega arith))
      (port-lines c.second_port c.m one)

  in_row-of-has_line : (x : Line) → HasLine c x → InRow c x
  in_row-of-has_line Sizes h = omega arith
  in_row-of-has_line Memory h = omega arith
  in_row-of-has_line (Latch l) h = h
  in_row-of-has_line (Gate g) h = h
  in_row-of-has_line (Address t) h = h
  in_row-of-has_line (WriteData t) h = h
  in_row-of-has_line (SecondAddress t) h = (second-address t).1 h
  in_row-of-has_line SecondEnable h = h
  in_row-of-has_line Control h = omega arith

  in_row-at : (p : ℕ) → InRow c (line_at c p)
  in_row-at p = in_row-of-has_line (line_at c p) (has-line_at c p)

  -- a second port's lines end at line C
  second-end : (0 < c.second_port → control_line c ≡ second_enable_line c + 1) × (second_address_line c 0 < control_line c → 0 < c.second_port)
  second-end =
      ⊎_elim (λ (none : (c.second_port ≡ 0) × (c.second_port * (c.m + 1) ≡ 0)). (λ h. absurd (omega arith), λ h. absurd (omega arith)))
      (λ (is : (c.second_port ≡ 1) × (c.second_port * (c.m + 1) ≡ c.m + 1)). (λ h. omega arith, λ h. omega arith))
      (port-lines c.second_port (c.m + 1) one)

  -- the line at a line's place is the line
  line_at-place : (x : Line) → InRow c x → line_at c (place_of c x) ≡ x
  line_at-place Sizes h = at-sizes c 1 (omega arith)
  line_at-place Memory h = at-memory c 2 refl
  line_at-place (Latch l) h = at-latch c (3 + l) l h refl
  line_at-place (Gate g) h = at-gate c (gate_line c g) g h refl
  line_at-place (Address t) h = at_address c (address_line c t) t h refl
  line_at-place (WriteData t) h = at-data c (data_line c t) t h refl
  line_at-place (SecondAddress t) h =
      let has = (second-address t).0 h in at-second-address c (second_address_line c t) has.0 t has.1 refl
  line_at-place SecondEnable h =
      at-second-enable c (second_enable_line c + 0) (omega arith) (omega (arith, second-end.0 h))
  line_at-place Control h = at-control c (control_line c + 0) (omega arith)

  -- the place of the line at a place is the place
  pub place-line_at : (p : ℕ) → 1 ≤ p → p ≤ control_line c → place_of c (line_at c p) ≡ p
  place-line_at p h b =
      by_cases (dec_lt p memory_line) (λ s. rw (at-sizes c p s) (omega arith)) λ s.
      by_cases (dec_lt p (latch_line c 0)) (λ m. rw (at-memory c p (omega arith)) (omega arith)) λ m.
      by_cases (dec_lt p (gate_line c 0)) (λ l. rw (at-latch c p (p - latch_line c 0) (omega arith) (omega arith)) (omega arith)) λ l.
      by_cases (dec_lt p (address_line c 0)) (λ g. rw (at-gate c p (p - gate_line c 0) (omega arith) (omega arith)) (omega arith)) λ g.
      by_cases (dec_lt p (data_line c 0)) (λ a. rw (at_address c p (p - address_line c 0) (omega arith) (omega arith)) (omega arith)) λ a.
      by_cases (dec_lt p (second_address_line c 0)) (λ d. rw (at-data c p (p - data_line c 0) (omega arith) (omega arith)) (omega arith)) λ d.
      by_cases (dec_lt p (control_line c)) (second (omega arith)) (λ e. rw (at-control c p (omega arith)) (omega arith))
    where
      second : second_address_line c 0 ≤ p → p < control_line c → place_of c (line_at c p) ≡ p
      second d e =
          let some : 0 < c.second_port = second-end.1 (omega arith) in
          by_cases (dec_lt p (second_enable_line c))
          (λ a. rw (at-second-address c p some (p - second_address_line c 0) (omega arith) (omega arith)) (omega arith))
          (λ r. rw (at-second-enable c p (omega arith) e) (omega (arith, second-end.0 some)))

  -- the line at a place is the one that stands there
  module _ (p : ℕ) (h : 1 ≤ p) (b : p ≤ control_line c) (x : Line) where
    pub same_line-here : InRow c x → p ≡ place_of c x → same_line (line_at c p) x ≡ true
    same_line-here r e = rw (e, line_at-place x r) (same_line-self x)

    pub same_line-elsewhere : (p ≡ place_of c x → ⊥) → same_line (line_at c p) x ≡ false
    same_line-elsewhere n =
        not-true-false (same_line (line_at c p) x) (λ s. n (sym (place-line_at p h b) ∙ same_place c (line_at c p) x s))

    pub same_line-none : (InRow c x → ⊥) → same_line (line_at c p) x ≡ false
    same_line-none n =
        not-true-false (same_line (line_at c p) x) (λ s. n (same-in_row c (line_at c p) x s (in_row-at p)))

-- what holds of every line of codes holds of each line from line 3 on
either : (P : Line → Type 0) (b : Bool) {x y : Line} → P x → P y → P (cond b x y)
either P true h k = h
either P false h k = k

pub codes-from-3 : (c : Netlist) (p : ℕ) (P : Line → Type 0) → 3 ≤ p → ((l : ℕ) → P (Latch l)) → ((g : ℕ) → P (Gate g)) → ((t : ℕ) → P (Address t)) → ((t : ℕ) → P (WriteData t)) → ((t : ℕ) → P (SecondAddress t)) → P SecondEnable → P Control → P (line_at c p)
unfolding line_at
codes-from-3 c p P h latch gate address write_data address2 enable2 control =
    rw (le-ltb p memory_line (omega arith), le-ltb p (latch_line c 0) (omega arith))
    (either P (ltb p (gate_line c 0)) (latch (p - latch_line c 0))
    (either P (ltb p (address_line c 0)) (gate (p - gate_line c 0))
    (either P (ltb p (data_line c 0)) (address (p - address_line c 0))
    (either P (ltb p (second_address_line c 0)) (write_data (p - data_line c 0))
    (either P (leb (control_line c) p) control
    (either P (ltb p (second_enable_line c)) (address2 (p - second_address_line c 0)) enable2))))))

-- so none of them has a size
pub no-size-from-3 : (c d : Netlist) (p : ℕ) → 3 ≤ p → size_fault c (line_at d p) ≡ false
unfolding size_fault
no-size-from-3 c d p h =
    codes-from-3 d p (λ x. size_fault c x ≡ false) h (λ l. refl) (λ g. refl) (λ t. refl) (λ t. refl) (λ t. refl) refl refl

-- a line of a netlist within its limits has room, and so has the line due
room_for-line : (c : Netlist) → SizesFit c → (x : Line) → HasLine c x → line_index x < room_for x
room_for-line c fit Sizes h = omega arith
room_for-line c fit Memory h = omega arith
room_for-line c fit (Latch l) h = omega (arith, fit.latches-fit)
room_for-line c fit (Gate g) h = omega (arith, fit.gates-fit)
room_for-line c fit (Address t) h = omega (arith, fit.m-most)
room_for-line c fit (WriteData t) h = omega (arith, fit.n-most)
room_for-line c fit (SecondAddress t) h = omega (arith, h.1, fit.m-most)
room_for-line c fit SecondEnable h = omega arith
room_for-line c fit Control h = omega arith

pub room_for-due : (c : Netlist) (p : ℕ) → SizesKnown c p → line_index (line_at c p) < room_for (line_at c p)
room_for-due c p known =
    by_cases (dec_lt p memory_line) (λ s. rw (at-sizes c p s) (omega arith)) λ s.
    by_cases (dec_lt p (latch_line c 0)) (λ m. rw (at-memory c p (omega arith)) (omega arith)) λ m.
    room_for-line c (known (omega arith)) (line_at c p) (has-line_at c p)

-- two netlists with the same sizes have the same lines
module _ (c d : Netlist) (q : SameSizes c d) where
  line_at-same : (p : ℕ) → line_at c p ≡ line_at d p
  unfolding line_at
  line_at-same p = rw (same_at c d q 1, same_at c d q 2, same_at c d q 3, same_at c d q 4, same_at c d q 7)

  control_line-same : control_line c ≡ control_line d
  control_line-same = rw (same_at c d q 1, same_at c d q 2, same_at c d q 3, same_at c d q 4, same_at c d q 7)

-- where lines N and 2 are due, the sizes do not matter
module _ (c d : Netlist) (p : ℕ) (same : 3 ≤ p → SameSizes c d) where
  pub line_at-known : line_at c p ≡ line_at d p
  line_at-known =
      by_cases (dec_lt p memory_line) (λ s. at-sizes c p s ∙ sym (at-sizes d p s)) λ s.
      by_cases (dec_lt p (latch_line c 0))
      (λ m. at-memory c p (omega arith) ∙ sym (at-memory d p (omega arith)))
      (λ m. line_at-same c d (same (omega arith)) p)

  pub past-known : ltb (control_line c) p ≡ ltb (control_line d) p
  past-known =
      by_cases (dec_lt p 3)
      (λ s. rw (le-ltb (control_line c) p (omega arith), le-ltb (control_line d) p (omega arith)))
      (λ s. rw (control_line-same c d (same (omega arith))))
