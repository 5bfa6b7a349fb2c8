-- The sheet of a netlist (specs/SheetText.antt) by the places of its lines: at each stands the line due there, printed by the table of letters. No contract
-- cites this file.
use Prim.Native.Nat.{ℕ, zero, suc, ◌+◌, ◌*◌, ◌≤◌, ◌<◌}
use mathlib.Core.Path.{◌≡◌, refl, sym, ◌∙◌, ap, ap₂}
use mathlib.Core.Bool.{Bool, true, false, cond}
use mathlib.Core.List.{List, ◌++◌, append_assoc, append-nil}
use native.Mathlib.Nat.{add-zero, zero-mul, one-mul}
use native.Mathlib.Omega.{arith}
use lib.Dec.{eqb}
use borrow.Author.Tests.{ne_eqb}
use Rattle.model.specs.Gather.{gather}
use Rattle.model.specs.Netlist.{Netlist, start_of}
use Rattle.model.proofs.Gather.{gather-same}
use Rattle.decimal.specs.Digits.{field, empty_field}
use Rattle.netlist.specs.Places.{control_line, line_at}
use Rattle.netlist.specs.declared.Line.{Line}
use Rattle.netlist.specs.declared.Line.TheVariants as Due
use Rattle.netlist.proofs.Places.{at-sizes, at-memory, at-latch, at-gate, at_address, at-data, at-second-address, at-second-enable, at-control}
use Rattle.sheet_lines.specs.Letters.{content_of}
use Rattle.sheet_lines.specs.Lines.{line_text}
use Rattle.sheet_lines.specs.declared.Kind.TheVariants.{Memory, TwoPorts}
use Rattle.sheet_text.specs.SheetText.{line, word_field, sheet_text}
use Rattle.sheet_text.specs.PrintedAt.{printed_at}

-- what is gathered is gathered up to a number, and from there on
gather-add : (x y : ℕ) (f : ℕ → List ℕ) → gather (x + y) f ≡ gather x f ++ gather y (λ t. f (x + t))
unfolding gather
gather-add x zero f = rw (add-zero x) (sym (append-nil (gather x f)))
gather-add x (suc y) f =
    let more : x + suc y ≡ suc (x + y) = omega arith in
    rw more (ap (λ (s : List ℕ). s ++ f (x + y)) (gather-add x y f) ∙ append_assoc (gather x f) (gather y (λ t. f (x + t))) (f (x + y)))

-- the line of the memory, by how many ports there are and whether a word is given
memory-line : (one : Bool) (m n word unknown : ℕ)
    → line_text (cond one Memory TwoPorts) m n word unknown ≡ line (cond one 77 84) (field m) (field n) (word_field (start_of word unknown))
unfolding line_text content_of word_field start_of
memory-line true m n word zero = refl
memory-line false m n word zero = refl
memory-line true m n word (suc unknown) = rw (ne_eqb (suc unknown) 0 (λ e. omega arith))
memory-line false m n word (suc unknown) = rw (ne_eqb (suc unknown) 0 (λ e. omega arith))

module _ (c : Netlist) where
  -- the line behind the first p
  abbrev pub line_behind : ℕ → List ℕ
  line_behind p = printed_at c (line_at c (p + 1))

  -- so many lines, behind the first `at`
  abbrev lines_from : ℕ → ℕ → List ℕ
  lines_from at count = gather count (λ t. line_behind (at + t))

  join : (at x y : ℕ) {a b : List ℕ} → lines_from at x ≡ a → lines_from (at + x) y ≡ b → lines_from at (x + y) ≡ a ++ b
  join at x y e f =
      gather-add x y (λ t. line_behind (at + t))
      ∙ ap₂ ◌++◌ e (gather-same y (λ t. line_behind (at + (x + t))) (λ t. line_behind (at + x + t)) (λ t h. ap line_behind (omega arith)) ∙ f)

  behind : (x y : ℕ) {a b : List ℕ} → gather x line_behind ≡ a → lines_from x y ≡ b → gather (x + y) line_behind ≡ a ++ b
  behind x y e f = gather-add x y line_behind ∙ ap₂ ◌++◌ e f

  one_line : (at : ℕ) (x : Line) → line_at c (at + 0 + 1) ≡ x → lines_from at 1 ≡ printed_at c x
  unfolding gather
  one_line at x e = ap (printed_at c) e

  list-lines : (at count : ℕ) (f : ℕ → List ℕ) → ((t : ℕ) → t < count → line_behind (at + t) ≡ f t) → lines_from at count ≡ gather count f
  list-lines at count f same = gather-same count (λ t. line_behind (at + t)) f same

  sizes : gather 1 line_behind ≡ line 78 (field c.inputs) (field c.latches) (field c.gates)
  unfolding gather printed_at line_text content_of
  sizes = ap (printed_at c) (at-sizes c 1 (omega arith))

  memory : lines_from 1 1 ≡ line (cond (eqb c.second_port 0) 77 84) (field c.m) (field c.n) (word_field (start_of c.initial_word c.unknown_start))
  unfolding printed_at
  memory = one_line 1 Due.Memory (at-memory c 2 refl) ∙ memory-line (eqb c.second_port 0) c.m c.n c.initial_word c.unknown_start

  latches : lines_from 2 c.latches ≡ gather c.latches (λ l. line 76 (field (c.next l)) (field (c.reset l)) empty_field)
  unfolding printed_at line_text content_of
  latches = list-lines 2 c.latches _ (λ l h. ap (printed_at c) (at-latch c (2 + l + 1) l h (omega arith)))

  gates : lines_from (2 + c.latches) c.gates ≡ gather c.gates (λ g. line 71 (field (c.left g)) (field (c.right g)) empty_field)
  unfolding printed_at line_text content_of
  gates = list-lines (2 + c.latches) c.gates _ (λ g h. ap (printed_at c) (at-gate c (2 + c.latches + g + 1) g h (omega arith)))

  addresses : lines_from (2 + c.latches + c.gates) c.m ≡ gather c.m (λ t. line 65 (field (c.address t)) empty_field empty_field)
  unfolding printed_at line_text content_of
  addresses = list-lines (2 + c.latches + c.gates) c.m _ (λ t h. ap (printed_at c) (at_address c (2 + c.latches + c.gates + t + 1) t h (omega arith)))

  data-lines : lines_from (2 + c.latches + c.gates + c.m) c.n ≡ gather c.n (λ t. line 68 (field (c.write_data t)) empty_field empty_field)
  unfolding printed_at line_text content_of
  data-lines = list-lines (2 + c.latches + c.gates + c.m) c.n _ (λ t h. ap (printed_at c) (at-data c (2 + c.latches + c.gates + c.m + t + 1) t h (omega arith)))

  -- the number of lines before the second port's
  abbrev before : ℕ
  before = 2 + c.latches + c.gates + c.m + c.n

  second-address : 0 < c.second_port → lines_from before c.m ≡ gather c.m (λ t. line 66 (field (c.address2 t)) empty_field empty_field)
  unfolding printed_at line_text content_of
  second-address some = list-lines before c.m _ (λ t h. ap (printed_at c) (at-second-address c (before + t + 1) some t h (omega arith)))

  second-enable : c.second_port ≡ 1 → lines_from (before + c.m) 1 ≡ line 82 (field c.RE2) empty_field empty_field
  unfolding printed_at line_text content_of
  second-enable e =
      let size : c.second_port * (c.m + 1) ≡ c.m + 1 = rw e (one-mul (c.m + 1)) in
      one_line (before + c.m) Due.SecondEnable (at-second-enable c (before + c.m + 0 + 1) (omega arith) (omega arith))

  second-lines : (ports : ℕ) → c.second_port ≡ ports → ports ≤ 1
      → lines_from before (ports * (c.m + 1))
      ≡ gather ports (λ p. gather c.m (λ t. line 66 (field (c.address2 t)) empty_field empty_field) ++ line 82 (field c.RE2) empty_field empty_field)
  unfolding gather
  second-lines zero e h = rw (zero-mul (c.m + 1))
  second-lines (suc zero) e h = rw (one-mul (c.m + 1)) (join before c.m 1 (second-address (omega arith)) (second-enable e))
  second-lines (suc (suc ports)) e h = absurd (omega arith)

  control : lines_from (before + c.second_port * (c.m + 1)) 1 ≡ line 67 (field c.WE) (field c.RE) (field c.P)
  unfolding printed_at line_text content_of
  control = one_line (before + c.second_port * (c.m + 1)) Due.Control (at-control c (before + c.second_port * (c.m + 1) + 0 + 1) (omega arith))

  pub placed : c.second_port ≤ 1 → sheet_text c ≡ gather (control_line c) line_behind
  unfolding sheet_text
  placed h =
      let count : control_line c ≡ before + c.second_port * (c.m + 1) + 1 = omega arith in
      sym
      (ap (λ (n : ℕ). gather n line_behind) count
      ∙ behind (before + c.second_port * (c.m + 1)) 1
      (behind before (c.second_port * (c.m + 1))
      (behind (2 + c.latches + c.gates + c.m) c.n
      (behind (2 + c.latches + c.gates) c.m (behind (2 + c.latches) c.gates (behind 2 c.latches (behind 1 1 sizes memory) latches) gates) addresses)
      data-lines)
      (second-lines c.second_port refl h))
      control)
