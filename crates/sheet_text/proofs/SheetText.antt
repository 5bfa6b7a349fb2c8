-- Laws of specs/SheetText.antt: a netlist's sheet has 32 bytes a line, each is read as the line that was printed, and so the sheet is read
-- as the netlist. No contract cites this file.
use Prim.Native.Nat.{ℕ, zero, suc, ◌+◌, ◌-◌, ◌*◌, ◌^◌, ◌≤◌, ◌<◌}
use mathlib.Core.Path.{◌≡◌, refl, sym, ◌∙◌, ap, subst}
use mathlib.Core.List.{List, ◌++◌}
use mathlib.Core.Bool.{Bool, true, false, cond, false≢true}
use mathlib.Core.Logic.{by_cases}
use native.Mathlib.Nat.{one-mul}
use native.Mathlib.Decide.{ℕ_discrete}
use native.Mathlib.Omega.{arith}
use lib.Dec.{eqb}
use lib.ListN.{length}
use lib.Pow.{pow_mono}
use borrow.Author.Tests.{ne_eqb, lt-ltb}
use Rattle.model.specs.Netlist.{Netlist, given, start_of, start, port}
use Rattle.model.specs.Acceptance.{StartFits, SizesFit, WithinLimits}
use Rattle.model.specs.Gather.{gather}
use Rattle.model.specs.Agree.{given_word, Agree}
use Rattle.model.proofs.Agree.{same_at, inputs-same, latches-same, gates-same, m-same, n-same, second-same}
use Rattle.model.proofs.Ports.{first-port, second-port, by-port}
use Rattle.model.proofs.Gather.{length-gather, gathers_same}
use Rattle.decimal.specs.Digits.{field, empty_field}
use Rattle.netlist.specs.Places.{sizes_line, memory_line, latch_line, gate_line, address_line, data_line, second_address_line, second_enable_line, control_line, line_at, HasLine}
use Rattle.netlist.specs.declared.Line.{Line}
use Rattle.netlist.specs.declared.Line.TheVariants as Due
use Rattle.netlist.proofs.Places.{has-line_at, at-sizes, at-memory, at-latch, at-gate, at_address, at-data, at-second-address, at-second-enable, at-control}
use Rattle.sheet_lines.specs.Letters.{second_port_of, content_of}
use Rattle.sheet_lines.specs.Lines.{line_of, line_text}
use Rattle.sheet_lines.specs.declared.ParsedLine.{ParsedLine}
use Rattle.sheet_lines.specs.declared.ParsedLine.TheVariants.{Read}
use Rattle.sheet_lines.specs.declared.Kind.TheVariants.{Sizes, Memory, TwoPorts, Latch, Gate, Address, WriteData, SecondAddress, SecondEnable, Control}
use Rattle.sheet_lines.proofs.Lines.{lines-as-written, line_of-length}
use Rattle.sheet_steps.specs.Due.{is_due}
use Rattle.sheet_parse.proofs.LineTests.{is_line}
use Rattle.sheet_parse.specs.Files.{line_in, sizes_in, net_of_lines, net_in}
use Rattle.sheet_text.specs.SheetText.{line, word_field, sheet_text}
use Rattle.sheet_text.specs.PrintedAt.{memory_kind, printed_at}
use Rattle.sheet_text.proofs.Parts.{part-gather}
use Rattle.sheet_text.proofs.Placed.{line_behind, placed}

-- what a netlist's line is read as
abbrev pub read_as : Netlist → Line → ParsedLine
read_as c Due.Sizes = Read Sizes c.inputs c.latches c.gates 0
read_as c Due.Memory = Read (memory_kind c.second_port) c.m c.n (given_word (start c)) c.unknown_start
read_as c (Due.Latch l) = Read Latch (c.next l) (c.reset l) 0 0
read_as c (Due.Gate g) = Read Gate (c.left g) (c.right g) 0 0
read_as c (Due.Address t) = Read Address (c.address t) 0 0 0
read_as c (Due.WriteData t) = Read WriteData (c.write_data t) 0 0 0
read_as c (Due.SecondAddress t) = Read SecondAddress (c.address2 t) 0 0 0
read_as c Due.SecondEnable = Read SecondEnable c.RE2 0 0 0
read_as c Due.Control = Read Control c.WE c.RE c.P 0

-- it is the line due
pub is-due : (c : Netlist) (x : Line) → is_line x (read_as c x) ≡ true
is-due c Due.Sizes = refl
is-due c Due.Memory = by-ports (eqb c.second_port 0)
  where
    by-ports : (one : Bool) → is_due Due.Memory (cond one Memory TwoPorts) ≡ true
    by-ports true = refl
    by-ports false = refl
is-due c (Due.Latch l) = refl
is-due c (Due.Gate g) = refl
is-due c (Due.Address t) = refl
is-due c (Due.WriteData t) = refl
is-due c (Due.SecondAddress t) = refl
is-due c Due.SecondEnable = refl
is-due c Due.Control = refl

-- its letter says whether there is a second port
second-again : (s : ℕ) → s ≤ 1 → second_port_of (memory_kind s) ≡ s
second-again zero h = refl
second-again (suc zero) h = refl
second-again (suc (suc s)) h = absurd (omega arith)

-- a word that is left out stays so
given-again : (word unknown : ℕ) → given_word (start_of (given_word (start_of word unknown)) unknown) ≡ given_word (start_of word unknown)
unfolding start_of given_word
given-again word zero = refl
given-again word (suc unknown) = refl

-- where there is a second port, its lines are there
second-end : (c : Netlist) → SizesFit c → 0 < c.second_port → (c.second_port * c.m ≡ c.m) × (control_line c ≡ second_enable_line c + 1)
second-end c fit some =
    let one : c.second_port ≡ 1 = omega (arith, fit.kind_fits) in
    let times : (x : ℕ) → c.second_port * x ≡ x = λ x. rw one (one-mul x) in
    (times c.m, omega (arith, times (c.m + 1)))

-- the field of the initial word, by the numbers of a record that agree
word-given : (word unknown : ℕ) → word_field (start_of word unknown) ≡ cond (eqb unknown 0) (field (given_word (start_of word unknown))) empty_field
unfolding word_field start_of given_word
word-given word zero = refl
word-given word (suc unknown) = rw (ne_eqb (suc unknown) 0 (λ e. omega arith))

module _ (c : Netlist) (fits : WithinLimits c) where
  by_place : sheet_text c ≡ gather (control_line c) (line_behind c)
  by_place = placed c (omega (arith, fits.sizes.kind_fits))

  -- a start word is a number of 32 bits, where one is given
  word_fits : (word : ℕ) → start_of c.initial_word c.unknown_start ≡ given word → word < 2 ^ 32
  unfolding StartFits
  word_fits word e = omega (arith, subst (StartFits c.n) e fits.sizes.word_fits, pow_mono {i = c.n} {j = 32} fits.sizes.n-most)

  -- the line of the memory, whose word is left out where the start is unknown
  memory-read : (one : Bool) (unknown : ℕ) → c.unknown_start ≡ unknown
      → line_of (line_text (cond one Memory TwoPorts) c.m c.n c.initial_word unknown)
      ≡ Read (cond one Memory TwoPorts) c.m c.n (given_word (start_of c.initial_word unknown)) unknown
  unfolding line_text content_of start_of given_word
  memory-read true zero e =
      lines-as-written.text→read Memory c.m c.n c.initial_word 0 refl (omega (arith, fits.sizes)) (omega (arith, fits.sizes))
      (word_fits c.initial_word (rw e))
  memory-read false zero e =
      lines-as-written.text→read TwoPorts c.m c.n c.initial_word 0 refl (omega (arith, fits.sizes)) (omega (arith, fits.sizes))
      (word_fits c.initial_word (rw e))
  memory-read true (suc unknown) e =
      let least : unknown ≡ 0 = omega (arith, fits.sizes.kind_fits) in
      rw least (lines-as-written.text→read Memory c.m c.n 0 1 refl (omega (arith, fits.sizes)) (omega (arith, fits.sizes)) (omega arith))
  memory-read false (suc unknown) e =
      let least : unknown ≡ 0 = omega (arith, fits.sizes.kind_fits) in
      rw least (lines-as-written.text→read TwoPorts c.m c.n 0 1 refl (omega (arith, fits.sizes)) (omega (arith, fits.sizes)) (omega arith))

  -- a line of the netlist is read as what it says
  pub printed-read : (x : Line) → HasLine c x → line_of (printed_at c x) ≡ read_as c x
  unfolding printed_at content_of
  printed-read Due.Sizes h =
      lines-as-written.text→read Sizes c.inputs c.latches c.gates 0 refl (omega (arith, fits.sizes)) (omega (arith, fits.sizes)) (omega (arith, fits.sizes))
  printed-read Due.Memory h = memory-read (eqb c.second_port 0) c.unknown_start refl
  printed-read (Due.Latch l) h =
      lines-as-written.text→read Latch (c.next l) (c.reset l) 0 0 refl (omega (arith, fits.codes.next_fits l h, fits.sizes.wires-fit)) (omega (arith, fits.codes.reset-fits l h)) (omega arith)
  printed-read (Due.Gate g) h =
      lines-as-written.text→read Gate (c.left g) (c.right g) 0 0 refl (omega (arith, fits.codes.left-fits g h, fits.sizes)) (omega (arith, fits.codes.right-fits g h, fits.sizes)) (omega arith)
  printed-read (Due.Address t) h =
      lines-as-written.text→read Address (c.address t) 0 0 0 refl (omega (arith, fits.codes.address-fits 1 (first-port c) t h, fits.sizes.wires-fit)) (omega arith) (omega arith)
  printed-read (Due.WriteData t) h =
      lines-as-written.text→read WriteData (c.write_data t) 0 0 0 refl (omega (arith, fits.codes.data-fits t h, fits.sizes.wires-fit)) (omega arith) (omega arith)
  printed-read (Due.SecondAddress t) h =
      lines-as-written.text→read SecondAddress (c.address2 t) 0 0 0 refl (omega (arith, fits.codes.address-fits 2 (second-port c h.0) t h.1, fits.sizes.wires-fit)) (omega arith) (omega arith)
  printed-read Due.SecondEnable h =
      lines-as-written.text→read SecondEnable c.RE2 0 0 0 refl (omega (arith, fits.codes.RE-fits 2 (second-port c h), fits.sizes.wires-fit)) (omega arith) (omega arith)
  printed-read Due.Control h =
      lines-as-written.text→read Control c.WE c.RE c.P 0 refl (omega (arith, fits.codes.WE-fits, fits.sizes.wires-fit)) (omega (arith, fits.codes.RE-fits 1 (first-port c), fits.sizes.wires-fit)) (omega (arith, fits.codes.P-fits, fits.sizes.wires-fit))

  -- so it has 32 bytes
  length-printed : (x : Line) → HasLine c x → length (printed_at c x) ≡ 32
  length-printed x h =
      by_cases (ℕ_discrete (length (printed_at c x)) 32) (λ e. e)
      (λ n. absurd (false≢true (ap (is_line x) (sym (line_of-length (printed_at c x) n) ∙ printed-read x h) ∙ is-due c x)))

  line-length : (p : ℕ) → p < control_line c → length (line_behind c p) ≡ 32
  line-length p b = length-printed (line_at c (p + 1)) (has-line_at c (p + 1))

  pub length-sheet_text : length (sheet_text c) ≡ control_line c * 32
  length-sheet_text = rw by_place (length-gather (control_line c) 32 (line_behind c) line-length)

  -- the line at a place is read as the line due there
  pub line-in : (p : ℕ) → 1 ≤ p → p ≤ control_line c → line_in (sheet_text c) p ≡ read_as c (line_at c p)
  unfolding line_in
  line-in p l b =
      let back : p - 1 + 1 ≡ p = omega arith in
      rw by_place
      (ap line_of (part-gather 32 (control_line c) (line_behind c) line-length (p - 1) (omega arith))
      ∙ printed-read (line_at c (p - 1 + 1)) (has-line_at c (p - 1 + 1)) ∙ ap (λ q. read_as c (line_at c q)) back)

  -- the same of a line that is known
  line-is : (p : ℕ) (x : Line) → 1 ≤ p → p ≤ control_line c → line_at c p ≡ x → line_in (sheet_text c) p ≡ read_as c x
  line-is p x l b e = line-in p l b ∙ ap (read_as c) e

  -- the netlist that is read agrees with the one that was printed
  pub agrees-read : Agree c (net_in (sheet_text c))
  unfolding net_in net_of_lines sizes_in
  agrees-read =
      let sizes = line-is sizes_line Due.Sizes (omega arith) (omega arith) (at-sizes c sizes_line (omega arith)) in
      let memory = line-is memory_line Due.Memory (omega arith) (omega arith) (at-memory c memory_line refl) in
      let second = second-again c.second_port (omega (arith, fits.sizes.kind_fits)) in
      let control = line-is (control_line c) Due.Control (omega arith) (omega arith) (at-control c (control_line c) (omega arith)) in
      record {
        sizes-same = rw (sizes, memory, given-again c.initial_word c.unknown_start, second);
        next-same = λ l h. rw (sizes, lt-ltb l c.latches h, line-is (latch_line c l) (Due.Latch l) (omega arith) (omega arith) (at-latch c (latch_line c l) l h refl));
        reset-same = λ l h. rw (sizes, lt-ltb l c.latches h, line-is (latch_line c l) (Due.Latch l) (omega arith) (omega arith) (at-latch c (latch_line c l) l h refl));
        left-same = λ g h. rw (sizes, lt-ltb g c.gates h, line-is (gate_line c g) (Due.Gate g) (omega arith) (omega arith) (at-gate c (gate_line c g) g h refl));
        right-same = λ g h. rw (sizes, lt-ltb g c.gates h, line-is (gate_line c g) (Due.Gate g) (omega arith) (omega arith) (at-gate c (gate_line c g) g h refl));
        address_same =
            by-port fits.sizes (λ p. (t : ℕ) → t < c.m → (port c p).address t ≡ (port (net_in (sheet_text c)) p).address t)
            (λ t h. rw (sizes, memory, lt-ltb t c.m h, line-is (address_line c t) (Due.Address t) (omega arith) (omega arith) (at_address c (address_line c t) t h refl)))
            (λ some t h.
            let ends = second-end c fits.sizes some in
            rw (sizes, memory, second, lt-ltb t (c.second_port * c.m) (omega arith), line-is (second_address_line c t) (Due.SecondAddress t) (omega arith) (omega arith) (at-second-address c (second_address_line c t) some t h refl)));
        data-same = λ t h. rw (sizes, memory, lt-ltb t c.n h, line-is (data_line c t) (Due.WriteData t) (omega arith) (omega arith) (at-data c (data_line c t) t h refl));
        WE-same = rw (sizes, memory, second, control);
        RE-same =
            by-port fits.sizes (λ p. (port c p).RE ≡ (port (net_in (sheet_text c)) p).RE) (rw (sizes, memory, second, control))
            (λ some.
            let ends = second-end c fits.sizes some in
            rw (sizes, memory, second, lt-ltb 0 c.second_port some, line-is (second_enable_line c) Due.SecondEnable (omega arith) (omega arith) (at-second-enable c (second_enable_line c) (omega arith) (omega arith))));
        P-same = rw (sizes, memory, second, control);
      }

-- a line of one code
abbrev code_line : ℕ → ℕ → List ℕ
code_line letter code = line letter (field code) empty_field empty_field

-- netlists that agree have one sheet
module _ (c d : Netlist) (q : Agree c d) where
  pub ends_same : control_line c ≡ control_line d
  ends_same = rw (latches-same c d q, gates-same c d q, m-same c d q, n-same c d q, second-same c d q)

  -- the initial word shows where it is given
  word_same : word_field (start c) ≡ word_field (start d)
  word_same =
      word-given c.initial_word c.unknown_start ∙ rw (same_at c d q.sizes-same 5, same_at c d q.sizes-same 6)
      (sym (word-given d.initial_word d.unknown_start))

  code_lines : (letter : ℕ) (f h : ℕ → ℕ) → ((t : ℕ) → t < c.m → f t ≡ h t) → gather c.m (λ t. code_line letter (f t)) ≡ gather d.m (λ t. code_line letter (h t))
  code_lines letter f h same = gathers_same (m-same c d q) (λ t b. ap (code_line letter) (same t b))

  pub one-sheet : sheet_text c ≡ sheet_text d
  unfolding sheet_text
  one-sheet =
      let latches : gather c.latches (λ l. line 76 (field (c.next l)) (field (c.reset l)) empty_field) ≡ gather d.latches (λ l. line 76 (field (d.next l)) (field (d.reset l)) empty_field) =
      gathers_same (latches-same c d q) (λ l h. rw (q.next-same l h, q.reset-same l h)) in
      let gates : gather c.gates (λ g. line 71 (field (c.left g)) (field (c.right g)) empty_field) ≡ gather d.gates (λ g. line 71 (field (d.left g)) (field (d.right g)) empty_field) =
      gathers_same (gates-same c d q) (λ g h. rw (q.left-same g h, q.right-same g h)) in
      let second : gather c.second_port (λ p. gather c.m (λ t. code_line 66 (c.address2 t)) ++ code_line 82 c.RE2)
      ≡ gather d.second_port (λ p. gather d.m (λ t. code_line 66 (d.address2 t)) ++ code_line 82 d.RE2) =
      gathers_same (second-same c d q)
      (λ p b. rw (code_lines 66 c.address2 d.address2 (λ t h. q.address_same 2 (second-port c (omega arith)) t h), q.RE-same 2 (second-port c (omega arith)))) in
      let words : gather c.n (λ t. code_line 68 (c.write_data t)) ≡ gather d.n (λ t. code_line 68 (d.write_data t)) =
      gathers_same (n-same c d q) (λ t b. ap (code_line 68) (q.data-same t b)) in
      rw (
        latches,
        gates,
        second,
        code_lines 65 c.address d.address (λ t h. q.address_same 1 (first-port c) t h),
        words,
        word_same,
        inputs-same c d q,
        latches-same c d q,
        gates-same c d q,
        m-same c d q,
        n-same c d q,
        second-same c d q,
        q.WE-same,
        q.RE-same 1 (first-port c),
        q.P-same,
      )
