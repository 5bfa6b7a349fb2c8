-- A pass over the lines for one block of variables, line by line. No contract cites this file.
use Prim.Native.Nat.{ℕ, ◌+◌, ◌≤◌, ◌<◌}
use mathlib.Core.Path.{◌≡◌, refl}
use mathlib.Core.Bool.{Bool, false, ◌||◌}
use mathlib.Core.List.{List}
use native.Mathlib.Omega.{arith}
use lib.Dec.{eqb}
use lib.ListN.{length, get_or}
use Rattle.model.specs.Search.{seen}
use Rattle.model.proofs.Search.{seen_at}
use Rattle.aiger_lines.specs.Steps.{HeaderRead}
use Rattle.aiger_lines.specs.declared.HeaderLine.{HeaderLine}
use Rattle.aiger_definitions.specs.Definitions.{defined_at}
use Rattle.aiger_definitions.specs.Blocks.{variables_at, uses_of, reach, fault_in, Marks, with_mark, nearest, looked_at, Judged, SoundLines, BlockReady}
use Rattle.aiger_definitions.specs.declared.Found.{Found}
use Rattle.aiger_definitions.specs.declared.Uses.{Uses}
use Rattle.aiger_definitions.specs.declared.Look.{Look}
use Rattle.aiger_definitions.specs.declared.Look.TheVariants.{Repeats, Operands, Others}
use Rattle.aiger_definitions.proofs.Marks.{seen_next, seen-again, marks-none, marks-with_mark, nearest-above}
use Rattle.aiger_definitions.proofs.Blocks.{judged-next, judged-none}
use Rattle.aiger_definitions.proofs.LineVariables.{defined-is, nothing-defined, header-faultless}

-- the first `line` lines were looked at
pub record Passed (look : Look) (s : List ℕ) (lines base line : ℕ) (marks : List Bool) (found : Found) : Type 0 where
  pub from : 1 ≤ line
  pub to : line ≤ lines
  pub marks-are : Marks (defined_at s) (reach look lines line) base marks
  pub judged : Judged (fault_in look s lines) lines base line found.first found.next
  pub above : base < found.next

-- what is marked, one line on
reach-next : (look : Look) (s : List ℕ) (lines x : ℕ) → x < lines
    → (v : ℕ) → seen (defined_at s) (reach look lines (x + 1)) v ≡ (seen (defined_at s) (reach look lines x) v || eqb (defined_at s (x + 1)) v)
reach-next Repeats s lines x l v = seen_next (defined_at s) (x + 1) v
reach-next Operands s lines x l v = seen_next (defined_at s) (x + 1) v
reach-next Others s lines x l v =
    seen-again (defined_at s) (lines + 1) (defined_at s (x + 1))
    ((seen_at (defined_at s) (lines + 1) (defined_at s (x + 1))).1 (x + 1, omega arith, refl)) v

looked-above : (marks : List Bool) (base line : ℕ) (u : Uses) (found : Found) → 0 < length marks → base < found.next
    → base < (looked_at marks base line u found).next
unfolding looked_at
looked-above marks base line u found some l =
    nearest-above base (length marks) (nearest base (length marks) found.next u.first) u.second
    (nearest-above base (length marks) found.next u.first l some) some

module _ (look : Look) (s : List ℕ) (lines base : ℕ) where
  pub pass-starts : {marks : List Bool} (next : ℕ) → Marks (defined_at s) (reach look lines 1) base marks → 1 ≤ lines → 1 ≤ base → base < next
      → Passed look s lines base 1 marks (record { first = lines; next = next })
  pass-starts next m some b l =
      record { from = omega arith; to = some; marks-are = m; judged = judged-none (λ v k. header-faultless look s lines v (omega arith)); above = l }

  pub pass-next : {line : ℕ} {marks : List Bool} {found : Found} → Passed look s lines base line marks found → 0 < length marks → line < lines
      → Passed look s lines base (line + 1) (with_mark base (variables_at s (line + 1)).defined marks)
      (looked_at marks base line (uses_of look (variables_at s (line + 1))) found)
  unfolding fault_in
  pass-next {line} {marks} {found} p some l =
      record {
        from = omega arith;
        to = omega arith;
        marks-are =
            rw (defined-is s (line + 1))
            (marks-with_mark p.marks-are (reach look lines (line + 1)) (defined_at s (line + 1)) (reach-next look s lines line l));
        judged = judged-next (uses_of look (variables_at s (line + 1))) found p.marks-are l (λ v. refl) p.judged;
        above = looked-above marks base line (uses_of look (variables_at s (line + 1))) found some p.above;
      }

-- at the end all definitions are marked
reach-all : (look : Look) (lines : ℕ) → reach look lines lines ≡ lines + 1
reach-all Repeats lines = refl
reach-all Operands lines = refl
reach-all Others lines = refl

pub all-marked : {look : Look} {s : List ℕ} {lines base : ℕ} {marks : List Bool} {found : Found} → Passed look s lines base lines marks found
    → Marks (defined_at s) (lines + 1) base marks
all-marked {look} {s} {lines} p = rw (reach-all look lines) at p.marks-are

-- a table without marks is that of the header
marks-cleared : (s : List ℕ) (base : ℕ) {marks : List Bool} → 1 ≤ base → ((x : ℕ) → x < length marks → get_or marks x false ≡ false)
    → Marks (defined_at s) 2 base marks
marks-cleared s base b none = marks-none none (λ v l. nothing-defined s v (omega arith))

-- so a block is looked at with a cleared table
pub cleared-ready : (s : List ℕ) (header : HeaderLine) (lines base : ℕ) (old marks : List Bool) → BlockReady s header lines base old
    → length marks ≡ length old → ((x : ℕ) → x < length old → get_or marks x false ≡ false)
    → HeaderRead s header.counts header.next × SoundLines s lines × (1 ≤ base) × (base < 4294967296) × (0 < length marks)
    × Marks (defined_at s) 2 base marks
cleared-ready s header lines base old marks r size none =
    (r.0, r.1, r.2, r.3, omega (arith, r.4), marks-cleared s base r.2 (λ x l. none x (omega arith)))
