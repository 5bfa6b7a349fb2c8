-- How definitions are looked for: a table of marks for a block of variables, one pass over the lines for each block. A line is
-- counted by the lines before it, so that line number x + 1 is line x here. Cited by the functions of this crate, and by no contract
-- that others use.
use Rattle.std.specs.Prelude.{ℕ, ◌+◌, ◌-◌, ◌/◌, ◌≤◌, ◌<◌, ◌≡◌, Bool, true, false, cond, ◌&&◌, ◌||◌, List, eqb, ltb, leb, length, get_or, set}
use Rattle.std.specs.Bool.{beq}
use Rattle.model.specs.Search.{seen}
use Rattle.aiger_lines.specs.Parts.{numbers_on_line, counts_in, part_at, malformed_at}
use Rattle.aiger_lines.specs.Steps.{Behind, HeaderRead}
use Rattle.aiger_lines.specs.declared.HeaderLine.{HeaderLine}
use Rattle.aiger_lines.specs.declared.Part.{Part}
use Rattle.aiger_lines.specs.declared.Part.TheVariants.{Header, Input, Latch, Output, Gate}
use Rattle.aiger_definitions.specs.Definitions.{defined_at}
use Rattle.aiger_definitions.specs.declared.Variables.{Variables}
use Rattle.aiger_definitions.specs.declared.Uses.{Uses}
use Rattle.aiger_definitions.specs.declared.Found.{Found}
use Rattle.aiger_definitions.specs.declared.Fault.{Fault}
use Rattle.aiger_definitions.specs.declared.Fault.TheVariants.{Repeated, Undefined}
use Rattle.aiger_definitions.specs.declared.Look.{Look}
use Rattle.aiger_definitions.specs.declared.Look.TheVariants.{Repeats, Operands, Others}

-- the variables on a line of a part with these numbers: the one that it defines, a gate's operands, and the one that any line may
-- define; 0 where it has none
abbrev pub variables_of : Part → List ℕ → Variables
variables_of Header xs = record { defined = 0; left = 0; right = 0; other = 0 }
variables_of Input xs = record { defined = get_or xs 0 0 / 2; left = 0; right = 0; other = 0 }
variables_of Latch xs = record { defined = get_or xs 0 0 / 2; left = 0; right = 0; other = get_or xs 1 0 / 2 }
variables_of Output xs = record { defined = 0; left = 0; right = 0; other = get_or xs 0 0 / 2 }
variables_of Gate xs = record { defined = get_or xs 0 0 / 2; left = get_or xs 1 0 / 2; right = get_or xs 2 0 / 2; other = 0 }

unfoldable pub variables_at : List ℕ → ℕ → Variables
variables_at s p = variables_of (part_at (counts_in s) p) (numbers_on_line s p)

-- line p + 1 was read
pub record VariablesRead (s : List ℕ) (p : ℕ) (variables : Variables) (next : ℕ) : Type 0 where
  pub variables-are : variables ≡ variables_at s (p + 1)
  pub behind : Behind s (p + 1) next

-- the first `lines` lines, at least one, are well-formed
pub record SoundLines (s : List ℕ) (lines : ℕ) : Type 0 where
  pub some-line : 1 ≤ lines
  pub sound : (p : ℕ) → 1 ≤ p → p ≤ lines → malformed_at s p ≡ false

-- what a pass looks at in a line, and whether a mark or no mark is the fault
abbrev pub uses_of : Look → Variables → Uses
uses_of Repeats v = record { first = v.defined; second = v.defined; marked = true }
uses_of Operands v = record { first = v.left; second = v.right; marked = false }
uses_of Others v = record { first = v.other; second = v.other; marked = false }

-- how many lines, counted from 0, have their definitions marked when line x is looked at
abbrev pub reach : Look → ℕ → ℕ → ℕ
reach Repeats lines x = x + 1
reach Operands lines x = x + 1
reach Others lines x = lines + 1

-- line x has a fault in the variable v
unfoldable pub fault_in : Look → List ℕ → ℕ → ℕ → ℕ → Bool
fault_in look s lines x v =
    let u = uses_of look (variables_at s (x + 1)) in
    (eqb u.first v || eqb u.second v) && beq (seen (defined_at s) (reach look lines x) v) u.marked

-- what is looked for: a repeat, or an undefined literal of either kind
abbrev pub fault_of : Fault → List ℕ → ℕ → ℕ → ℕ → Bool
fault_of Repeated s lines x v = fault_in Repeats s lines x v
fault_of Undefined s lines x v = fault_in Operands s lines x v || fault_in Others s lines x v

-- the marks of the variables from base on: whether f has them at a place below p
pub record Marks (f : ℕ → ℕ) (p base : ℕ) (marks : List Bool) : Type 0 where
  pub has : (x : ℕ) → x < length marks → get_or marks x false ≡ seen f p (base + x)

-- one mark more
unfoldable pub with_mark : ℕ → ℕ → List Bool → List Bool
with_mark base v marks = cond (leb base v) (set marks (v - base) true) marks

-- whether a variable lies in the block and its mark is the one looked for
unfoldable pub is_found : List Bool → ℕ → ℕ → Bool → Bool
is_found marks base v mark = leb base v && (ltb (v - base) (length marks) && beq (get_or marks (v - base) false) mark)

-- the smaller of `next` and v where v lies behind the block
unfoldable pub nearest : ℕ → ℕ → ℕ → ℕ → ℕ
nearest base size next v = cond (leb base v && (leb size (v - base) && ltb v next)) v next

-- one line more
unfoldable pub looked_at : List Bool → ℕ → ℕ → Uses → Found → Found
looked_at marks base line u found =
    record {
      first =
          cond
          ((is_found marks base u.first u.marked || is_found marks base u.second u.marked) && ltb line found.first)
          line
          found.first;
      next = nearest base (length marks) (nearest base (length marks) found.next u.first) u.second;
    }

-- Of the first `line` of n lines: none before `first` has a fault in a variable from base up to `next`, and `first` has one, or is n
pub record Judged (fault : ℕ → ℕ → Bool) (n base line first next : ℕ) : Type 0 where
  pub within : first ≤ n
  pub none : (x v : ℕ) → x < line → x < first → base ≤ v → v < next → fault x v ≡ false
  pub there : first < n → (v : ℕ) × (first < line) × (base ≤ v) × (fault first v ≡ true)

-- what a pass over all lines for one block finds; the next block lies behind it
abbrev pub JudgedBlock : (ℕ → ℕ → Bool) → ℕ → ℕ → Found → Type 0
JudgedBlock fault n base found = Judged fault n base n found.first found.next × (base < found.next)

-- what a block is looked at with: the header, well-formed lines, a block of variables from 1 on, a table of its marks
abbrev pub BlockReady : List ℕ → HeaderLine → ℕ → ℕ → List Bool → Type 0
BlockReady s header lines base marks =
    HeaderRead s header.counts header.next × SoundLines s lines × (1 ≤ base) × (base < 4294967296) × (0 < length marks)
