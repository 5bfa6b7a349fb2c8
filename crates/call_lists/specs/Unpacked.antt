-- What a lent list of records is, unpacked: two numbers a record (RULES W14 and W16). Cited by the functions that unpack and by call_lists/specs/Lent,
-- which names a caller's lists by `latch_codes` and `gate_codes`.
use Rattle.std.specs.Prelude.{ℕ, List, [], ◌∷◌, take}
use Rattle.model.specs.Limits.{most_wires}
use Rattle.call_lists.specs.declared.GateEntry.{GateEntry}
use Rattle.call_lists.specs.declared.LatchEntry.{LatchEntry}

-- two numbers of each record, in order
unfoldable pub pairs_of : {X : Type 0} → (X → ℕ) → (X → ℕ) → List X → List ℕ
pairs_of first second [] = []
pairs_of first second (x ∷ xs) = first x ∷ second x ∷ pairs_of first second xs

-- A list's first 600 records. No size is above 600, so no later record counts (RULES T39: "past the sizes are ignored").
unfoldable pub gate_codes : List GateEntry → List ℕ
gate_codes gates = pairs_of (λ (g : GateEntry). g.left.0) (λ (g : GateEntry). g.right.0) (take most_wires gates)

unfoldable pub latch_codes : List LatchEntry → List ℕ
latch_codes latches = pairs_of (λ (l : LatchEntry). l.next.0) (λ (l : LatchEntry). l.reset) (take most_wires latches)
