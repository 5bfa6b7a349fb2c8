-- A list put into a slice where there is room for it (RULES U6: "both at place 0, before anything is written"). Cited by the functions of
-- this crate, and by no public contract.
use Rattle.std.specs.Prelude.{ℕ, ◌≤◌, ◌≡◌, List, length}
use Rattle.model.specs.Wrote.{over}

-- how many elements there are is told in any case; where the slice has room for them, they stand at its start and everything behind is untouched
pub record PutWhereRoom {A : Type 0} (xs old new : List A) (count : ℕ) : Type 0 where
  pub counted : count ≡ length xs
  pub same_length : length new ≡ length old
  pub put : length xs ≤ length old → new ≡ over xs old
