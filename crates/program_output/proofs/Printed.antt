-- Laws of specs/Printed.antt: what is printed for an input that is taken or refused, and that pieces printed one after the other are all of it.
-- Cited by the functions of `frames` that print.
use Prim.Native.Nat.{ℕ, ◌+◌}
use mathlib.Core.Path.{◌≡◌, sym, ◌∙◌, ap}
use mathlib.Core.List.{List, [], ◌++◌, append_assoc, append-nil}
use lib.ListN.{length, take, drop, length-append}
use lib.Seq.{drop_at, take-append_seam}
use Rattle.std.specs.Prelude.{Option, Some, None}
use Rattle.model.specs.Netlist.{Netlist, ports}
use Rattle.model.specs.Numbers.{formula}
use Rattle.model.specs.declared.Group.{Group}
use Rattle.model.specs.Groups.{group_order}
use Rattle.netlist.specs.NetOf.{net_of}
use Rattle.group_order.specs.Next.{first_group}
use Rattle.dimacs.specs.Text.{clause_text, refusal_text}
use Rattle.program_input.specs.Input.{input_answer, InputTaken}
use Rattle.program_input.proofs.Replies.{taken-text, refused-text}
use Rattle.program_input.specs.declared.Input.{Input}
use Rattle.program_output.specs.Printed.{formula_header, formula_text, frames_text}
use Rattle.program_output.specs.Pieces.{TextDue, Continues}
use Rattle.program_output.specs.declared.Piece.{Piece}
use Rattle.program_output.proofs.Pieces.{all-due, nothing-due}

-- an input that is taken, and one that is refused
pub taken-frames : {s : List ℕ} {r : Input} {latches gates : List ℕ} → InputTaken s r latches gates
    → let c = net_of r.net latches gates in frames_text s ≡ formula_header c r.depth ++ clause_text (formula c r.depth)
unfolding frames_text formula_text
taken-frames t = taken-text formula_text t

pub refused-frames : (s : List ℕ) (r : Input) → r ≡ input_answer s → (r.number ≡ 0 → ⊥) → frames_text s ≡ refusal_text r.number r.place
unfolding frames_text
refused-frames s r e h = refused-text formula_text s r e h

-- a part stands in a text behind what is before it
pub stands : {whole : List ℕ} {sent : ℕ} (before part behind : List ℕ) → whole ≡ before ++ (part ++ behind) → length before ≡ sent
    → part ≡ take (length part) (drop sent whole)
stands {whole} {sent} before part behind e h = rw (e, drop_at before (part ++ behind) sent h) (sym (take-append_seam part behind))

-- one with which a text begins
pub first-stands : {whole : List ℕ} {sent : ℕ} (part behind : List ℕ) → whole ≡ part ++ behind → sent ≡ 0
    → part ≡ take (length part) (drop sent whole)
first-stands part behind e h = stands [] part behind e (sym h)

-- so many bytes of the whole text are printed, and the text of the groups from `next` on is due
pub record PrintedSo (whole : List ℕ) (c : Netlist) (k sent : ℕ) (next : Option Group) : Type 0 where
  pub done : List ℕ
  pub due : List ℕ
  pub whole_is : whole ≡ done ++ due
  pub done-sent : length done ≡ sent
  pub text-due : TextDue c k next due

-- behind the header
pub header-printed : {whole : List ℕ} {c : Netlist} {k sent : ℕ} {next : Option Group} → whole ≡ formula_header c k ++ clause_text (formula c k)
    → sent ≡ length (formula_header c k) → next ≡ first_group (group_order (ports c) k) → PrintedSo whole c k sent next
unfolding formula
header-printed {whole} {c} {k} e h n =
    record { done = formula_header c k; due = clause_text (formula c k); whole_is = e; done-sent = sym h; text-due = all-due c k _ n }

module _ {whole : List ℕ} {c : Netlist} {k sent : ℕ} {g : Group} {buffer : List ℕ} {piece : Piece}
    (p : PrintedSo whole c k sent (Some g)) (q : Continues c k p.due buffer piece) where
  part : List ℕ
  part = take piece.bytes buffer

  splits : whole ≡ p.done ++ (part ++ q.rest)
  unfolding part
  splits = p.whole_is ∙ ap (λ (t : List ℕ). p.done ++ t) q.text-is

  -- a piece is the text that is next
  pub piece-stands : take piece.bytes buffer ≡ take (length (take piece.bytes buffer)) (drop sent whole)
  unfolding part
  piece-stands = stands p.done part q.rest splits p.done-sent

  -- and what is behind it is due then
  pub piece-printed : PrintedSo whole c k (sent + length (take piece.bytes buffer)) piece.next
  unfolding part
  piece-printed =
      record {
        done = p.done ++ part;
        due = q.rest;
        whole_is = splits ∙ sym (append_assoc p.done part q.rest);
        done-sent = length-append p.done part ∙ ap (λ (n : ℕ). n + length part) p.done-sent;
        text-due = q.rest-due;
      }

-- where no group is next, all is printed
pub all-printed : {whole : List ℕ} {c : Netlist} {k sent : ℕ} → PrintedSo whole c k sent None → sent ≡ length whole
all-printed {whole} p =
    sym p.done-sent ∙ ap length (sym (append-nil p.done) ∙ ap (λ (t : List ℕ). p.done ++ t) (sym (nothing-due p.text-due)) ∙ sym p.whole_is)
