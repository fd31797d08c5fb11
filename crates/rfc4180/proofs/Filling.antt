-- Reading a text for its cells: at the start of a field, the numbers written so far and those of the fields that are left are the cells.
-- Assumes nothing.
use mathlib.Core.Path.{◌≡◌, ap, sym, ◌∙◌}
use mathlib.Core.Bool.{Bool, true, false}
use mathlib.Core.List.{List, [], ◌∷◌, map, flatten}
use mathlib.Core.Option.{none}
use Prim.Native.Nat.{ℕ, ◌+◌, ◌≤◌, ◌<◌}
use native.Mathlib.Omega.{arith}
use lib.ListN.{length, drop, set}
use Rattle.rfc4180.specs.InnerCursor.{digits, next_field, field_follows}
use Rattle.rfc4180.specs.Decimals.{value}
use Rattle.rfc4180.specs.Records.{rows}
use Rattle.rfc4180.specs.Tables.{fields_of, cells_of}
use Rattle.rfc4180.specs.InnerQuestions.{bytes_refusal, fields_refusal, field_refusal}
use Rattle.semigroups.specs.Calls.{overwritten}
use Rattle.rfc4180.proofs.Reading.{Left, Turn, following, flatten_after, turn, left_none, all_left}
use Rattle.rfc4180.proofs.Writing.{Writing, write_first, write_length, write_room, write_next, write_last, sets_overwritten}
use Rattle.rfc4180.proofs.Fields.{fields_passed}

pub record Filling (t before cells : List ℕ) (at k : ℕ) (more : Bool) : Type 0 where
  pub rest : List (List (List ℕ))
  pub left : Left t at more rest
  pub writing : Writing before 0 (cells_of t) (map value (flatten rest)) cells k
  pub numbers : fields_refusal (flatten rest) ≡ none

pub fill_first : {t before : List ℕ} → 1 ≤ length t → bytes_refusal t ≡ none → fields_refusal (fields_of t) ≡ none → Filling t before before 0 0 true
unfolding fields_of cells_of
fill_first {t} {before} one b n = record { rest = rows t; left = all_left one b; writing = write_first before 0 (cells_of t); numbers = n }

module _ {t before cells : List ℕ} {at k : ℕ} {more : Bool} (g : Filling t before cells at k more) where
  pub fill_length : length cells ≡ length before
  fill_length = write_length g.writing

  pub fill_done : length (cells_of t) ≤ length before → more ≡ false → cells ≡ overwritten (cells_of t) before
  unfolding flatten
  fill_done room h =
      (write_last g.writing (ap (λ (rs : List (List (List ℕ))). map value (flatten rs)) (left_none h g.left))).0 ∙ sets_overwritten before (cells_of t) room

  module _ (h : more ≡ true) where
    pub here : Turn t at g.rest
    here = turn h g.left

    -- The field at this place is the first that is left.
    first : flatten g.rest ≡ digits (drop at t) ∷ flatten (following here.fields here.later)
    first = ap flatten here.here ∙ flatten_after (digits (drop at t)) here.fields here.later

    passed : (field_refusal (digits (drop at t)) ≡ none) × (fields_refusal (flatten (following here.fields here.later)) ≡ none)
    passed = fields_passed (digits (drop at t)) (flatten (following here.fields here.later)) (rw first at g.numbers)

    pub fill_field : field_refusal (digits (drop at t)) ≡ none
    fill_field = passed.0

    pub fill_room : length (cells_of t) ≤ length before → k < length cells
    fill_room room = omega (arith, write_room g.writing (omega arith), ap (λ (fs : List (List ℕ)). length (map value fs)) first)

    pub fill_next : {x : ℕ} → x ≡ value (digits (drop at t)) → Filling t before (set cells k x) (next_field t at) (k + 1) (field_follows t at)
    fill_next {x} e =
        let rs = following here.fields here.later in
        record {
          rest = rs;
          left = here.left;
          writing = write_next g.writing (x ∷ []) (map value (flatten rs)) (ap (map value) first ∙ rw (sym e));
          numbers = passed.1;
        }
