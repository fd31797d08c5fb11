-- RULES 19.2 and 19.6, as sentences about the definitions. Assumes nothing.
use Rattle.std.specs.Prelude.{◌≡◌, List, [], ◌∷◌, ◌++◌, ℕ, suc, ◌≤◌, ◌<◌, length, get_or}
use Rattle.std.proofs.Math.Option.{some}
use Rattle.semigroups.specs.Questions.{Refusal}
use Rattle.semigroups.specs.InnerQuestions.{no}
use Rattle.semigroups.specs.Calls.{refused}
use Rattle.rfc4180.specs.RoundsLaws.{closed, LoadedSaves, LoadsClosed, Buffers, text_held, rounds, RoundsClose}
use Rattle.rfc4180.specs.Tables.{fields_of, order_of, cells_of}
use Rattle.rfc4180.specs.Questions.{longest_text, first_other, load_refusal}
use Rattle.rfc4180.specs.InnerQuestions.{field_refusal}
use Rattle.rfc4180.specs.PassingLaws.{LoadPasses}
use Rattle.rfc4180.specs.Calls.{load_answer, cells_after}

-- A text that only its last line break makes too long: as it is, it passes question 20 and fails a later one; with that line break it fails question 20. No
-- byte changes either way.
pub record TooLongClosed (t cells : List ℕ) : Type 0 where
  pub by : Refusal
  pub refused_later : load_answer t cells ≡ refused by
  pub not_20 : by.number ≡ 20 → ⊥
  pub closed_20 : load_answer (closed t) cells ≡ refused (no 20 [])
  pub kept : cells_after t cells ≡ cells
  pub closed_kept : cells_after (closed t) cells ≡ cells

-- What RULES 19.2 and 19.6 ask to be shown.
pub record TextRequests : Type 0 where
  -- RULES 19.2: "without it the text loads exactly as if CR LF followed". This holds of a text that has at most 57,720 bytes with its last line break, and of
  -- any text that loads.
  pub as_closed : (t cells : List ℕ) → length (closed t) ≤ longest_text → LoadsClosed t cells
  pub loaded_as_closed : (t cells : List ℕ) → LoadPasses t (length cells) → LoadsClosed t cells
  -- RULES 19.6: "Questions 20 and 21 speak of the text as it came": so a text of 57,719 or 57,720 bytes that lacks its last line break is refused by
  -- another question than with the line break; and the first other byte is the same.
  pub too_long_closed : (t cells : List ℕ) → length t ≤ longest_text → longest_text < length (closed t) → TooLongClosed t cells
  pub same_other_byte : (t : List ℕ) → first_other (closed t) ≡ first_other t
  -- RULES 19.2: "A text that ends in a comma has an empty last field."
  pub comma_last : (t : List ℕ) → (before : List (List ℕ)) × (fields_of (t ++ 44 ∷ []) ≡ before ++ [] ∷ [])
  -- RULES 19.5: "Loading and then saving an accepted text whose entries lie within its order gives that text, with the last break added where it was missing";
  -- and doing so again, however often, changes no further byte.
  pub loaded_saves : (t buffer text : List ℕ) → LoadPasses t (length buffer) → ((k : ℕ) → k < length (cells_of t) → get_or (cells_of t) k 0 ≤ order_of t) → length (closed t) ≤ length text
      → LoadedSaves t buffer text
  pub loaded_stays : (b : Buffers) → LoadPasses (text_held b) (length b.cells) → ((k : ℕ) → k < length (cells_of (text_held b)) → get_or (cells_of (text_held b)) k 0 ≤ order_of (text_held b))
      → length (closed (text_held b)) ≤ length b.text → (r : ℕ) → RoundsClose (text_held b) b (rounds (suc r) b)
  -- RULES 7.2: "there is no question 22".
  pub never_22 : (t : List ℕ) (room : ℕ) (r : Refusal) → load_refusal t room ≡ some r → r.number ≡ 22 → ⊥
  -- RULES 19.6: question 24 is asked before 23; "an empty field has no first byte, so it passes question 24 and fails question 23".
  pub leading_zero : (f : List ℕ) → get_or f 0 0 ≡ 48 → field_refusal f ≡ some (no 24 [])
  pub empty_field : field_refusal [] ≡ some (no 23 [])
