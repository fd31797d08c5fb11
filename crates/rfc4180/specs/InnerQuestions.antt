-- Parts of the questions about loading a text, one for each function that asks them. Assumes nothing.
use Rattle.std.specs.Prelude.{List, [], ◌∷◌, ℕ}
use Rattle.std.proofs.Math.Option.{Option}
use Rattle.semigroups.specs.Questions.{Refusal, first_no}
use Rattle.rfc4180.specs.Questions.{bytes_question, fields_questions, grid_questions, field_questions}

-- The refusal of the bytes of a text by question 21, if it fails.
unfoldable pub bytes_refusal : List ℕ → Option Refusal
bytes_refusal t = first_no (bytes_question t ∷ [])

-- The refusal of fields, if a question about one of them fails.
unfoldable pub fields_refusal : List (List ℕ) → Option Refusal
fields_refusal fs = first_no (fields_questions fs)

-- The refusal of a text for a given order n, if a question about its fields or 26 fails.
unfoldable pub grid_refusal : ℕ → List ℕ → Option Refusal
grid_refusal n t = first_no (grid_questions n t)

-- The refusal of a field, if one of questions 24, 23 and 25 fails.
unfoldable pub field_refusal : List ℕ → Option Refusal
field_refusal f = first_no (field_questions f)
