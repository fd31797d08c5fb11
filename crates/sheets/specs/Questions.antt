-- The questions about loading and saving a name sheet, as RULES 20.7 and 20.9 list them.
-- Assumes nothing.
use Rattle.std.specs.Prelude.{Bool, ◌&&◌, cond, ℕ, suc, leb, length, take, drop}
use mathlib.Core.List.{List, [], ◌∷◌, ◌++◌, flatten}
use Rattle.std.proofs.Math.Option.{Option, none, some}
use Rattle.semigroups.specs.Tables.{largest_order, is_element}
use Rattle.semigroups.specs.Questions.{Question, ask, seek, Refusal, first_no}
use Rattle.sheets.specs.Grammar.{Row}
use Rattle.sheets.specs.Readings.{Reading, offence, read_rows, names_in}
use Rattle.sheets.specs.Names.{is_name, is_number, names_text, names_at}

-- What a question about a record or a name carries if it fails: the place, counted from 1.
abbrev pub place_unless : Bool → ℕ → Option (List ℕ)
place_unless passes k = cond passes none (some (k ∷ []))

-- ---- loading

-- The questions about the record at place k: 42, is its number k, and at most 120? 41, is its name 1 to 40 allowed bytes?
abbrev pub row_questions : ℕ → Row → List Question
row_questions k r = seek 42 (place_unless (is_number k r.number) k) ∷ seek 41 (place_unless (is_name r.name) k) ∷ []

-- The questions about the records from place k on: the two about one record come before those about the next.
unfoldable pub rows_questions : ℕ → List Row → List Question
rows_questions k [] = []
rows_questions k (r ∷ rs) = row_questions k r ++ rows_questions (suc k) rs

-- The questions about loading a text, by a reading of it, into buffers with room for this many bytes of names and this many lengths: 40, do its bytes form
-- one or more records of two fields? Then 42 and 41 about each record; then 27, do the buffers have room for the names and for their lengths?
abbrev pub load_names_questions : {t : List ℕ} → Reading t → ℕ → ℕ → List Question
load_names_questions w nameRoom lengthRoom =
    seek 40 (offence w) ∷ (rows_questions 1 (read_rows w) ++ ask 27 (leb (length (flatten (names_in w))) nameRoom) ∷ ask 27 (leb (length (names_in w)) lengthRoom) ∷ [])

-- The refusal of a call that loads a name sheet, if a question fails.
unfoldable pub load_names_refusal : {t : List ℕ} → Reading t → ℕ → ℕ → Option Refusal
load_names_refusal w nameRoom lengthRoom = first_no (load_names_questions w nameRoom lengthRoom)

-- ---- saving

-- The questions about the names from place k on, in these bytes with these lengths: 41, do the bytes of the name lie in the buffer, and are they 1 to 40
-- allowed bytes?
unfoldable pub names_questions : ℕ → List ℕ → List ℕ → List Question
names_questions k bytes [] = []
names_questions k bytes (n ∷ ns) = seek 41 (place_unless (leb n (length bytes) && is_name (take n bytes)) k) ∷ names_questions (suc k) (drop n bytes) ns

-- The questions about saving names into a text buffer of this many bytes: 42, are there 1 to 120 lengths? Then 41 about each name; then 28, has the buffer
-- room for the whole sheet?
abbrev pub save_names_questions : List ℕ → List ℕ → ℕ → List Question
save_names_questions bytes lengths room =
    ask 42 (is_element largest_order (length lengths)) ∷ (names_questions 1 bytes lengths ++ ask 28 (leb (length (names_text (names_at bytes lengths))) room) ∷ [])

-- The refusal of a call that saves a name sheet, if a question fails.
unfoldable pub save_names_refusal : List ℕ → List ℕ → ℕ → Option Refusal
save_names_refusal bytes lengths room = first_no (save_names_questions bytes lengths room)
