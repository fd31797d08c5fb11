-- What a call that loads or saves a name sheet says, and the bytes that it leaves, from all that is lent (RULES 20). Loading is defined by a reading of the
-- text: every text has a reading, and all readings give the same (`Readable` and `SameReading` in ReadingsLaws).
-- Assumes nothing.
use mathlib.Core.List.{List, map, flatten}
use Rattle.std.specs.Prelude.{ℕ, length}
use Rattle.semigroups.specs.Calls.{Answer, given_unless, written_unless}
use Rattle.sheets.specs.Readings.{Reading, names_in}
use Rattle.sheets.specs.Names.{names_text, names_at}
use Rattle.sheets.specs.Questions.{load_names_refusal, save_names_refusal}

-- ---- loading a text into a buffer for the names, one after another, and one for their lengths, a byte each

-- What a call that loads answers: the number of names.
unfoldable pub load_names_answer : {t : List ℕ} → Reading t → List ℕ → List ℕ → Answer ℕ
load_names_answer w names lengths = given_unless (load_names_refusal w (length names) (length lengths)) (length (names_in w))

-- The buffer of names after the call: the names, one after another; later bytes are untouched, and a refusal changes no byte.
unfoldable pub names_after : {t : List ℕ} → Reading t → List ℕ → List ℕ → List ℕ
names_after w names lengths = written_unless (load_names_refusal w (length names) (length lengths)) (flatten (names_in w)) names

-- The buffer of lengths after the call: the length of each name; later bytes are untouched, and a refusal changes no byte.
unfoldable pub lengths_after : {t : List ℕ} → Reading t → List ℕ → List ℕ → List ℕ
lengths_after w names lengths = written_unless (load_names_refusal w (length names) (length lengths)) (map length (names_in w)) lengths

-- ---- saving names with these lengths into a text buffer

-- What a call that saves answers: the length of the sheet.
unfoldable pub save_names_answer : List ℕ → List ℕ → List ℕ → Answer ℕ
save_names_answer names lengths text = given_unless (save_names_refusal names lengths (length text)) (length (names_text (names_at names lengths)))

-- The text buffer after the call: the sheet of the names; later bytes are untouched, and a refusal changes no byte.
unfoldable pub sheet_after : List ℕ → List ℕ → List ℕ → List ℕ
sheet_after names lengths text = written_unless (save_names_refusal names lengths (length text)) (names_text (names_at names lengths)) text
