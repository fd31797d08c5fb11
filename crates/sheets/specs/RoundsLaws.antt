-- The round trips of a name sheet (RULES 20.5); and rounds: a sheet is loaded and what was loaded is saved, again and again, on the same buffers.
-- Assumes nothing.
use Rattle.std.specs.Prelude.{◌≡◌, false, ℕ, zero, suc, ◌≤◌, length, take}
use mathlib.Core.List.{List, [], ◌∷◌, ◌++◌, flatten}
use Rattle.semigroups.specs.Lists.{sum}
use Rattle.semigroups.specs.Calls.{gives, overwritten}
use Rattle.rfc4180.specs.RoundsLaws.{given}
use Rattle.sheets.specs.Grammar.{IsSheet}
use Rattle.sheets.specs.Readings.{Reading, names_in}
use Rattle.sheets.specs.ReadingsLaws.{Readable}
use Rattle.sheets.specs.Names.{names_text, names_at}
use Rattle.sheets.specs.PassingLaws.{SaveNamesPass}
use Rattle.sheets.specs.Calls.{load_names_answer, names_after, lengths_after, save_names_answer, sheet_after}

-- ---- there and back

-- A text loads as these names, one after another, with these lengths.
pub record LoadsAs (t names lengths namesBuffer lengthsBuffer : List ℕ) : Type 0 where
  pub count : (w : Reading t) → load_names_answer w namesBuffer lengthsBuffer ≡ gives (length lengths)
  pub names_same : (w : Reading t) → names_after w namesBuffer lengthsBuffer ≡ overwritten names namesBuffer
  pub lengths_same : (w : Reading t) → lengths_after w namesBuffer lengthsBuffer ≡ overwritten lengths lengthsBuffer

-- "Names loaded from a saved sheet are the names saved": their bytes up to the last length, and their lengths.
pub record SavedNamesLoad (names lengths text namesBuffer lengthsBuffer : List ℕ) : Type 0 where
  pub size : ℕ
  pub saved : save_names_answer names lengths text ≡ gives size
  pub bytes : List ℕ
  pub rest : List ℕ
  pub whole : names ≡ bytes ++ rest
  pub up_to_last : length bytes ≡ sum (λ (n : ℕ). n) lengths
  pub loaded : LoadsAs (take size (sheet_after names lengths text)) bytes lengths namesBuffer lengthsBuffer

-- A sheet without its last line break loads exactly as if CR LF followed (RULES 20.4).
pub record NamesLoadClosed (t names lengths : List ℕ) : Type 0 where
  pub count : (v : Reading t) (w : Reading (t ++ 13 ∷ 10 ∷ [])) → load_names_answer v names lengths ≡ load_names_answer w names lengths
  pub names_same : (v : Reading t) (w : Reading (t ++ 13 ∷ 10 ∷ [])) → names_after v names lengths ≡ names_after w names lengths
  pub lengths_same : (v : Reading t) (w : Reading (t ++ 13 ∷ 10 ∷ [])) → lengths_after v names lengths ≡ lengths_after w names lengths

-- ---- again and again

-- The three buffers, and how many bytes of the first are the sheet.
pub record NameBuffers : Type 0 where
  pub text : List ℕ
  pub size : ℕ
  pub names : List ℕ
  pub lengths : List ℕ

-- The sheet that the first buffer holds.
abbrev pub sheet_held : NameBuffers → List ℕ
sheet_held b = take b.size b.text

-- The buffers after names are saved.
unfoldable pub names_saved : List ℕ → List ℕ → NameBuffers → NameBuffers
names_saved names lengths b =
    record { text = sheet_after names lengths b.text; size = given (save_names_answer names lengths b.text); names = b.names; lengths = b.lengths }

-- One round: the sheet is loaded, by a reading of it, and the names that this gives are saved.
unfoldable pub name_round : (b : NameBuffers) → Reading (sheet_held b) → NameBuffers
name_round b w =
    names_saved (names_after w b.names b.lengths) (take (given (load_names_answer w b.names b.lengths)) (lengths_after w b.names b.lengths))
    (record { text = b.text; size = b.size; names = names_after w b.names b.lengths; lengths = lengths_after w b.names b.lengths })

-- The buffers after this many rounds.
unfoldable pub name_rounds : Readable → ℕ → NameBuffers → NameBuffers
name_rounds read zero b = b
name_rounds read (suc k) b = let c = name_rounds read k b in name_round c (read (sheet_held c))

-- The text buffer and the length of the sheet have not changed.
pub record SheetUnchanged (first b : NameBuffers) : Type 0 where
  pub text : b.text ≡ first.text
  pub size : b.size ≡ first.size

-- What `SavedNamesLoad` claims holds for any names that can be saved, with room for them.
abbrev pub SavedNamesAreLoaded : Type 0
SavedNamesAreLoaded =
    (names lengths text namesBuffer lengthsBuffer : List ℕ) → SaveNamesPass names lengths (length text) → length (flatten (names_at names lengths)) ≤ length namesBuffer
    → length lengths ≤ length lengthsBuffer → SavedNamesLoad names lengths text namesBuffer lengthsBuffer

-- What `NamesLoadClosed` claims holds for any sheet without its last line break.
abbrev pub LastBreakMayLack : Type 0
LastBreakMayLack = (t : List ℕ) (p : IsSheet t) → p.sheet.closed ≡ false → (names lengths : List ℕ) → NamesLoadClosed t names lengths

-- Names saved, then loaded and saved again, however often: the sheet keeps every byte.
abbrev pub SavedSheetStays : Type 0
SavedSheetStays =
    (read : Readable) (names lengths : List ℕ) (b : NameBuffers) → SaveNamesPass names lengths (length b.text) → length (flatten (names_at names lengths)) ≤ length b.names
    → length lengths ≤ length b.lengths → (n : ℕ) → SheetUnchanged (names_saved names lengths b) (name_rounds read n (names_saved names lengths b))

-- "Loading and saving a second time changes no byte" of any of the three buffers, for any sheet that loads, however often it is done.
abbrev pub LoadedSheetStays : Type 0
LoadedSheetStays =
    (read : Readable) (b : NameBuffers) (count : ℕ) → load_names_answer (read (sheet_held b)) b.names b.lengths ≡ gives count
    → length (names_text (names_in (read (sheet_held b)))) ≤ length b.text → (n : ℕ) → name_rounds read (suc n) b ≡ name_round b (read (sheet_held b))
