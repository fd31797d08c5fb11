-- What RULES 20 says of name sheets, as sentences about the definitions. Assumes nothing.
use Rattle.std.specs.Prelude.{◌≡◌, true, ◌⊎◌, ◌↔◌, ℕ, ◌≤◌}
use mathlib.Core.List.{List, [], ◌∷◌, Memᴰ}
use Rattle.std.proofs.Math.Option.{none, some}
use Rattle.semigroups.specs.Tables.{largest_order}
use Rattle.rfc4180.specs.Decimals.{numeral}
use Rattle.sheets.specs.Readings.{Reading, offence}
use Rattle.sheets.specs.ReadingsLaws.{Readable, SameReading}
use Rattle.sheets.specs.Names.{is_name, is_number, needs_quotes}
use Rattle.sheets.specs.Questions.{load_names_refusal, save_names_refusal}
use Rattle.sheets.specs.PassingLaws.{Name, LoadNamesPass, SaveNamesPass}
use Rattle.sheets.specs.CallsLaws.{LoadKeeps, SaveKeeps}
use Rattle.sheets.specs.RoundsLaws.{SavedNamesAreLoaded, LastBreakMayLack, SavedSheetStays, LoadedSheetStays}

-- What RULES 20 says of any names and any sheet.
pub record NameRequests : Type 0 where
  -- "A name is 1 to 40 bytes from hexadecimal 20 to 7E."
  pub a_name : (s : List ℕ) → (is_name s ≡ true) ↔ Name s
  -- "Numbers are decimal and start with no 0", and are at most 120.
  pub a_number : (k : ℕ) (f : List ℕ) → 1 ≤ k → (is_number k f ≡ true) ↔ ((k ≤ largest_order) × (f ≡ numeral k))
  -- "Saving quotes exactly those names that hold a comma or a quote mark."
  pub quotes_exactly : (s : List ℕ) → (needs_quotes s ≡ true) ↔ (Memᴰ 44 s ⊎ Memᴰ 34 s)
  -- Every text passes question 40 or has its offending place, and a call says the same by each reading; "an empty text offends at place 0".
  pub readable : Readable
  pub same_reading : SameReading
  pub empty_offends : (w : Reading []) → offence w ≡ some (0 ∷ [])
  -- What passes the questions, in plain words and in both directions.
  pub load_passes : (t : List ℕ) (w : Reading t) (nameRoom lengthRoom : ℕ) → (load_names_refusal w nameRoom lengthRoom ≡ none) ↔ LoadNamesPass t nameRoom lengthRoom
  pub save_passes : (bytes lengths : List ℕ) (room : ℕ) → (save_names_refusal bytes lengths room ≡ none) ↔ SaveNamesPass bytes lengths room
  -- A refusal changes no byte.
  pub load_keeps : LoadKeeps
  pub save_keeps : SaveKeeps
  -- "Names loaded from a saved sheet are the names saved."
  pub names_back : SavedNamesAreLoaded
  -- "Loading and saving a second time changes no byte": neither of a sheet that was saved nor of any that loads, however often.
  pub saved_stays : SavedSheetStays
  pub loaded_stays : LoadedSheetStays
  -- RULES 20.4: "the last record may lack its break, as in 19.2."
  pub last_break : LastBreakMayLack
