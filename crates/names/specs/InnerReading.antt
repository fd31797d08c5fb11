-- The results of the functions that read and judge. They serve the proofs; no contract of an entry point cites them. Assumes nothing.
use Rattle.std.specs.Prelude.{◌≡◌, cond, ℕ, ◌+◌, ◌-◌, ◌≤◌, leb, length, take, drop, set, replicate, Result, Ok, Err}
use mathlib.Core.List.{List, flatten}
use Rattle.std.proofs.Math.Option.{none, some}
use Rattle.semigroups.specs.Tables.{largest_order}
use Rattle.semigroups.specs.Questions.{first_no}
use Rattle.answers.specs.Answers.{no_refusal}
use Rattle.sheets.specs.Grammar.{Row}
use Rattle.sheets.specs.Readings.{rows_names}
use Rattle.sheets.specs.Names.{names_text, names_at}
use Rattle.sheets.specs.Questions.{rows_questions, names_questions}
use Rattle.answers.specs.declared.No.{No}
use Rattle.names.specs.declared.Value.{Value}

-- ---- a field

-- A value holds the bytes s, or the first 41 of them, and then zeros.
pub record HoldsValue (s : List ℕ) (v : Value) : Type 0 where
  pub bytes : take v.size v.bytes ≡ take 41 s
  pub size : v.size ≡ length (take 41 s)
  pub room : length v.bytes ≡ 41
  pub padded : drop v.size v.bytes ≡ replicate (41 - v.size) 0

-- A value with one more byte, unless it has 41 already.
unfoldable pub extended : Value → ℕ → Value
extended v b = cond (leb 41 v.size) v (record { bytes = set v.bytes v.size b; size = v.size + 1; end = v.end })

-- ---- the records of a sheet, the names in memory

-- A result agrees with the records: with questions 42 and 41 about each, with the number of names, and with the number of their bytes.
abbrev pub Judges : List Row → Result (ℕ × ℕ) No → Type 0
Judges rows (Ok found) = (first_no (rows_questions 1 rows) ≡ none) × (found.0 ≡ length rows) × (found.1 ≡ length (flatten (rows_names rows)))
Judges rows (Err fault) = first_no (rows_questions 1 rows) ≡ some (no_refusal fault)

-- The records pass, and the buffers have room for the names and for their lengths.
pub record Fits (rows : List Row) (nameRoom lengthRoom : ℕ) : Type 0 where
  pub passed : first_no (rows_questions 1 rows) ≡ none
  pub names : length (flatten (rows_names rows)) ≤ nameRoom
  pub lengths : length rows ≤ lengthRoom

-- A result agrees with the names: with question 41 about each, and with the length of their text.
abbrev pub JudgesNames : List ℕ → List ℕ → Result ℕ No → Type 0
JudgesNames bytes lengths (Ok total) = (first_no (names_questions 1 bytes lengths) ≡ none) × (total ≡ length (names_text (names_at bytes lengths)))
JudgesNames bytes lengths (Err fault) = first_no (names_questions 1 bytes lengths) ≡ some (no_refusal fault)

-- There are at most 120 names, and each passes.
pub record Nameable (bytes lengths : List ℕ) : Type 0 where
  pub few : length lengths ≤ largest_order
  pub passed : first_no (names_questions 1 bytes lengths) ≡ none
