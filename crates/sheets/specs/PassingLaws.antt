-- What passes the questions about loading and saving a name sheet, in plain words (RULES 20): a call is not refused exactly if this holds. Assumes nothing.
use Rattle.std.specs.Prelude.{◌≡◌, ℕ, ◌≤◌, length}
use mathlib.Core.List.{List, map, flatten, Memᴰ}
use Rattle.semigroups.specs.Lists.{elements, sum}
use Rattle.semigroups.specs.Tables.{largest_order, Element}
use Rattle.rfc4180.specs.Decimals.{numeral}
use Rattle.sheets.specs.Grammar.{IsSheet, Row, sheet_rows}
use Rattle.sheets.specs.Readings.{rows_names}
use Rattle.sheets.specs.Names.{names_text, names_at}

-- A name is 1 to 40 bytes from hexadecimal 20 to 7E.
pub record Name (s : List ℕ) : Type 0 where
  pub some_byte : 1 ≤ length s
  pub short : length s ≤ 40
  pub allowed : (b : ℕ) → Memᴰ b s → (32 ≤ b) × (b ≤ 126)

-- What passes the questions about loading a text into buffers for this many bytes of names and this many lengths: it is a sheet; its records have the decimal
-- numbers from 1 on, at most 120, and names; the buffers have room.
pub record LoadNamesPass (t : List ℕ) (nameRoom lengthRoom : ℕ) : Type 0 where
  pub form : IsSheet t
  pub numbers : map (λ (r : Row). r.number) (sheet_rows form.sheet) ≡ map numeral (elements (length (sheet_rows form.sheet)))
  pub few : length (sheet_rows form.sheet) ≤ largest_order
  pub names : (s : List ℕ) → Memᴰ s (rows_names (sheet_rows form.sheet)) → Name s
  pub names_room : length (flatten (rows_names (sheet_rows form.sheet))) ≤ nameRoom
  pub lengths_room : length (sheet_rows form.sheet) ≤ lengthRoom

-- What passes the questions about saving names with these lengths, one after another in these bytes, into a text buffer of this many bytes: there are 1 to
-- 120 names, all of whose bytes are there; the buffer has room.
pub record SaveNamesPass (bytes lengths : List ℕ) (room : ℕ) : Type 0 where
  pub count : Element largest_order (length lengths)
  pub inside : sum (λ (n : ℕ). n) lengths ≤ length bytes
  pub names : (s : List ℕ) → Memᴰ s (names_at bytes lengths) → Name s
  pub text_room : length (names_text (names_at bytes lengths)) ≤ room
