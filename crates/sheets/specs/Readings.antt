-- What question 40 decides about a text (RULES 20.8): it passes, or it fails and has an offending place. Assumes nothing.
use Rattle.std.specs.Prelude.{List, [], ◌∷◌, ◌++◌, map, ℕ, ◌≤◌, ◌<◌, length, take}
use Rattle.std.proofs.Math.Option.{Option, none, some}
use Rattle.sheets.specs.Grammar.{IsSheet, Row, sheet_rows}

-- ---- the offending place

-- Some text passing question 40 starts with p.
pub record BeginsSheet (p : List ℕ) : Type 0 where
  pub rest : List ℕ
  pub passes : IsSheet (p ++ rest)

-- k is the offending place (RULES 20.8): "the length of the longest beginning of the text that some text passing question 40 starts with, whatever its
-- numbers and names".
pub record Offending (t : List ℕ) (k : ℕ) : Type 0 where
  pub within : k ≤ length t
  pub begins : BeginsSheet (take k t)
  pub longest : (j : ℕ) → k < j → j ≤ length t → BeginsSheet (take j t) → ⊥

-- ---- a reading of a text

-- A reading of a text: that it passes question 40, or its offending place.
pub data Reading (t : List ℕ) : Type 0 where
  passes : IsSheet t → Reading t
  offends : (k : ℕ) → (IsSheet t → ⊥) → Offending t k → Reading t

-- The offending place, if the text fails.
abbrev pub offence : {t : List ℕ} → Reading t → Option (List ℕ)
offence (passes p) = none
offence (offends k fails place) = some (k ∷ [])

-- The values of its records; if the text fails, there are none.
abbrev pub read_rows : {t : List ℕ} → Reading t → List Row
read_rows (passes p) = sheet_rows p.sheet
read_rows (offends k fails place) = []

-- The names on the records.
unfoldable pub rows_names : List Row → List (List ℕ)
rows_names l = map (λ r. r.name) l

-- The names that a reading gives.
abbrev pub names_in : {t : List ℕ} → Reading t → List (List ℕ)
names_in w = rows_names (read_rows w)
