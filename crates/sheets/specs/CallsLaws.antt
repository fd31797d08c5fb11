-- A refused call changes no byte.
-- Assumes nothing.
use Rattle.std.specs.Prelude.{◌≡◌, List, ℕ, length}
use Rattle.std.proofs.Math.Option.{some}
use Rattle.semigroups.specs.Questions.{Refusal}
use Rattle.sheets.specs.Readings.{Reading}
use Rattle.sheets.specs.Questions.{load_names_refusal, save_names_refusal}
use Rattle.sheets.specs.Calls.{names_after, lengths_after, sheet_after}

-- A refusal changes no byte of the names and their lengths.
abbrev pub LoadKeeps : Type 0
LoadKeeps =
    (t : List ℕ) (w : Reading t) (names lengths : List ℕ) (r : Refusal) → load_names_refusal w (length names) (length lengths) ≡ some r
    → (names_after w names lengths ≡ names) × (lengths_after w names lengths ≡ lengths)

-- A refusal changes no byte of the text.
abbrev pub SaveKeeps : Type 0
SaveKeeps = (names lengths text : List ℕ) (r : Refusal) → save_names_refusal names lengths (length text) ≡ some r → sheet_after names lengths text ≡ text
