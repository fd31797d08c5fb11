-- The example of RULES 21.4: two files and the whole output, as bytes.
-- Assumes nothing.
use Rattle.std.specs.Prelude.{◌≡◌, List, [], ◌∷◌, ℕ}
use Rattle.output.specs.Program.{recue_output}

-- The file `1,2 / 2,1`.
unfoldable pub source_file : List ℕ
source_file = 49 ∷ 44 ∷ 50 ∷ 13 ∷ 10 ∷ 50 ∷ 44 ∷ 49 ∷ 13 ∷ 10 ∷ []

-- The file `1,1,4,4 / 1,2,3,4 / 1,3,2,4 / 1,4,1,4`.
unfoldable pub target_file : List ℕ
target_file = 49 ∷ 44 ∷ 49 ∷ 44 ∷ 52 ∷ 44 ∷ 52 ∷ 13 ∷ 10 ∷ 49 ∷ 44 ∷ 50 ∷ 44 ∷ 51 ∷ 44 ∷ 52 ∷ 13 ∷ 10 ∷ 49 ∷ 44 ∷ 51 ∷ 44 ∷ 50 ∷ 44 ∷ 52 ∷ 13 ∷ 10 ∷ 49 ∷ 44 ∷ 52 ∷ 44 ∷ 49 ∷ 44 ∷ 52 ∷ 13 ∷ 10 ∷ []

-- The output `found,2,4 / 1,2 / 2,3`.
unfoldable pub recue_printed : List ℕ
recue_printed = 102 ∷ 111 ∷ 117 ∷ 110 ∷ 100 ∷ 44 ∷ 50 ∷ 44 ∷ 52 ∷ 13 ∷ 10 ∷ 49 ∷ 44 ∷ 50 ∷ 13 ∷ 10 ∷ 50 ∷ 44 ∷ 51 ∷ 13 ∷ 10 ∷ []

-- What the program prints for these two files.
abbrev pub RecueExample : Type 0
RecueExample = recue_output source_file target_file ≡ recue_printed
