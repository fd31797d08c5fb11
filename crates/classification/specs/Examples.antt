-- The example of RULES 22.6: swap, null3 and swap again in three files, and the whole output, as bytes; an empty file; a folder with a gap, and a full one.
-- Assumes nothing.
use Rattle.std.specs.Prelude.{◌≡◌, cond, List, [], ◌∷◌, ℕ}
use Rattle.std.proofs.Math.Option.{none, some}
use Rattle.semigroups.specs.Lists.{member}
use Rattle.progress.specs.Classes.{Folder}
use Rattle.progress.specs.Output.{classes_output}

-- The file `1,2 / 2,1`.
unfoldable pub swap_file : List ℕ
swap_file = 49 ∷ 44 ∷ 50 ∷ 13 ∷ 10 ∷ 50 ∷ 44 ∷ 49 ∷ 13 ∷ 10 ∷ []

-- The file `1,1,1 / 1,1,1 / 1,1,1`.
unfoldable pub null_file : List ℕ
null_file = 49 ∷ 44 ∷ 49 ∷ 44 ∷ 49 ∷ 13 ∷ 10 ∷ 49 ∷ 44 ∷ 49 ∷ 44 ∷ 49 ∷ 13 ∷ 10 ∷ 49 ∷ 44 ∷ 49 ∷ 44 ∷ 49 ∷ 13 ∷ 10 ∷ []

-- The output `class,1,2,1 / class,2,3,2 / class,3,2,1 / total,1,2 / total,2,1`.
unfoldable pub classes_printed : List ℕ
classes_printed = 99 ∷ 108 ∷ 97 ∷ 115 ∷ 115 ∷ 44 ∷ 49 ∷ 44 ∷ 50 ∷ 44 ∷ 49 ∷ 13 ∷ 10 ∷ 99 ∷ 108 ∷ 97 ∷ 115 ∷ 115 ∷ 44 ∷ 50 ∷ 44 ∷ 51 ∷ 44 ∷ 50 ∷ 13 ∷ 10 ∷ 99 ∷ 108 ∷ 97 ∷ 115 ∷ 115 ∷ 44 ∷ 51 ∷ 44 ∷ 50 ∷ 44 ∷ 49 ∷ 13 ∷ 10 ∷ 116 ∷ 111 ∷ 116 ∷ 97 ∷ 108 ∷ 44 ∷ 49 ∷ 44 ∷ 50 ∷ 13 ∷ 10 ∷ 116 ∷ 111 ∷ 116 ∷ 97 ∷ 108 ∷ 44 ∷ 50 ∷ 44 ∷ 49 ∷ 13 ∷ 10 ∷ []

-- What the program prints for swap, null3 and swap again.
abbrev pub ClassesExample : Type 0
ClassesExample = classes_output (swap_file ∷ null_file ∷ swap_file ∷ []) ≡ classes_printed

-- The output `refused,1,20`.
unfoldable pub empty_printed : List ℕ
empty_printed = 114 ∷ 101 ∷ 102 ∷ 117 ∷ 115 ∷ 101 ∷ 100 ∷ 44 ∷ 49 ∷ 44 ∷ 50 ∷ 48 ∷ 13 ∷ 10 ∷ []

-- A folder with the files 1, 2 and 4.
unfoldable pub gap_folder : Folder
gap_folder k = cond (member k (1 ∷ 2 ∷ 4 ∷ [])) (some swap_file) none

-- A folder with every file.
unfoldable pub full_folder : Folder
full_folder k = some swap_file
