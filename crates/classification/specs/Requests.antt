-- What RULES 22 says of the program `classes`, for any files and any folder. Assumes nothing.
use Rattle.std.specs.Prelude.{◌≡◌, List, ℕ}
use Rattle.progress.specs.Classes.{Folder}
use Rattle.classification.specs.Laws.{Classified, Totalled, NothingForNoFile, FirstBytesOfEach}
use Rattle.progress.specs.Progress.{Progress, Sound, wanted}
use Rattle.classification.specs.ProgressLaws.{Prints, Goes}
use Rattle.classification.specs.Examples.{ClassesExample}

pub record ClassesRequests : Type 0 where
  -- RULES 22.2 to 22.5: the classes and the totals.
  pub classes : (files : List (List ℕ)) → Classified files
  pub totals : (files : List (List ℕ)) → Totalled files
  -- With no file it prints nothing.
  pub no_file : NothingForNoFile
  -- RULES 22.6: the example, byte for byte.
  pub example : ClassesExample
  -- RULES 22.1: a run ends and prints the whole output, whatever the folder; each step leaves fewer files to ask for, and none above 50.
  pub prints : (folder : Folder) → Prints folder
  pub goes : (s : Progress) → Sound s → (wanted s ≡ 0 → ⊥) → Goes s
  -- No byte of a file after its first 57,721 makes a difference.
  pub first_bytes_law : (folder : Folder) → FirstBytesOfEach folder
