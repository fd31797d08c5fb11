-- The program ends, and what it then prints is `folder_output`, whatever folder its steps get their files from. Assumes nothing.
use Rattle.std.specs.Prelude.{◌≡◌, List, ℕ, suc, ◌-◌, ◌*◌, ◌≤◌, ◌<◌, length}
use Rattle.std.proofs.Math.Option.{Option}
use Rattle.progress.specs.Classes.{Folder, most_files, Note}
use Rattle.progress.specs.Output.{notes_text, folder_output}
use Rattle.progress.specs.Progress.{Phase, reading, comparing, over, Progress, wanted, served, start, Sound, step}

-- ---- what always holds of the progress

-- A bound on how many files may still be asked for.
abbrev pub still_to_read_in : List Note → Phase → ℕ
still_to_read_in notes reading = (most_files - length notes) * suc most_files
still_to_read_in notes (comparing n cells j) = (most_files - length notes) * suc most_files - j
still_to_read_in notes over = 0

-- That bound, for the whole progress.
abbrev pub still_to_read : Progress → ℕ
still_to_read s = still_to_read_in s.notes s.phase

-- ---- the whole run

-- After at most 2,550 steps no file is asked for, and the notes make the whole output.
pub record Prints (folder : Folder) : Type 0 where
  pub ends : wanted (served folder (most_files * suc most_files) start) ≡ 0
  pub output : notes_text (served folder (most_files * suc most_files) start).notes ≡ folder_output folder

-- A step keeps what always holds, leaves fewer files to ask for, and never asks for a file above 50.
pub record Goes (s : Progress) : Type 0 where
  pub sound : (answer : Option (List ℕ)) → Sound (step s answer)
  pub fewer : (answer : Option (List ℕ)) → still_to_read (step s answer) < still_to_read s
  pub within : wanted s ≤ most_files
