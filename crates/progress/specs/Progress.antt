-- How the program goes through a folder, two tables at a time (RULES 22.1): which file it asks for next, and what it holds once it has that file. That it
-- ends, and then prints `folder_output` of any folder, is `Prints` in crate `classification`. Assumes nothing.
use Rattle.std.specs.Prelude.{Bool, true, false, ◌&&◌, cond, List, [], ◌∷◌, ◌++◌, ℕ, zero, suc, ◌≤◌, ◌<◌, eqb, leb, ltb, length}
use Rattle.std.proofs.Math.Option.{Option, none, some}
use Rattle.semigroups.specs.Lists.{least}
use Rattle.semigroups.specs.Tables.{Element, Accepted}
use Rattle.semigroups.specs.Questions.{Refusal}
use Rattle.rfc4180.specs.Tables.{order_of, cells_of}
use Rattle.files.specs.Files.{file_refusal, room}
use Rattle.progress.specs.Classes.{Folder, most_files, holds_like, Note, refused_by, in_class}
use Rattle.progress.specs.Output.{note}

-- Whether file i, with this note, is the lowest file of a class of tables of order n.
abbrev pub names_order : ℕ → ℕ → Note → Bool
names_order n i (refused_by q) = false
names_order n i (in_class m l) = eqb m n && eqb l i

-- What comes next: a new file is read; or file j is read again, to be compared with the new file's table, which has order n and these cells; or no more
-- files are asked for.
pub data Phase : Type 0 where
  reading : Phase
  comparing : ℕ → List ℕ → ℕ → Phase
  over : Phase

-- The notes of the files read so far, and what comes next.
pub record Progress : Type 0 where
  pub notes : List Note
  pub phase : Phase

-- The progress with these notes and this phase.
abbrev pub progress : List Note → Phase → Progress
progress notes phase = record { notes = notes; phase = phase }

-- The progress before any file is read.
abbrev pub start : Progress
start = progress [] reading

-- The number of the file that is asked for, or 0 if none is.
abbrev pub wanted_in : List Note → Phase → ℕ
wanted_in notes reading = cond (ltb (length notes) most_files) (suc (length notes)) 0
wanted_in notes (comparing n cells j) = j
wanted_in notes over = 0

-- The number of the file that is asked for, or 0 if none is.
abbrev pub wanted : Progress → ℕ
wanted s = wanted_in s.notes s.phase

-- The first file above j that is the lowest of a class of tables of order n; if there is none, the number of the new file.
unfoldable pub next_class : List Note → ℕ → ℕ → ℕ
next_class notes n j = least (length notes) (λ i. ltb j i && names_order n i (note notes i))

-- The progress with one more note; the next file is a new one.
abbrev pub noted : List Note → Note → Progress
noted notes said = progress (notes ++ said ∷ []) reading

-- The progress after the comparison with class j failed: the next class of that order is compared, or the new file starts a class of its own.
unfoldable pub onward : List Note → ℕ → List ℕ → ℕ → Progress
onward notes n cells j = let i = next_class notes n j in cond (leb i (length notes)) (progress notes (comparing n cells i)) (noted notes (in_class n i))

-- The progress after a new file with these bytes and this refusal, if any.
abbrev pub begun : List Note → List ℕ → Option Refusal → Progress
begun notes t (some r) = noted notes (refused_by r.number)
begun notes t none = onward notes (order_of t) (cells_of t) 0

-- The progress after file j was read again: the new file is in the class of file j, or it is not.
abbrev pub compared : List Note → ℕ → List ℕ → ℕ → Bool → Progress
compared notes n cells j true = noted notes (in_class n j)
compared notes n cells j false = onward notes n cells j

-- One step: the program gets the bytes of the file that it asked for, or none if it cannot be opened. A file that was opened before and cannot be opened again
-- counts as isomorphic to no table.
abbrev pub step_in : List Note → Phase → Option (List ℕ) → Progress
step_in notes reading none = progress notes over
step_in notes reading (some t) = begun notes t (file_refusal t room)
step_in notes (comparing n cells j) none = compared notes n cells j false
step_in notes (comparing n cells j) (some t) = compared notes n cells j (holds_like t n cells)
step_in notes over answer = progress notes over

-- The progress after the file asked for was read, or could not be opened.
abbrev pub step : Progress → Option (List ℕ) → Progress
step s answer = step_in s.notes s.phase answer

-- ---- what always holds of the progress

-- There are at most 50 notes. While a new file is compared, there is room for its note, its table is accepted, and the file that it is compared with has a
-- note.
abbrev pub SoundIn : List Note → Phase → Type 0
SoundIn notes reading = length notes ≤ most_files
SoundIn notes (comparing n cells j) = (length notes < most_files) × Accepted n cells × Element (length notes) j
SoundIn notes over = length notes ≤ most_files

-- What always holds of the progress.
abbrev pub Sound : Progress → Type 0
Sound s = SoundIn s.notes s.phase

-- ---- the whole run

-- The progress after at most this many steps, each with the bytes that the folder has for the file asked for. It stops once no file is asked for.
unfoldable pub served : Folder → ℕ → Progress → Progress
served folder zero s = s
served folder (suc d) s = let later = served folder d (step s (folder (wanted s))) in cond (eqb (wanted s) 0) s later
