-- Which files hold isomorphic tables (RULES 22). A file is its bytes; files count from 1, in file order.
-- Assumes nothing.
use Rattle.std.specs.Prelude.{Bool, not, ◌&&◌, List, [], ◌∷◌, map, ℕ, zero, suc, ◌-◌, length, get_or}
use Rattle.std.proofs.Math.Option.{Option, none, some}
use Rattle.semigroups.specs.Lists.{elements, is_some, least}
use Rattle.semigroups.specs.Tables.{product}
use Rattle.semigroups.specs.Questions.{Refusal}
use Rattle.semigroups.specs.Maps.{isomorphisms, maps, first, earliest}
use Rattle.rfc4180.specs.Tables.{order_of, cells_of}
use Rattle.files.specs.Files.{file_refusal, room}

-- ---- the files that are read

-- A folder: for each number the bytes of the file with that number, or none if it cannot be opened.
abbrev pub Folder : Type 0
Folder = ℕ → Option (List ℕ)

-- The largest number of files that are read.
abbrev pub most_files : ℕ
most_files = 50

-- A file followed by the later ones; if it cannot be opened, no file is read.
abbrev pub opened : Option (List ℕ) → List (List ℕ) → List (List ℕ)
opened none later = []
opened (some t) later = t ∷ later

-- The files from number k on, at most d of them, until one cannot be opened.
unfoldable pub files_from : Folder → ℕ → ℕ → List (List ℕ)
files_from folder k zero = []
files_from folder k (suc d) = let later = files_from folder (suc k) d in opened (folder k) later

-- The files of a folder that are read (RULES 22.1): "`01.csv`, `02.csv` and so on, up to `50.csv`, until one cannot be opened".
unfoldable pub files_of : Folder → List (List ℕ)
files_of folder = files_from folder 1 most_files

-- ---- two files

-- Whether a file is accepted: none of the questions that `recue` asks about it fails.
unfoldable pub accepted : List ℕ → Bool
accepted t = not (is_some (file_refusal t room))

-- Whether an isomorphism exists between two tables.
unfoldable pub isomorphic : ℕ → List ℕ → ℕ → List ℕ → Bool
isomorphic m source n target = is_some (earliest first (maps isomorphisms m (product m source) n (product n target)))

-- Whether a file is accepted and its table is isomorphic to that of order n with these cells.
unfoldable pub holds_like : List ℕ → ℕ → List ℕ → Bool
holds_like t n cells = let like = isomorphic (order_of t) (cells_of t) n cells in accepted t && like

-- Whether two files are accepted and their tables are isomorphic.
unfoldable pub alike : List ℕ → List ℕ → Bool
alike t u = let like = holds_like t (order_of u) (cells_of u) in accepted u && like

-- ---- classes

-- What is said of a file: the number of its earliest failed question; or its order and the lowest file of its class.
pub data Note : Type 0 where
  refused_by : ℕ → Note
  in_class : ℕ → ℕ → Note

-- The note of a file, from its refusal if it has one, otherwise from its order and the lowest file of its class.
abbrev pub note_by : Option Refusal → ℕ → ℕ → Note
note_by none order lowest = in_class order lowest
note_by (some r) order lowest = refused_by r.number

module _ (files : List (List ℕ)) where
  -- The bytes of file k. After the last file, which nothing asks for, there is an empty file.
  unfoldable pub file : ℕ → List ℕ
  file k = get_or files (k - 1) []

  -- The lowest file whose table is isomorphic to that of file k, which is accepted. It names the class of file k (RULES 22.3).
  unfoldable pub lowest : ℕ → ℕ
  lowest k = least k (λ j. alike (file j) (file k))

  -- The note of file k.
  unfoldable pub note_of : ℕ → Note
  note_of k = note_by (file_refusal (file k) room) (order_of (file k)) (lowest k)

  -- The notes of all files, in file order.
  unfoldable pub notes_of : List Note
  notes_of = map note_of (elements (length files))
