-- What the program prints (RULES 22.3): "in file order, `class`, file, order, lowest file of the class; or `refused`, file, number. Then, by rising
-- lowest file, it prints `total`, lowest file, number of members." As text the records follow RFC 4180, each closed by CR LF.
-- Assumes nothing.
use Rattle.std.specs.Prelude.{Bool, false, List, [], ◌∷◌, ◌++◌, map, ℕ, ◌-◌, eqb, length, get_or}
use Rattle.semigroups.specs.Lists.{elements, keep, count}
use Rattle.rfc4180.specs.Decimals.{numeral}
use Rattle.rfc4180.specs.Records.{rows_text}
use Rattle.files.specs.Files.{refused_word}
use Rattle.progress.specs.Classes.{Folder, files_of, Note, refused_by, in_class, notes_of}

-- ---- the words of the records, as bytes

-- The word "class".
abbrev pub class_word : List ℕ
class_word = 99 ∷ 108 ∷ 97 ∷ 115 ∷ 115 ∷ []

-- The word "total".
abbrev pub total_word : List ℕ
total_word = 116 ∷ 111 ∷ 116 ∷ 97 ∷ 108 ∷ []

-- ---- from the notes of the files, in file order

-- The record of file k.
abbrev pub note_record : ℕ → Note → List (List ℕ)
note_record k (refused_by q) = refused_word ∷ numeral k ∷ numeral q ∷ []
note_record k (in_class n l) = class_word ∷ numeral k ∷ numeral n ∷ numeral l ∷ []

-- Whether a file is in the class that is named by file a.
abbrev pub is_in : ℕ → Note → Bool
is_in a (refused_by q) = false
is_in a (in_class n l) = eqb l a

module _ (notes : List Note) where
  -- What is said of file k.
  unfoldable pub note : ℕ → Note
  note k = get_or notes (k - 1) (refused_by 0)

  -- Whether file k names a class.
  unfoldable pub names : ℕ → Bool
  names k = is_in k (note k)

  -- The lowest files of the classes, in rising order.
  unfoldable pub lowest_files : List ℕ
  lowest_files = keep names (elements (length notes))

  -- How many members there are in the class that file a names.
  unfoldable pub members : ℕ → ℕ
  members a = count (is_in a) notes

  -- The record of the class that file a names, with the number of its members.
  unfoldable pub total_record : ℕ → List (List ℕ)
  total_record a = total_word ∷ numeral a ∷ numeral (members a) ∷ []

  -- The records of the files, in file order.
  unfoldable pub note_records : List (List (List ℕ))
  note_records = map (λ k. note_record k (note k)) (elements (length notes))

  -- The records of the classes.
  unfoldable pub total_records : List (List (List ℕ))
  total_records = map total_record lowest_files

  -- The text of all records.
  unfoldable pub notes_text : List ℕ
  notes_text = rows_text (note_records ++ total_records)

-- ---- the whole output

-- The whole output, from the bytes of the files that are read.
unfoldable pub classes_output : List (List ℕ) → List ℕ
classes_output files = notes_text (notes_of files)

-- The whole output, from a folder.
unfoldable pub folder_output : Folder → List ℕ
folder_output folder = classes_output (files_of folder)
