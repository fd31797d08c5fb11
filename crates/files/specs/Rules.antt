-- What RULES 21 says of a file, and what follows from it, as sentences about the definitions. Assumes nothing.
use Rattle.std.specs.Prelude.{◌≡◌, true, ◌↔◌, List, [], ◌∷◌, ℕ, ◌+◌, ◌<◌, length}
use Rattle.std.proofs.Math.Option.{none, some}
use Rattle.semigroups.specs.Lists.{member}
use Rattle.semigroups.specs.Questions.{Refusal}
use Rattle.semigroups.specs.InnerQuestions.{no}
use Rattle.rfc4180.specs.Questions.{longest_text}
use Rattle.files.specs.Files.{file_refusal, room}
use Rattle.files.specs.FilesLaws.{FilePasses, first_bytes}

-- The numbers that a refused file can get if there is room for every table. 2 is not one of them, since a text that loads has a cell for each pair; nor is
-- 22, which is never asked; nor is 27, since there is room.
abbrev pub file_numbers : List ℕ
file_numbers = 1 ∷ 3 ∷ 4 ∷ 20 ∷ 21 ∷ 23 ∷ 24 ∷ 25 ∷ 26 ∷ []

-- What RULES 21 says of any file.
pub record FileRules : Type 0 where
  -- No question fails exactly if the file loads and its table is accepted.
  pub passes : (t : List ℕ) (room : ℕ) → (file_refusal t room ≡ none) ↔ FilePasses t room
  -- RULES 21.2: "A file that cannot be opened counts as empty", and fails question 20.
  pub empty : file_refusal [] room ≡ some (no 20 [])
  -- RULES 21.2: "one longer than 57,720 bytes fails question 20", whatever its bytes;
  pub longer : (t : List ℕ) → longest_text < length t → file_refusal t room ≡ some (no 20 [])
  -- so its first 57,721 bytes decide; a file that has no more bytes than these is read whole.
  pub first_bytes_law : (t : List ℕ) → file_refusal (first_bytes t) room ≡ file_refusal t room
  pub whole : (t : List ℕ) → length t < longest_text + 2 → first_bytes t ≡ t
  -- A refused file gets one of the numbers above.
  pub numbers : (t : List ℕ) (r : Refusal) → file_refusal t room ≡ some r → member r.number file_numbers ≡ true
