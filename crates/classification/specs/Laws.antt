-- What RULES 22 says of the classes and the totals, for any files.
-- Assumes nothing.
use Rattle.std.specs.Prelude.{◌≡◌, true, ◌&&◌, ◌↔◌, ℕ, ◌≤◌, ◌<◌, eqb, length}
use mathlib.Core.List.{List, [], Memᴰ}
use Rattle.std.proofs.Math.Option.{some, map}
use Rattle.semigroups.specs.Lists.{elements, sum, count}
use Rattle.semigroups.specs.InnerLists.{Sorted}
use Rattle.semigroups.specs.Tables.{product, Element}
use Rattle.semigroups.specs.Questions.{Refusal}
use Rattle.semigroups.specs.QuestionsLaws.{EarliestNo}
use Rattle.semigroups.specs.MapsLaws.{Isomorphism}
use Rattle.rfc4180.specs.Tables.{order_of, cells_of}
use Rattle.files.specs.Files.{file_questions, file_refusal, room}
use Rattle.files.specs.FilesLaws.{FilePasses, first_bytes}
use Rattle.progress.specs.Classes.{Folder, accepted, refused_by, in_class, file, lowest, note_of, notes_of}
use Rattle.progress.specs.Output.{lowest_files, members, classes_output, folder_output}

-- An isomorphism exists between the tables of two files.
abbrev pub Isomorphic : List ℕ → List ℕ → Type 0
Isomorphic t u = (f : List ℕ) × Isomorphism (order_of t) (product (order_of t) (cells_of t)) (order_of u) (product (order_of u) (cells_of u)) f

module _ (files : List (List ℕ)) where
  -- File k is one of the files, and it is accepted.
  abbrev pub IsAccepted : ℕ → Type 0
  IsAccepted k = Element (length files) k × (accepted (file files k) ≡ true)

  -- What is claimed of the classes.
  pub record Classified : Type 0 where
    -- A file is accepted exactly if it loads and its table is accepted.
    pub accepts : (k : ℕ) → (accepted (file files k) ≡ true) ↔ FilePasses (file files k) room
    -- RULES 22.2: "Two accepted tables are in one class exactly if an isomorphism exists between them."
    pub one_class : (j k : ℕ) → IsAccepted j → IsAccepted k → (lowest files j ≡ lowest files k) ↔ Isomorphic (file files j) (file files k)
    -- A class is named by its lowest file: one of its members, and no member is lower.
    pub a_member : (k : ℕ) → IsAccepted k → IsAccepted (lowest files k) × (lowest files (lowest files k) ≡ lowest files k)
    pub no_lower : (j k : ℕ) → IsAccepted j → IsAccepted k → lowest files j ≡ lowest files k → lowest files k ≤ j
    -- What is said of an accepted file is its order and its class.
    pub says_class : (k : ℕ) → IsAccepted k → note_of files k ≡ in_class (order_of (file files k)) (lowest files k)
    -- "A refusal's number is that of its earliest failed question."
    pub says_refused : (k : ℕ) (r : Refusal) → file_refusal (file files k) room ≡ some r → (note_of files k ≡ refused_by r.number) × EarliestNo (file_questions (file files k) room) r

  -- What is claimed of the totals.
  pub record Totalled : Type 0 where
    -- "By rising lowest file."
    pub rising : Sorted ◌<◌ (lowest_files (notes_of files))
    -- There is a total for each file that is the lowest of its class, and no other.
    pub each_class : (a : ℕ) → Memᴰ a (lowest_files (notes_of files)) ↔ (IsAccepted a × (lowest files a ≡ a))
    -- It counts the accepted files of that class.
    pub counts : (a : ℕ) → members (notes_of files) a ≡ count (λ k. accepted (file files k) && eqb (lowest files k) a) (elements (length files))
    -- "The totals sum to the accepted files,
    pub sum_accepted : sum (members (notes_of files)) (lowest_files (notes_of files)) ≡ count accepted files
    -- and each accepted file is counted once."
    pub counted_once : (k : ℕ) → IsAccepted k → count (eqb (lowest files k)) (lowest_files (notes_of files)) ≡ 1

-- "With no file it prints nothing."
abbrev pub NothingForNoFile : Type 0
NothingForNoFile = classes_output [] ≡ []

-- Only the first bytes of each file are read: no later byte makes a difference (RULES 21.2).
abbrev pub FirstBytesOfEach : Folder → Type 0
FirstBytesOfEach folder = folder_output (λ k. map first_bytes (folder k)) ≡ folder_output folder
