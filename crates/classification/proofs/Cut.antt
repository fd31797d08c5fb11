-- The first 57,721 bytes of each file decide the output. Assumes nothing.
use mathlib.Core.Path.{◌≡◌, refl, sym, ap, ap₂, ◌∙◌, subst₂}
use mathlib.Core.Bool.{true}
use mathlib.Core.List.{List, [], ◌∷◌, map}
use mathlib.Core.Option
use mathlib.Core.Option.{Option, none, some}
use Prim.Native.Nat.{ℕ, zero, suc, ◌-◌}
use lib.ListN.{length, get_or, length-map}
use Rattle.semigroups.specs.Lists.{elements}
use Rattle.semigroups.specs.InnerQuestions.{no}
use Rattle.semigroups.proofs.Booleans.{clash, same_truth}
use Rattle.rfc4180.specs.Tables.{order_of}
use Rattle.files.specs.Files.{file_refusal, room}
use Rattle.files.specs.FilesLaws.{first_bytes}
use Rattle.files.proofs.Length.{Cut, whole, too_much, cut}
use Rattle.progress.specs.Classes.{Folder, opened, files_from, files_of, accepted, alike, note_by, file, lowest, note_of, notes_of}
use Rattle.progress.specs.Output.{notes_text, classes_output, folder_output}
use Rattle.classification.specs.Laws.{FirstBytesOfEach}
use Rattle.classification.proofs.Files.{refused_not, alike_like}
use Rattle.classification.proofs.Lists.{map_within, least_same}

-- If the first bytes of a file are accepted, they are the whole file.
accepted_whole : (t : List ℕ) → Cut t → accepted (first_bytes t) ≡ true → first_bytes t ≡ t
accepted_whole t (whole e) a = e
accepted_whole t (too_much e f) a = absurd (clash a (refused_not (first_bytes t) (no 20 []) e))

whole_accepted : (t : List ℕ) → Cut t → accepted t ≡ true → first_bytes t ≡ t
whole_accepted t (whole e) a = e
whole_accepted t (too_much e f) a = absurd (clash a (refused_not t (no 20 []) f))

alike_first : (t u : List ℕ) → alike (first_bytes t) (first_bytes u) ≡ alike t u
alike_first t u =
    same_truth (alike (first_bytes t) (first_bytes u)) (alike t u)
    (λ e. let l = alike_like (first_bytes t) (first_bytes u) e in subst₂ (λ (a b : List ℕ). alike a b ≡ true) (accepted_whole t (cut t) l.first_file) (accepted_whole u (cut u) l.second_file) e)
    (λ e. let l = alike_like t u e in subst₂ (λ (a b : List ℕ). alike a b ≡ true) (sym (whole_accepted t (cut t) l.first_file)) (sym (whole_accepted u (cut u) l.second_file)) e)

note_first : (t : List ℕ) → Cut t → (l : ℕ) → note_by (file_refusal (first_bytes t) room) (order_of (first_bytes t)) l ≡ note_by (file_refusal t room) (order_of t) l
note_first t (whole e) l = ap (λ (u : List ℕ). note_by (file_refusal u room) (order_of u) l) e
note_first t (too_much e f) l = rw (e, f)

module _ (files : List (List ℕ)) where
  abbrev firsts : List (List ℕ)
  firsts = map first_bytes files

  file_first : (k : ℕ) → file firsts k ≡ first_bytes (file files k)
  unfolding file
  file_first k = go files (k - 1)
    where
      go : (l : List (List ℕ)) (i : ℕ) → get_or (map first_bytes l) i [] ≡ first_bytes (get_or l i [])
      go [] i = refl
      go (t ∷ l) zero = refl
      go (t ∷ l) (suc i) = go l i

  lowest_first : (k : ℕ) → lowest firsts k ≡ lowest files k
  unfolding lowest
  lowest_first k =
      least_same k (λ j. alike (file firsts j) (file firsts k)) (λ j. alike (file files j) (file files k))
      (λ j h. ap₂ alike (file_first j) (file_first k) ∙ alike_first (file files j) (file files k))

  said_first : (k : ℕ) → note_of firsts k ≡ note_of files k
  unfolding note_of
  said_first k =
      ap₂ (λ (u : List ℕ) (l : ℕ). note_by (file_refusal u room) (order_of u) l) (file_first k) (lowest_first k) ∙ note_first (file files k) (cut (file files k)) (lowest files k)

  pub first_bytes_decide : classes_output firsts ≡ classes_output files
  unfolding classes_output notes_of
  first_bytes_decide =
      ap notes_text (ap (λ (n : ℕ). map (note_of firsts) (elements n)) (length-map files first_bytes) ∙ map_within (note_of firsts) (note_of files) (elements (length files)) (λ k m. said_first k))

-- ---- from a folder

opened_first : (o : Option (List ℕ)) (l m : List (List ℕ)) → l ≡ map first_bytes m → opened (Option.map first_bytes o) l ≡ map first_bytes (opened o m)
opened_first none l m e = refl
opened_first (some t) l m e = ap {B = List (List ℕ)} (λ (x : List (List ℕ)). first_bytes t ∷ x) e

files_first : (folder : Folder) (k d : ℕ) → files_from (λ i. Option.map first_bytes (folder i)) k d ≡ map first_bytes (files_from folder k d)
unfolding files_from
files_first folder k zero = refl
files_first folder k (suc d) =
    opened_first (folder k) (files_from (λ i. Option.map first_bytes (folder i)) (suc k) d) (files_from folder (suc k) d) (files_first folder (suc k) d)

pub first_bytes_law : (folder : Folder) → FirstBytesOfEach folder
unfolding folder_output files_of
first_bytes_law folder = ap classes_output (files_first folder 1 50) ∙ first_bytes_decide (files_from folder 1 50)
