-- When one more file is read, what was said of the files before it stays, and its class is the lowest class that it is like. Assumes nothing.
use mathlib.Core.Path.{◌≡◌, sym, ap, ap₂, ◌∙◌}
use mathlib.Core.Bool.{true}
use mathlib.Core.List.{List, [], ◌∷◌, ◌++◌, map, map-append}
use mathlib.Core.Option.{some}
use Prim.Native.Nat.{ℕ, suc, ◌+◌, ◌-◌, ◌<◌}
use native.Mathlib.Omega.{arith}
use borrow.Author.Tests.{eq-eqb}
use lib.Dec.{eqb}
use lib.ListN.{length, get_or, get_or-append}
use lib.Seq.{get_or-append_seam}
use Rattle.semigroups.specs.Lists.{range, elements}
use Rattle.semigroups.specs.Tables.{Element}
use Rattle.semigroups.specs.Questions.{Refusal}
use Rattle.semigroups.proofs.Booleans.{both}
use Rattle.semigroups.proofs.Lists.{mem_elements, length_snoc, range_snoc}
use Rattle.rfc4180.specs.Tables.{order_of}
use Rattle.files.specs.Files.{file_refusal, room}
use Rattle.progress.specs.Classes.{accepted, alike, Note, refused_by, in_class, note_by, file, lowest, note_of, notes_of}
use Rattle.progress.specs.Output.{names}
use Rattle.classification.proofs.Equivalence.{lowest_is}
use Rattle.classification.proofs.Lists.{map_within, least_same}
use Rattle.classification.proofs.Classes.{files_alike, says_accepted, says_refusal, names_is}

module _ (files : List (List ℕ)) (t : List ℕ) where
  abbrev pub grown : List (List ℕ)
  grown = files ++ t ∷ []

  pub length_grown : length grown ≡ suc (length files)
  length_grown = length_snoc files t

  pub file_stays : (k : ℕ) → Element (length files) k → file grown k ≡ file files k
  unfolding file
  file_stays k h = get_or-append files (t ∷ []) [] (k - 1) (omega arith)

  pub file_new : file grown (suc (length files)) ≡ t
  unfolding file
  file_new = ap (λ (i : ℕ). get_or (files ++ t ∷ []) i []) (let z : suc (length files) - 1 ≡ length files = omega arith in z) ∙ get_or-append_seam files t [] []

  lowest_stays : (k : ℕ) → Element (length files) k → lowest grown k ≡ lowest files k
  unfolding lowest
  lowest_stays k h = least_same k (λ j. alike (file grown j) (file grown k)) (λ j. alike (file files j) (file files k)) (λ j u. ap₂ alike (file_stays j (omega arith)) (file_stays k h))

  note_stays : (k : ℕ) → Element (length files) k → note_of grown k ≡ note_of files k
  unfolding note_of
  note_stays k h = ap₂ (λ (u : List ℕ) (l : ℕ). note_by (file_refusal u room) (order_of u) l) (file_stays k h) (lowest_stays k h)

  notes_grown : notes_of grown ≡ notes_of files ++ note_of grown (suc (length files)) ∷ []
  unfolding notes_of elements
  notes_grown =
      ap (λ (n : ℕ). map (note_of grown) (range 1 n)) length_grown ∙ ap (map (note_of grown)) (range_snoc 1 (length files))
      ∙ map-append (note_of grown) (range 1 (length files)) ((1 + length files) ∷ [])
      ∙ ap₂ {C = List Note} (λ (l : List Note) (k : ℕ). l ++ note_of grown k ∷ []) (map_within (note_of grown) (note_of files) (range 1 (length files)) (λ k m. note_stays k (unfold elements in mem_elements (length files) k m))) (let z : 1 + length files ≡ suc (length files) = omega arith in z)

  -- A new file that is refused adds the note of its refusal.
  pub notes_refused : (r : Refusal) → file_refusal t room ≡ some r → notes_of grown ≡ notes_of files ++ refused_by r.number ∷ []
  notes_refused r e = notes_grown ∙ ap (λ (x : Note). notes_of files ++ x ∷ []) (says_refusal grown (suc (length files)) r (ap (λ (u : List ℕ). file_refusal u room) file_new ∙ e))

  -- An accepted file that is like file a, or is a itself, joins class a, if it is like no lower file that names a class.
  pub notes_accepted : accepted t ≡ true → (a : ℕ) → Element (suc (length files)) a → alike (file grown a) t ≡ true
      → ((i : ℕ) → Element (length files) i → i < a → names (notes_of files) i ≡ true → alike (file files i) t ≡ true → ⊥)
      → notes_of grown ≡ notes_of files ++ in_class (order_of t) a ∷ []
  notes_accepted e a h like none =
      notes_grown ∙ ap (λ (x : Note). notes_of files ++ x ∷ []) (says_accepted grown (suc (length files)) (ap accepted file_new ∙ e) ∙ ap₂ in_class (ap order_of file_new) the_class)
    where
      lower : (i : ℕ) → Element (suc (length files)) i → i < a → accepted (file grown i) ≡ true → lowest grown i ≡ i → alike (file grown i) (file grown (suc (length files))) ≡ true → ⊥
      lower i u b ok own l =
          let w : Element (length files) i = omega arith in
          none i w b
          (names_is files i w ∙ both (accepted (file files i)) (eqb (lowest files i) i) (ap accepted (sym (file_stays i w)) ∙ ok) (eq-eqb (lowest files i) i (sym (lowest_stays i w) ∙ own)))
          (ap₂ alike (sym (file_stays i w)) (sym file_new) ∙ l)

      the_class : lowest grown (suc (length files)) ≡ a
      the_class =
          unfold lowest in
          lowest_is (λ k. accepted (file grown k)) (λ j k. alike (file grown j) (file grown k)) (files_alike grown) (suc (length files)) a h (ap (alike (file grown a)) file_new ∙ like) (unfold lowest in lower)
