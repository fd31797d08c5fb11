-- How many notes are held, and which file is asked for. Assumes nothing.
use mathlib.Core.Path.{◌≡◌, sym, ap, ap₂, ◌∙◌}
use mathlib.Core.Bool.{Bool, true, false, cond}
use mathlib.Core.List.{List}
use Prim.Native.Nat.{ℕ, suc, ◌+◌, ◌≤◌, ◌<◌}
use native.Mathlib.Numerals.{add-one}
use borrow.Author.Tests.{lt-ltb, le-ltb}
use lib.Dec.{ltb}
use lib.ListN.{length, length-map}
use Rattle.semigroups.specs.Lists.{elements, at}
use Rattle.semigroups.proofs.Lists.{length_elements}
use Rattle.progress.specs.Classes.{most_files}
use Rattle.progress.specs.Progress.{wanted_in, wanted}
use Rattle.progress.specs.Held.{note_from, notes_from, notes_in, phase_of, progress_of}
use Rattle.progress.specs.declared.Task.{Task}
use Rattle.progress.specs.declared.Task.TheVariants.{Read}
use Rattle.progress.specs.declared.Classifier.{Classifier}

module _ (orders numbers : List ℕ) (c : ℕ) where
  pub length_from : length (notes_from orders numbers c) ≡ c
  unfolding notes_from
  length_from = length-map (elements c) (λ k. note_from (at orders k) (at numbers k)) ∙ length_elements c

module _ (s : Classifier) (cells : List ℕ) where
  pub count_notes : length (notes_in s) ≡ s.count
  count_notes = length_from s.orders s.numbers s.count

  pub wanted_at : {t : Task} → s.task ≡ t → wanted (progress_of s cells) ≡ wanted_in (notes_in s) (phase_of t cells)
  wanted_at e = ap (λ (t : Task). wanted_in (notes_in s) (phase_of t cells)) e

  reading_at : (b : Bool) → s.task ≡ Read → ltb s.count most_files ≡ b → cond b (s.count + 1) 0 ≡ wanted (progress_of s cells)
  reading_at b e h = sym (wanted_at e ∙ ap₂ (λ (x : Bool) (k : ℕ). cond x k 0) (ap (λ (k : ℕ). ltb k most_files) count_notes ∙ h) (ap suc count_notes ∙ sym (add-one s.count)))

  pub wanted_new : s.task ≡ Read → s.count < 50 → s.count + 1 ≡ wanted (progress_of s cells)
  wanted_new e h = reading_at true e (lt-ltb s.count most_files h)

  pub wanted_full : s.task ≡ Read → 50 ≤ s.count → 0 ≡ wanted (progress_of s cells)
  wanted_full e h = reading_at false e (le-ltb s.count most_files h)
