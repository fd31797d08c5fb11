-- What each way through the code gives, as an equation to the progress. Assumes nothing.
use mathlib.Core.Path.{◌≡◌, refl, sym, ap, ap₂, ◌∙◌, subst}
use mathlib.Core.Bool.{Bool, false, ◌&&◌}
use mathlib.Core.List.{List}
use mathlib.Core.Option.{Option}
use Prim.Native.Nat.{ℕ, zero, suc, ◌*◌, ◌≤◌, ◌<◌}
use native.Mathlib.Omega.{arith}
use borrow.Author.Tests.{le-leb, lt-leb}
use lib.ListN.{length, take}
use Rattle.semigroups.specs.Tables.{Element, Accepted}
use Rattle.semigroups.specs.Questions.{Refusal}
use Rattle.semigroups.specs.Calls.{refused, gives}
use Rattle.rfc4180.specs.Tables.{order_of, cells_of}
use Rattle.files.specs.Files.{file_refusal, room}
use Rattle.files.specs.Answers.{file_answer}
use Rattle.files.proofs.Files.{Holds, accepted_file, refused_file}
use Rattle.progress.specs.Classes.{isomorphic, holds_like, Note, refused_by, in_class}
use Rattle.progress.specs.Progress.{comparing, progress, wanted, next_class, noted, onward, begun, SoundIn, Sound}
use Rattle.progress.specs.Held.{note_from, notes_in, phase_of, progress_of}
use Rattle.progress.specs.declared.Task.{Task}
use Rattle.progress.specs.declared.Task.TheVariants.{Read, Compare}
use Rattle.progress.specs.declared.Classifier.{Classifier}
use Rattle.progress.proofs.Wanted.{count_notes, wanted_at}
use Rattle.classification.proofs.Files.{passes_accepted, refused_not}
use Rattle.classification.proofs.Said.{other_order}
use Rattle.classification.proofs.Progress.{reading_room}

-- ---- a note

pub note_accepted : (n j : ℕ) → 1 ≤ n → note_from n j ≡ in_class n j
note_accepted zero j h = absurd (let z : ⊥ = omega arith in z)
note_accepted (suc n) j h = refl

-- ---- the table that a file holds

module _ (t cells : List ℕ) (size : length cells ≡ room) where
  refusal_room : {o : Option Refusal} → file_refusal t (length cells) ≡ o → file_refusal t room ≡ o
  refusal_room e = ap (file_refusal t) (sym size) ∙ e

  module _ (n : ℕ) (target : List ℕ) where
    pub holds_refused : (r : Refusal) → file_answer t cells ≡ refused r → false ≡ holds_like t n target
    unfolding holds_like
    holds_refused r e = sym (ap (λ (b : Bool). b && isomorphic (order_of t) (cells_of t) n target) (refused_not t r (refusal_room (refused_file t cells r e))))

    module _ (m : ℕ) (e : file_answer t cells ≡ gives m) {after : List ℕ} (H : Holds t after m) where
      pub holds_is : isomorphic m (take (m * m) after) n target ≡ holds_like t n target
      unfolding holds_like
      holds_is =
          ap₂ (λ (k : ℕ) (c : List ℕ). isomorphic k c n target) (sym H.order) H.cells_are
          ∙ sym (ap (λ (b : Bool). b && isomorphic (order_of t) (cells_of t) n target) (passes_accepted t (refusal_room (accepted_file t cells m e))))

      pub holds_other : (m ≡ n → ⊥) → false ≡ holds_like t n target
      holds_other ne = sym (other_order m (take (m * m) after) n target ne) ∙ holds_is

  module _ (notes : List Note) where
    pub begun_refused : (r : Refusal) → file_answer t cells ≡ refused r → (q : ℕ) → q ≡ r.number → noted notes (note_from 0 q) ≡ begun notes t (file_refusal t room)
    begun_refused r e q same = ap (λ (k : ℕ). noted notes (refused_by k)) same ∙ ap (begun notes t) (sym (refusal_room (refused_file t cells r e)))

    pub begun_accepted : (n : ℕ) → file_answer t cells ≡ gives n → {after : List ℕ} → Holds t after n → onward notes n (take (n * n) after) 0 ≡ begun notes t (file_refusal t room)
    begun_accepted n e H = ap₂ (λ (k : ℕ) (c : List ℕ). onward notes k c 0) (sym H.order) H.cells_are ∙ ap (begun notes t) (sym (refusal_room (accepted_file t cells n e)))

-- ---- the class of a new file

module _ (notes : List Note) (n : ℕ) (cells : List ℕ) (j : ℕ) where
  pub onward_class : {i : ℕ} → i ≡ next_class notes n j → i ≤ length notes → progress notes (comparing n cells i) ≡ onward notes n cells j
  unfolding onward
  onward_class {i} e h = rw (← e) (rw (le-leb i (length notes) h))

  pub onward_own : {i : ℕ} → 1 ≤ n → i ≡ next_class notes n j → length notes < i → noted notes (note_from n i) ≡ onward notes n cells j
  unfolding onward
  onward_own {i} p e h = ap (noted notes) (note_accepted n i p) ∙ rw (← e) (rw (lt-leb i (length notes) h))

-- ---- a step

module _ (s : Classifier) (cells : List ℕ) where
  -- While a new file is read, there is room for its note.
  pub room_new : s.task ≡ Read → (wanted (progress_of s cells) ≡ 0 → ⊥) → s.count < 50
  room_new e w = let r = (reading_room (notes_in s) (λ z. w (wanted_at s cells e ∙ z))).0 in let l = count_notes s cells in omega arith

  pub sound_again : {n j : ℕ} → s.task ≡ Compare n j → Sound (progress_of s cells) → (s.count < 50) × Accepted n (take (n * n) cells) × Element s.count j
  sound_again {n} {j} e S =
      let r : SoundIn (notes_in s) (comparing n (take (n * n) cells) j) = subst (λ (t : Task). SoundIn (notes_in s) (phase_of t cells)) e S in
      let r0 = r.0 in
      let r2 = r.2 in
      let l = count_notes s cells in
      (omega arith, r.1, omega arith)
