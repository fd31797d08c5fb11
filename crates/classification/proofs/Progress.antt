-- The program ends, asks for no file above 50, and its notes make the whole output of the folder. The idea: its notes are those of the files read so
-- far, and the new file is like no lower file that names a class. Assumes nothing.
use mathlib.Core.Path.{◌≡◌, refl, sym, ap, ap₂, ◌∙◌}
use mathlib.Core.Bool.{Bool, true, false, cond}
use mathlib.Core.Logic.{⊎_elim}
use mathlib.Core.List.{List, [], ◌∷◌, ◌++◌}
use mathlib.Core.Option.{Option, none, some}
use Prim.Native.Nat.{ℕ, zero, suc, ◌+◌, ◌-◌, ◌*◌, ◌≤◌, ◌<◌}
use native.Mathlib.Omega.{arith}
use borrow.Author.Tests.{leb-true, leb-false, ltb-true, lt-ltb, eq-eqb, ne_eqb}
use lib.Dec.{eqb, leb, ltb}
use lib.ListN.{length, get_or}
use Rattle.semigroups.specs.Lists.{range, elements}
use Rattle.semigroups.specs.Tables.{Element, Accepted}
use Rattle.semigroups.specs.Questions.{Refusal}
use Rattle.semigroups.proofs.Booleans.{clash, both, and_right, equal_or_not, at_most_or_above, impossible}
use Rattle.semigroups.proofs.Lists.{length_snoc}
use Rattle.rfc4180.specs.Tables.{order_of, cells_of}
use Rattle.files.specs.Files.{file_refusal, room}
use Rattle.progress.specs.Classes.{Folder, most_files, opened, files_from, files_of, accepted, holds_like, alike, Note, refused_by, in_class, file, lowest, notes_of}
use Rattle.progress.specs.Output.{note, names, notes_text, classes_output, folder_output}
use Rattle.progress.specs.Progress.{names_order, Phase, reading, comparing, over, Progress, progress, start, wanted_in, wanted, next_class, noted, onward, begun, compared, step_in, step, SoundIn, Sound, served}
use Rattle.classification.specs.ProgressLaws.{still_to_read_in, still_to_read, Prints, Goes}
use Rattle.classification.proofs.Files.{passes_accepted, accepted_table, alike_like, like_alike, like_itself, like_order, holds_alike}
use Rattle.classification.proofs.Classes.{length_notes, note_is, names_is, says_accepted}
use Rattle.classification.proofs.NextClass.{next_bound, next_within, next_first}
use Rattle.classification.proofs.Growth.{grown, length_grown, file_stays, file_new, notes_refused, notes_accepted}

-- ---- the program goes on

noted_goes : (notes : List Note) (said : Note) → length notes < most_files → Sound (noted notes said) × (still_to_read (noted notes said) ≡ (most_files - suc (length notes)) * suc most_files)
noted_goes notes said h = let e = length_snoc notes said in (omega arith, ap (λ (k : ℕ). (most_files - k) * suc most_files) e)

onward_goes : (notes : List Note) (n : ℕ) (cells : List ℕ) (j : ℕ) → length notes < most_files → Accepted n cells → j ≤ length notes
    → Sound (onward notes n cells j) × (still_to_read (onward notes n cells j) < (most_files - length notes) * suc most_files - j)
unfolding onward
onward_goes notes n cells j h a b = go (leb i (length notes)) refl
  where
    i : ℕ
    i = next_class notes n j

    go : (t : Bool) → leb i (length notes) ≡ t
        → Sound (cond t (progress notes (comparing n cells i)) (noted notes (in_class n i))) × (still_to_read (cond t (progress notes (comparing n cells i)) (noted notes (in_class n i))) < (most_files - length notes) * suc most_files - j)
    go true e = let w = next_within notes n j (leb-true i (length notes) e) in let w0 = w.0 in let w1 = w.1 in ((h, a, w0), omega arith)
    go false e = let w = noted_goes notes (in_class n i) h in let w1 = w.1 in (w.0, omega arith)

begun_goes : (notes : List Note) (t : List ℕ) (o : Option Refusal) → file_refusal t room ≡ o → length notes < most_files → Sound (begun notes t o) × (still_to_read (begun notes t o) < (most_files - length notes) * suc most_files)
begun_goes notes t (some r) e h = let w = noted_goes notes (refused_by r.number) h in let w1 = w.1 in (w.0, omega arith)
begun_goes notes t none e h = let w = onward_goes notes (order_of t) (cells_of t) 0 h (accepted_table t (passes_accepted t e)) (omega arith) in let w1 = w.1 in (w.0, omega arith)

compared_goes : (notes : List Note) (n : ℕ) (cells : List ℕ) (j : ℕ) (b : Bool) → SoundIn notes (comparing n cells j) → Sound (compared notes n cells j b) × (still_to_read (compared notes n cells j b) < still_to_read_in notes (comparing n cells j))
compared_goes notes n cells j true s = let s0 = s.0 in let s2 = s.2 in let w = noted_goes notes (in_class n j) s0 in let w1 = w.1 in (w.0, omega arith)
compared_goes notes n cells j false s = let s2 = s.2 in onward_goes notes n cells j s.0 s.1 s2.1

-- A new file is asked for only if fewer than 50 are read.
pub reading_room : (notes : List Note) → (wanted_in notes reading ≡ 0 → ⊥) → (length notes < most_files) × (wanted_in notes reading ≡ suc (length notes))
reading_room notes h = go (ltb (length notes) most_files) refl h
  where
    go : (b : Bool) → ltb (length notes) most_files ≡ b → (cond b (suc (length notes)) 0 ≡ 0 → ⊥) → (length notes < most_files) × (cond b (suc (length notes)) 0 ≡ suc (length notes))
    go true e h = (ltb-true (length notes) most_files e, refl)
    go false e h = absurd (h refl)

step_goes : (notes : List Note) (phase : Phase) → SoundIn notes phase → (wanted_in notes phase ≡ 0 → ⊥) → (answer : Option (List ℕ)) → Sound (step_in notes phase answer) × (still_to_read (step_in notes phase answer) < still_to_read_in notes phase)
step_goes notes reading s w none = let r = (reading_room notes w).0 in (s, omega arith)
step_goes notes reading s w (some t) = begun_goes notes t (file_refusal t room) refl (reading_room notes w).0
step_goes notes (comparing n cells j) s w none = compared_goes notes n cells j false s
step_goes notes (comparing n cells j) s w (some t) = compared_goes notes n cells j (holds_like t n cells) s
step_goes notes over s w answer = absurd (w refl)

wanted_within : (notes : List Note) (phase : Phase) → SoundIn notes phase → wanted_in notes phase ≤ most_files
wanted_within notes reading s = go (ltb (length notes) most_files) refl
  where
    go : (b : Bool) → ltb (length notes) most_files ≡ b → cond b (suc (length notes)) 0 ≤ most_files
    go true e = ltb-true (length notes) most_files e
    go false e = omega arith
wanted_within notes (comparing n cells j) s = let s0 = s.0 in let s2 = s.2 in omega arith
wanted_within notes over s = omega arith

pub goes : (s : Progress) → Sound s → (wanted s ≡ 0 → ⊥) → Goes s
goes s h w =
    record {
      sound = λ answer. (step_goes s.notes s.phase h w answer).0;
      fewer = λ answer. (step_goes s.notes s.phase h w answer).1;
      within = wanted_within s.notes s.phase h;
    }

-- ---- what is known of a folder

-- The files read so far, and their notes.
record Read (folder : Folder) (notes : List Note) (files : List (List ℕ)) : Type 0 where
  pub there : (k : ℕ) → Element (length files) k → folder k ≡ some (file files k)
  pub notes_are : notes ≡ notes_of files

-- The new file t is accepted, holds the table, and is like no file below j that names a class.
record Compared (folder : Folder) (files : List (List ℕ)) (n : ℕ) (cells : List ℕ) (t : List ℕ) (j : ℕ) : Type 0 where
  pub new : folder (suc (length files)) ≡ some t
  pub taken : accepted t ≡ true
  pub order : n ≡ order_of t
  pub table : cells ≡ cells_of t
  pub none_below : (i : ℕ) → Element (length files) i → i < j → names (notes_of files) i ≡ true → alike (file files i) t ≡ true → ⊥

abbrev PhaseOf : Folder → List (List ℕ) → Phase → Type 0
PhaseOf folder files reading = Unit {0}
PhaseOf folder files (comparing n cells j) = (t : List ℕ) × Compared folder files n cells t j
PhaseOf folder files over = folder (suc (length files)) ≡ none

abbrev Knows : Folder → Progress → Type 0
Knows folder s = (files : List (List ℕ)) × Read folder s.notes files × PhaseOf folder files s.phase

module _ (folder : Folder) (files : List (List ℕ)) (notes : List Note) (R : Read folder notes files) where
  notes_length : length notes ≡ length files
  notes_length = ap length R.notes_are ∙ length_notes files

  -- What is known once one more file is read.
  read_more : (t : List ℕ) (said : Note) → folder (suc (length files)) ≡ some t → notes_of (grown files t) ≡ notes_of files ++ said ∷ [] → Knows folder (noted notes said)
  read_more t said new e = (grown files t, record { there = there; notes_are = ap (λ (l : List Note). l ++ said ∷ []) R.notes_are ∙ sym e }, tt)
    where
      there : (k : ℕ) → Element (length (grown files t)) k → folder k ≡ some (file (grown files t) k)
      there k h =
          let l = length_grown files t in
          ⊎_elim (λ (q : k ≡ suc (length files)). ap folder q ∙ new ∙ ap {B = Option (List ℕ)} some (sym (ap (file (grown files t)) q ∙ file_new files t)))
          (λ (q : k ≡ suc (length files) → ⊥). let u : Element (length files) k = omega arith in R.there k u ∙ ap {B = Option (List ℕ)} some (sym (file_stays files t k u)))
          (equal_or_not k (suc (length files)))

  module _ (n : ℕ) (cells t : List ℕ) where
    -- A file that names a class and is like t names one of tables of t's order.
    names_like : (j : ℕ) → Compared folder files n cells t j → (i : ℕ) → Element (length files) i → names (notes_of files) i ≡ true → alike (file files i) t ≡ true → names_order n i (note notes i) ≡ true
    names_like j C i h e l =
        let L = alike_like (file files i) t l in
        let own = and_right (accepted (file files i)) (eqb (lowest files i) i) (sym (names_is files i h) ∙ e) in
        ap (λ (ns : List Note). names_order n i (note ns i)) R.notes_are ∙ ap (names_order n i) (note_is files i h ∙ says_accepted files i L.first_file)
        ∙ both (eqb (order_of (file files i)) n) (eqb (lowest files i) i) (eq-eqb (order_of (file files i)) n (like_order (file files i) t L ∙ sym C.order)) own

    -- What is known if no file up to j that names a class is like the new one.
    onward_knows : (j : ℕ) → length files < most_files → Compared folder files n cells t (suc j) → Knows folder (onward notes n cells j)
    unfolding onward
    onward_knows j room_left C = go (leb i (length notes)) refl
      where
        i : ℕ
        i = next_class notes n j

        below : (k : ℕ) → Element (length files) k → k < i → names (notes_of files) k ≡ true → alike (file files k) t ≡ true → ⊥
        below k h b e l =
            let s = notes_length in
            ⊎_elim (λ (q : k ≤ j). C.none_below k h (omega arith) e l)
            (λ (q : j < k). let z = next_first notes n j k (omega arith) q (names_like (suc j) C k h e l) in let w : ⊥ = omega arith in w) (at_most_or_above k j)

        go : (b : Bool) → leb i (length notes) ≡ b → Knows folder (cond b (progress notes (comparing n cells i)) (noted notes (in_class n i)))
        go true e = (files, R, (t, record { new = C.new; taken = C.taken; order = C.order; table = C.table; none_below = below }))
        go false e =
            let s = notes_length in
            let f = leb-false i (length notes) e in
            let top = next_bound notes n j in
            let own : i ≡ suc (length files) = omega arith in
            read_more t (in_class n i) C.new
            (notes_accepted files t C.taken i (omega arith) (ap (λ (k : ℕ). alike (file (grown files t) k) t) own ∙ ap (λ (u : List ℕ). alike u t) (file_new files t) ∙ like_alike t t (like_itself t C.taken)) below
            ∙ ap (λ (k : ℕ). notes_of files ++ in_class k i ∷ []) (sym C.order))

    compared_knows : (j : ℕ) → length files < most_files → Element (length files) j → Compared folder files n cells t j → (b : Bool) → holds_like (file files j) n cells ≡ b → Knows folder (compared notes n cells j b)
    compared_knows j room_left h C b e = go b (like ∙ e)
      where
        like : alike (file files j) t ≡ holds_like (file files j) n cells
        like = sym (holds_alike (file files j) t C.taken) ∙ ap₂ (holds_like (file files j)) (sym C.order) (sym C.table)

        go : (b : Bool) → alike (file files j) t ≡ b → Knows folder (compared notes n cells j b)
        go true q =
            read_more t (in_class n j) C.new
            (notes_accepted files t C.taken j (omega arith) (ap (λ (u : List ℕ). alike u t) (file_stays files t j h) ∙ q) C.none_below ∙ ap (λ (k : ℕ). notes_of files ++ in_class k j ∷ []) (sym C.order))
        go false q =
            onward_knows j room_left
            (record {
              new = C.new;
              taken = C.taken;
              order = C.order;
              table = C.table;
              none_below = λ i u b e l. ⊎_elim (λ (same : i ≡ j). clash (ap (λ (k : ℕ). alike (file files k) t) (sym same) ∙ l) q) (λ (ne : i ≡ j → ⊥). C.none_below i u (omega arith) e l) (equal_or_not i j);
            })

  begun_knows : (t : List ℕ) → length files < most_files → folder (suc (length files)) ≡ some t → (o : Option Refusal) → file_refusal t room ≡ o → Knows folder (begun notes t o)
  begun_knows t h new (some r) e = read_more t (refused_by r.number) new (notes_refused files t r e)
  begun_knows t h new none e =
      onward_knows (order_of t) (cells_of t) t 0 h
      (record { new = new; taken = passes_accepted t e; order = refl; table = refl; none_below = λ i u b e l. let z : ⊥ = omega arith in z })

-- A step keeps what is known.
step_knows : (folder : Folder) (notes : List Note) (phase : Phase) → SoundIn notes phase → (wanted_in notes phase ≡ 0 → ⊥) → Knows folder (progress notes phase)
    → (o : Option (List ℕ)) → folder (wanted_in notes phase) ≡ o → Knows folder (step_in notes phase o)
step_knows folder notes reading s w (files, R, k) none e =
    let r = reading_room notes w in
    (files, R, ap (λ (i : ℕ). folder (suc i)) (sym (notes_length folder files notes R)) ∙ ap folder (sym r.1) ∙ e)
step_knows folder notes reading s w (files, R, k) (some t) e =
    let r = reading_room notes w in
    let r0 = r.0 in
    let l = notes_length folder files notes R in
    begun_knows folder files notes R t (omega arith) (ap (λ (i : ℕ). folder (suc i)) (sym l) ∙ ap folder (sym r.1) ∙ e) (file_refusal t room) refl
step_knows folder notes (comparing n cells j) s w (files, R, (t, C)) o e = go o (sym e ∙ R.there j there)
  where
    there : Element (length files) j
    there = let l = notes_length folder files notes R in let s2 = s.2 in omega arith

    few : length files < most_files
    few = let l = notes_length folder files notes R in let s0 = s.0 in omega arith

    go : (o : Option (List ℕ)) → o ≡ some (file files j) → Knows folder (step_in notes (comparing n cells j) o)
    go none q = impossible (cc)
    go (some u) q =
        let same : u ≡ file files j = cc in
        compared_knows folder files notes R n cells t j few there C (holds_like u n cells) (ap (λ (v : List ℕ). holds_like v n cells) (sym same))
step_knows folder notes over s w k o e = absurd (w refl)

-- ---- the whole way

files_from_law : (folder : Folder) (files : List (List ℕ)) (i d : ℕ) → length files ≤ d → ((k : ℕ) → k < length files → folder (i + k) ≡ some (get_or files k []))
    → (length files < d → folder (i + length files) ≡ none) → files_from folder i d ≡ files
unfolding files_from
files_from_law folder [] i zero h a n = refl
files_from_law folder [] i (suc d) h a n = ap (λ (o : Option (List ℕ)). opened o (files_from folder (suc i) d)) (ap folder (let z : i ≡ i + 0 = omega arith in z) ∙ n (omega arith))
files_from_law folder (t ∷ files) i zero h a n = absurd (let z : ⊥ = omega arith in z)
files_from_law folder (t ∷ files) i (suc d) h a n =
    ap (λ (o : Option (List ℕ)). opened o (files_from folder (suc i) d)) (ap folder (let z : i ≡ i + 0 = omega arith in z) ∙ a 0 (omega arith))
    ∙ ap {B = List (List ℕ)} (λ (l : List (List ℕ)). t ∷ l)
    (files_from_law folder files (suc i) d (omega arith) (λ k u. ap folder (let z : suc i + k ≡ i + suc k = omega arith in z) ∙ a (suc k) (omega arith))
    (λ u. ap folder (let z : suc i + length files ≡ i + suc (length files) = omega arith in z) ∙ n (omega arith)))

module _ (folder : Folder) where
  all_read : (notes : List Note) (files : List (List ℕ)) → Read folder notes files → length files ≤ most_files → (length files < most_files → folder (suc (length files)) ≡ none) → notes_text notes ≡ folder_output folder
  unfolding folder_output classes_output files_of
  all_read notes files R h n =
      ap notes_text R.notes_are
      ∙ ap (λ (l : List (List ℕ)). notes_text (notes_of l))
      (sym (files_from_law folder files 1 most_files h (λ k u. unfold file in R.there (1 + k) (omega arith) ∙ ap (λ (i : ℕ). some (get_or files i [])) (let z : 1 + k - 1 ≡ k = omega arith in z)) (λ u. ap folder (let z : 1 + length files ≡ suc (length files) = omega arith in z) ∙ n u)))

  -- Once no file is asked for, the notes make the output.
  ended : (notes : List Note) (phase : Phase) → SoundIn notes phase → Knows folder (progress notes phase) → wanted_in notes phase ≡ 0 → notes_text notes ≡ folder_output folder
  ended notes reading s (files, R, k) e = let l = notes_length folder files notes R in all_read notes files R (omega arith) (λ u. absurd (full (ltb (length notes) most_files) refl e (omega arith)))
    where
      full : (b : Bool) → ltb (length notes) most_files ≡ b → cond b (suc (length notes)) 0 ≡ 0 → length notes < most_files → ⊥
      full true q z u = let y : ⊥ = omega arith in y
      full false q z u = clash (lt-ltb (length notes) most_files u) q
  ended notes (comparing n cells j) s k e = absurd (let s2 = s.2 in let z : ⊥ = omega arith in z)
  ended notes over s (files, R, k) e = let l = notes_length folder files notes R in all_read notes files R (omega arith) (λ u. k)

  served_prints : (d : ℕ) (s : Progress) → Sound s → Knows folder s → still_to_read s ≤ d → (wanted (served folder d s) ≡ 0) × (notes_text (served folder d s).notes ≡ folder_output folder)
  unfolding served
  served_prints zero s h k b =
      ⊎_elim (λ (e : wanted s ≡ 0). (e, ended s.notes s.phase h k e)) (λ (w : wanted s ≡ 0 → ⊥). absurd (let f = (goes s h w).fewer none in let z : ⊥ = omega arith in z)) (equal_or_not (wanted s) 0)
  served_prints (suc d) s h k b =
      ⊎_elim
      (λ (e : wanted s ≡ 0). rw (eq-eqb (wanted s) 0 e) (e, ended s.notes s.phase h k e))
      (λ (w : wanted s ≡ 0 → ⊥).
      let g = goes s h w in
      let f = g.fewer (folder (wanted s)) in
      rw (ne_eqb (wanted s) 0 w) (served_prints d (step s (folder (wanted s))) (g.sound (folder (wanted s))) (step_knows folder s.notes s.phase h w k (folder (wanted s)) refl) (omega arith)))
      (equal_or_not (wanted s) 0)

  pub prints : Prints folder
  unfolding notes_of elements range
  prints =
      let r = served_prints (most_files * suc most_files) start (omega arith) ([], record { there = λ k h. absurd (let z : ⊥ = omega arith in z); notes_are = refl }, tt) (omega arith) in
      record { ends = r.0; output = r.1 }
