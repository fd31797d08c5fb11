-- The classes of files are those of isomorphism, each named by its lowest file; the totals count each accepted file once. Assumes nothing.
use mathlib.Core.Path.{◌≡◌, refl, sym, ap, ◌∙◌, subst}
use mathlib.Core.Bool.{Bool, true, ◌&&◌, not}
use mathlib.Core.Logic.{◌↔◌}
use mathlib.Core.List.{List, [], flat_map, Memᴰ}
use mathlib.Core.Option.{Option, none, some}
use Prim.Native.Nat.{ℕ, ◌+◌, ◌-◌, ◌≤◌, ◌<◌}
use native.Mathlib.Omega.{arith}
use lib.Dec.{eqb}
use lib.ListN.{length, get_or, length-map}
use Rattle.semigroups.specs.Lists.{range, elements, keep, sum, count, is_some}
use Rattle.semigroups.specs.InnerLists.{Sorted}
use Rattle.semigroups.specs.Tables.{Element}
use Rattle.semigroups.specs.Questions.{Refusal}
use Rattle.semigroups.proofs.Lists.{length_elements, mem_elements, keep_agree}
use Rattle.semigroups.proofs.Questions.{earliest_no}
use Rattle.semigroups.proofs.Sums.{count_same, count_map, sum_same}
use Rattle.rfc4180.specs.Tables.{order_of}
use Rattle.rfc4180.specs.Records.{rows_text}
use Rattle.files.specs.Files.{file_questions, file_refusal, room}
use Rattle.progress.specs.Classes.{accepted, alike, refused_by, in_class, note_by, file, lowest, note_of, notes_of}
use Rattle.progress.specs.Output.{is_in, note, names, lowest_files, members, note_records, total_records, notes_text, classes_output}
use Rattle.classification.specs.Laws.{IsAccepted, Classified, Totalled, NothingForNoFile}
use Rattle.classification.proofs.Lists.{get_d_map_range, entries}
use Rattle.classification.proofs.Equivalence.{Equivalence, lowest_like, one_class as one-lowest, lowest_own, firsts_rise, first_exactly, counted_once, totals_sum}
use Rattle.classification.proofs.Files.{accepted_passes, accepted_exactly, alike_like, like_alike, like_itself, like_back, like_on}

-- ---- the classes

module _ (files : List (List ℕ)) where
  abbrev ok : ℕ → Bool
  ok k = accepted (file files k)

  abbrev R : ℕ → ℕ → Bool
  R j k = alike (file files j) (file files k)

  pub files_alike : Equivalence ok R
  files_alike =
      record {
        reflexive = λ k e. like_alike (file files k) (file files k) (like_itself (file files k) e);
        symmetric = λ j k e. like_alike (file files k) (file files j) (like_back (file files j) (file files k) (alike_like (file files j) (file files k) e));
        transitive = λ i j k e q. like_alike (file files i) (file files k) (like_on (file files i) (file files j) (file files k) (alike_like (file files i) (file files j) e) (alike_like (file files j) (file files k) q));
        let_in = λ j k e. (alike_like (file files j) (file files k) e).first_file;
      }

  -- What is said of an accepted file.
  pub says_accepted : (k : ℕ) → ok k ≡ true → note_of files k ≡ in_class (order_of (file files k)) (lowest files k)
  unfolding note_of
  says_accepted k e = rw (accepted_passes (file files k) e)

  pub says_refusal : (k : ℕ) (r : Refusal) → file_refusal (file files k) room ≡ some r → note_of files k ≡ refused_by r.number
  unfolding note_of
  says_refusal k r e = rw e

  pub classified : Classified files
  unfolding lowest
  classified =
      record {
        accepts = λ k. accepted_exactly (file files k);
        one_class = λ j k a b. (
          (λ e. (alike_like (file files j) (file files k) ((one-lowest ok R files_alike j k a.0.0 b.0.0 a.1 b.1).0 e)).isomorphism),
          λ f. (one-lowest ok R files_alike j k a.0.0 b.0.0 a.1 b.1).1
              (like_alike (file files j) (file files k) (record { first_file = a.1; second_file = b.1; isomorphism = f })),
        );
        a_member = λ k a.
            let r = (lowest_like ok R files_alike k a.0.0 a.1).0 in
            let own = lowest_own ok R files_alike k a.0.0 a.1 in
            let a0 = a.0 in
            (((r.0, omega arith), own.0), own.1);
        no_lower = λ j k a b e. subst (λ (i : ℕ). i ≤ j) e (lowest_like ok R files_alike j a.0.0 a.1).0.1;
        says_class = λ k a. unfold lowest in says_accepted k a.1;
        says_refused = λ k r e. (says_refusal k r e, (earliest_no (file_questions (file files k) room) r).0 (unfold file_refusal in e));
      }

  -- ---- the notes

  pub length_notes : length (notes_of files) ≡ length files
  unfolding notes_of
  length_notes = length-map (elements (length files)) (note_of files) ∙ length_elements (length files)

  pub note_is : (k : ℕ) → Element (length files) k → note (notes_of files) k ≡ note_of files k
  unfolding note notes_of elements
  note_is k h = get_d_map_range (note_of files) (refused_by 0) 1 (length files) (k - 1) (omega arith) ∙ ap (note_of files) (let z : 1 + (k - 1) ≡ k = omega arith in z)

  said_in : (k a : ℕ) → is_in a (note_of files k) ≡ (ok k && eqb (lowest files k) a)
  unfolding note_of accepted
  said_in k a = go (file_refusal (file files k) room)
    where
      go : (o : Option Refusal) → is_in a (note_by o (order_of (file files k)) (lowest files k)) ≡ (not (is_some o) && eqb (lowest files k) a)
      go none = refl
      go (some r) = refl

  -- A file names a class exactly if it is accepted and the lowest of its class.
  pub names_is : (k : ℕ) → Element (length files) k → names (notes_of files) k ≡ (ok k && eqb (lowest files k) k)
  unfolding names
  names_is k h = ap (is_in k) (note_is k h) ∙ said_in k k

  lowest_files_law : lowest_files (notes_of files) ≡ keep (λ k. ok k && eqb (lowest files k) k) (elements (length files))
  unfolding lowest_files
  lowest_files_law =
      ap (λ (n : ℕ). keep (names (notes_of files)) (elements n)) length_notes
      ∙ keep_agree (names (notes_of files)) (λ k. ok k && eqb (lowest files k) k) (elements (length files)) (λ k m. names_is k (mem_elements (length files) k m))

  members_are : (a : ℕ) → members (notes_of files) a ≡ count (λ k. ok k && eqb (lowest files k) a) (elements (length files))
  unfolding members notes_of
  members_are a =
      count_map (is_in a) (note_of files) (elements (length files)) ∙ count_same (λ k. is_in a (note_of files k)) (λ k. ok k && eqb (lowest files k) a) (elements (length files)) (λ k m. said_in k a)

  accepted_files : count ok (elements (length files)) ≡ count accepted files
  unfolding file elements
  accepted_files = sym (count_map accepted (λ k. get_or files (k - 1) []) (range 1 (length files))) ∙ ap (count accepted) (entries [] files 1)

  pub totalled : Totalled files
  totalled =
      record {
        rising = subst (Sorted ◌<◌) (sym lowest_files_law) (unfold lowest in firsts_rise ok R files_alike (length files));
        each_class = λ a. subst (λ (l : List ℕ). Memᴰ a l ↔ (IsAccepted files a × (lowest files a ≡ a))) (sym lowest_files_law) (unfold lowest in first_exactly ok R files_alike (length files) a);
        counts = members_are;
        sum_accepted = ap (sum (members (notes_of files))) lowest_files_law
            ∙ sum_same (members (notes_of files)) (λ a. count (λ k. ok k && eqb (lowest files k) a) (elements (length files))) (keep (λ k. ok k && eqb (lowest files k) k) (elements (length files))) (λ a m. members_are a)
            ∙ summed ∙ accepted_files;
        counted_once = λ k a. ap (count (eqb (lowest files k))) lowest_files_law ∙ once k a;
      }
    where
      summed : sum (λ a. count (λ k. ok k && eqb (lowest files k) a) (elements (length files))) (keep (λ k. ok k && eqb (lowest files k) k) (elements (length files))) ≡ count ok (elements (length files))
      summed = unfold lowest in totals_sum ok R files_alike (length files)

      once : (k : ℕ) → IsAccepted files k → count (eqb (lowest files k)) (keep (λ i. ok i && eqb (lowest files i) i) (elements (length files))) ≡ 1
      once k a = unfold lowest in counted_once ok R files_alike (length files) k a.0 a.1

pub nothing_for_no_file : NothingForNoFile
unfolding classes_output notes_of notes_text note_records total_records lowest_files elements range keep rows_text flat_map
nothing_for_no_file = refl
