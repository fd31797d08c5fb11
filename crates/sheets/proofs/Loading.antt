-- What loading says and leaves, for each question that may fail first and if none fails, by any reading of the text.
-- Assumes nothing.
use mathlib.Core.Path.{◌≡◌, refl, ap, sym, ◌∙◌}
use mathlib.Core.Bool.{true, false}
use mathlib.Core.List.{List, [], ◌∷◌, map, flatten}
use mathlib.Core.Option.{Option, none, some}
use Prim.Native.Nat.{ℕ, ◌≤◌, ◌<◌}
use native.Mathlib.Omega.{arith}
use lib.ListN.{length, length-map}
use Rattle.semigroups.specs.Questions.{Refusal, first_no}
use Rattle.semigroups.specs.InnerQuestions.{no}
use Rattle.semigroups.specs.Calls.{Answer, refused, gives, overwritten}
use Rattle.sheets.specs.Grammar.{IsSheet, Row, sheet_rows}
use Rattle.sheets.specs.Readings.{Reading, passes, offends, rows_names}
use Rattle.sheets.specs.Questions.{rows_questions, load_names_refusal}
use Rattle.sheets.specs.Calls.{load_names_answer, names_after, lengths_after}
use Rattle.sheets.specs.InnerAutomaton.{accepts, place}
use Rattle.sheets.proofs.Soundness.{accepted_passes}
use Rattle.sheets.proofs.Readings.{refused_reading}
use Rattle.sheets.proofs.Questions.{form_refused, rows_refused, names_refused, lengths_refused, load_passes}

module _ (t names lengths : List ℕ) where
  -- Every reading says this answer and these bytes.
  abbrev pub Says : Answer ℕ → List ℕ → List ℕ → Type 0
  Says answer namesNow lengthsNow =
      ((w : Reading t) → answer ≡ load_names_answer w names lengths)
      × (((w : Reading t) → namesNow ≡ names_after w names lengths) × ((w : Reading t) → lengthsNow ≡ lengths_after w names lengths))

  abbrev refusal : Reading t → Option Refusal
  refusal w = load_names_refusal w (length names) (length lengths)

  refuses : (r : Refusal) → ((w : Reading t) → refusal w ≡ some r) → Says (refused r) names lengths
  unfolding load_names_answer names_after lengths_after
  refuses r h = ((λ w. rw (h w) refl), ((λ w. rw (h w) refl), (λ w. rw (h w) refl)))

  pub bad_form : (k : ℕ) → (accepts t ≡ false) × (place t ≡ k) → Says (refused (no 40 (k ∷ []))) names lengths
  bad_form k h = refuses (no 40 (k ∷ [])) (λ w. form_refused w (length names) (length lengths) k (refused_reading t h.0 w ∙ ap {B = Option (List ℕ)} (λ (i : ℕ). some (i ∷ [])) h.1))

  -- What loading says of a text that passes question 40, from what its records show, whichever way it is taken apart.
  module _ (a : accepts t ≡ true) where
    by_passes : (r : Refusal) → ((p : IsSheet t) → refusal (passes p) ≡ some r) → (w : Reading t) → refusal w ≡ some r
    by_passes r h (passes p) = h p
    by_passes r h (offends k n o) = absurd (n (accepted_passes t a))

    pub bad_record : (r : Refusal) → ((p : IsSheet t) → first_no (rows_questions 1 (sheet_rows p.sheet)) ≡ some r) → Says (refused r) names lengths
    bad_record r h = refuses r (by_passes r (λ p. rows_refused (passes p) (length names) (length lengths) r refl (h p)))

    -- What loading says if the records pass and hold `count` names with `total` bytes.
    module _ (count total : ℕ) (judged : (p : IsSheet t) → (first_no (rows_questions 1 (sheet_rows p.sheet)) ≡ none) × (count ≡ length (sheet_rows p.sheet)) × (total ≡ length (flatten (rows_names (sheet_rows p.sheet))))) where
      names_count : (p : IsSheet t) → length (rows_names (sheet_rows p.sheet)) ≡ count
      unfolding rows_names
      names_count p = length-map (sheet_rows p.sheet) (λ (r : Row). r.name) ∙ sym (judged p).1

      pub names_short : length names < total → Says (refused (no 27 [])) names lengths
      names_short h = refuses (no 27 []) (by_passes (no 27 []) (λ p. names_refused (passes p) (length names) (length lengths) refl (judged p).0 (let e = (judged p).2 in omega arith)))

      pub lengths_short : total ≤ length names → length lengths < count → Says (refused (no 27 [])) names lengths
      lengths_short m h =
          refuses (no 27 [])
          (by_passes (no 27 [])
          (λ p. lengths_refused (passes p) (length names) (length lengths) refl (judged p).0 (let e = (judged p).2 in omega arith) (let e = names_count p in omega arith)))

      module _ (m : total ≤ length names) (u : count ≤ length lengths) where
        none_refused : (p : IsSheet t) → refusal (passes p) ≡ none
        none_refused p = load_passes (passes p) (length names) (length lengths) refl (judged p).0 (let e = (judged p).2 in omega arith) (let e = names_count p in omega arith)

        module _ (namesNow lengthsNow : List ℕ) (names-written : (p : IsSheet t) → namesNow ≡ overwritten (flatten (rows_names (sheet_rows p.sheet))) names) (lengths-written : (p : IsSheet t) → lengthsNow ≡ overwritten (map length (rows_names (sheet_rows p.sheet))) lengths) where
          answer : (w : Reading t) → gives count ≡ load_names_answer w names lengths
          unfolding load_names_answer
          answer (passes p) = rw (none_refused p, names_count p) refl
          answer (offends k n o) = absurd (n (accepted_passes t a))

          names_now : (w : Reading t) → namesNow ≡ names_after w names lengths
          unfolding names_after
          names_now (passes p) = rw (none_refused p) (names-written p)
          names_now (offends k n o) = absurd (n (accepted_passes t a))

          lengths_now : (w : Reading t) → lengthsNow ≡ lengths_after w names lengths
          unfolding lengths_after
          lengths_now (passes p) = rw (none_refused p) (lengths-written p)
          lengths_now (offends k n o) = absurd (n (accepted_passes t a))

          pub loads : Says (gives count) namesNow lengthsNow
          loads = (answer, (names_now, lengths_now))
