-- What saving says and leaves, for each question that may fail first and if none fails.
-- Assumes nothing.
use mathlib.Core.Path.{◌≡◌, refl, ap}
use mathlib.Core.Bool.{false}
use mathlib.Core.List.{List, []}
use mathlib.Core.Option.{none, some}
use Prim.Native.Nat.{ℕ, ◌≤◌, ◌<◌}
use native.Mathlib.Omega.{arith}
use lib.ListN.{length}
use Rattle.semigroups.specs.Tables.{Element, is_element}
use Rattle.semigroups.specs.Questions.{Refusal, first_no}
use Rattle.semigroups.specs.InnerQuestions.{no}
use Rattle.semigroups.specs.Calls.{Answer, refused, gives, overwritten}
use Rattle.semigroups.proofs.Booleans.{untrue}
use Rattle.semigroups.proofs.Lists.{is_element_law}
use Rattle.sheets.specs.Names.{names_text, names_at}
use Rattle.sheets.specs.Questions.{names_questions, save_names_refusal}
use Rattle.sheets.specs.Calls.{save_names_answer, sheet_after}
use Rattle.sheets.proofs.Questions.{count_refused, name_refused, text_refused, save_passes}

module _ (names lengths text : List ℕ) where
  abbrev pub Says : Answer ℕ → List ℕ → Type 0
  Says answer now = (answer ≡ save_names_answer names lengths text) × (now ≡ sheet_after names lengths text)

  refuses : (r : Refusal) → save_names_refusal names lengths (length text) ≡ some r → Says (refused r) text
  unfolding save_names_answer sheet_after
  refuses r h = (rw h refl, rw h refl)

  no_element : (Element 120 (length lengths) → ⊥) → is_element 120 (length lengths) ≡ false
  no_element n = untrue (is_element 120 (length lengths)) (λ e. n (is_element_law 120 (length lengths) e))

  pub no_lengths : length lengths < 1 → Says (refused (no 42 [])) text
  no_lengths h = refuses (no 42 []) (count_refused names lengths (length text) (no_element (λ e. let l = e.0 in omega arith)))

  pub many_lengths : 120 < length lengths → Says (refused (no 42 [])) text
  many_lengths h = refuses (no 42 []) (count_refused names lengths (length text) (no_element (λ e. let u = e.1 in omega arith)))

  pub bad_name : (r : Refusal) → Element 120 (length lengths) → first_no (names_questions 1 names lengths) ≡ some r → Says (refused r) text
  bad_name r e h = refuses r (name_refused names lengths (length text) r e h)

  -- What saving says and leaves if the names pass and their text has `total` bytes.
  module _ (total : ℕ) (e : Element 120 (length lengths)) (judged : (first_no (names_questions 1 names lengths) ≡ none) × (total ≡ length (names_text (names_at names lengths)))) where
    pub short_text : length text < total → Says (refused (no 28 [])) text
    short_text h = let t = judged.1 in refuses (no 28 []) (text_refused names lengths (length text) e judged.0 (omega arith))

    pub saves_text : total ≤ length text → (now : List ℕ) → now ≡ overwritten (names_text (names_at names lengths)) text → Says (gives total) now
    unfolding save_names_answer sheet_after
    saves_text h now w =
        let t = judged.1 in
        let p = save_passes names lengths (length text) e judged.0 (omega arith) in
        (rw p (ap {B = Answer ℕ} gives t), rw p w)
