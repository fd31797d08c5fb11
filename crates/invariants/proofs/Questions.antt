-- The questions about an element: what each way out of them answers, and what is known if none fails. Assumes nothing.
use mathlib.Core.Path.{◌≡◌, sym, ap, ◌∙◌}
use mathlib.Core.List.{List, [], ◌∷◌}
use mathlib.Core.Option.{Option, none, some, or_else}
use Prim.Native.Nat.{ℕ, ◌≤◌, ◌<◌}
use borrow.Author.Tests.{le-leb, lt-leb}
use Rattle.semigroups.specs.Lists.{first_of}
use Rattle.semigroups.specs.Tables.{Element, is_element, Filled, Associative, product}
use Rattle.semigroups.specs.Questions.{Question, ask, Refusal, first_no, table_questions, table_refusal, element_refusal}
use Rattle.semigroups.specs.InnerQuestions.{no}
use Rattle.semigroups.specs.Calls.{Answer, refused, gives, given_unless}
use Rattle.semigroups.proofs.Lists.{is_element_law}
use Rattle.semigroups.proofs.Tables.{accepted}
use Rattle.semigroups.proofs.Questions.{ask_passed, all_passed, failed_before, passed_before, both_passed}

-- A table with no failed question is filled.
pub table_filled : (n : ℕ) (cells : List ℕ) → table_refusal n cells ≡ none → Filled n cells
table_filled n cells e = (accepted n cells e).filled

module _ (n : ℕ) (cells : List ℕ) (a : ℕ) where
  abbrev element : Question
  element = ask 7 (is_element n a)

  pub table_refused : (r : Refusal) → table_refusal n cells ≡ some r → element_refusal n cells a ≡ some r
  unfolding element_refusal table_refusal
  table_refused r e = failed_before (table_questions n cells) (element ∷ []) e

  module _ (e : table_refusal n cells ≡ none) where
    element_left : element_refusal n cells a ≡ first_no (element ∷ [])
    unfolding element_refusal table_refusal
    element_left = passed_before (table_questions n cells) (element ∷ []) e

    pub element_low : a < 1 → element_refusal n cells a ≡ some (no 7 [])
    unfolding first_of or_else is_element
    element_low h = element_left ∙ rw (lt-leb 1 a h)

    pub element_high : 1 ≤ a → n < a → element_refusal n cells a ≡ some (no 7 [])
    unfolding first_of or_else is_element
    element_high l h = element_left ∙ rw (le-leb 1 a l, lt-leb a n h)

    pub element_passes : 1 ≤ a → a ≤ n → element_refusal n cells a ≡ none
    unfolding first_of or_else is_element
    element_passes l h = element_left ∙ rw (le-leb 1 a l, le-leb a n h)

  -- If no question fails, the cells fill a table, a is one of its elements, and the table is associative.
  pub asked : element_refusal n cells a ≡ none → Filled n cells × Element n a × Associative n (product n cells)
  unfolding element_refusal table_refusal
  asked e =
      let p = both_passed (table_questions n cells) (element ∷ []) e in
      (table_filled n cells p.0, is_element_law n a (ask_passed 7 (is_element n a) ((all_passed (element ∷ [])).0 p.1).0), (accepted n cells p.0).associative)

-- ---- what a call says

module _ {A : Type 0} (q : Option Refusal) (value : A) where
  pub says_refused : (r : Refusal) → q ≡ some r → refused r ≡ given_unless q value
  says_refused r e = sym (ap (λ (o : Option Refusal). given_unless o value) e)

  pub says_given : (v : A) → q ≡ none → v ≡ value → gives v ≡ given_unless q value
  says_given v e same = ap {B = Answer A} gives same ∙ sym (ap (λ (o : Option Refusal). given_unless o value) e)
