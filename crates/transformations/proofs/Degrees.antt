-- What each way out of the questions says: the answer, and the buffer. Assumes nothing.
use mathlib.Core.Path.{◌≡◌, sym, ap, ap₂, ◌∙◌}
use mathlib.Core.Bool.{false}
use mathlib.Core.Logic.{⊎_elim}
use mathlib.Core.List.{List, [], ◌++◌}
use mathlib.Core.Option.{or_else}
use Prim.Native.Nat.{ℕ, ◌*◌, ◌≤◌, ◌<◌}
use native.Mathlib.Omega.{arith}
use borrow.Author.Tests.{le-leb, lt-leb}
use lib.ListN.{length, drop}
use Rattle.semigroups.specs.Lists.{first_of}
use Rattle.semigroups.specs.Tables.{Element, is_element}
use Rattle.semigroups.specs.InnerQuestions.{no}
use Rattle.semigroups.specs.Calls.{Answer, refused, gives, given_unless, written_unless}
use Rattle.semigroups.specs.Transformations.{transformation_order, transformation_cells, transformation_refusal}
use Rattle.semigroups.proofs.Booleans.{equal_or_not}
use Rattle.semigroups.proofs.Transformations.{length_cells}
use Rattle.transformations.specs.Calls.{transformation_says, transformation_cells_after}
use Rattle.transformations.specs.InnerQuestions.{room_refusal}

-- ---- a stored table and question 9

module _ (n : ℕ) (table before : List ℕ) where
  abbrev pub Put : Answer ℕ → List ℕ → Type 0
  Put says left =
      (says ≡ given_unless (room_refusal (length table) (length before)) n)
      × (left ≡ written_unless (room_refusal (length table) (length before)) table before)

  pub room_short : length before < length table → Put (refused (no 9 [])) before
  unfolding first_of or_else
  room_short h = (rw (lt-leb (length table) (length before) h), rw (lt-leb (length table) (length before) h))

  pub room_enough : length table ≤ length before → Put (gives n) (table ++ drop (length table) before)
  unfolding first_of or_else
  room_enough h = (rw (le-leb (length table) (length before) h), rw (le-leb (length table) (length before) h))

-- ---- the questions about a degree

module _ (d : ℕ) (before : List ℕ) where
  abbrev Said : Answer ℕ → List ℕ → Type 0
  Said says left = (says ≡ transformation_says d (length before)) × (left ≡ transformation_cells_after d before)

  by_question : is_element 3 d ≡ false → Said (refused (no 8 [])) before
  unfolding transformation_says transformation_cells_after transformation_refusal first_of or_else
  by_question h = (rw h, rw h)

  pub degree_refused : (d ≡ 3 → ⊥) → (d ≡ 2 → ⊥) → (d ≡ 1 → ⊥) → Said (refused (no 8 [])) before
  unfolding is_element
  degree_refused three two one =
      by_question
      (⊎_elim (λ e. rw (lt-leb 1 d (let z : d < 1 = omega arith in z)))
      (λ zero. rw (le-leb 1 d (let z : 1 ≤ d = omega arith in z), lt-leb d 3 (let z : 3 < d = omega arith in z))) (equal_or_not d 0))

  -- For a degree k from 1 to 3 only question 9 is left.
  module _ (k : ℕ) (same : d ≡ k) (h : Element 3 k) (n : ℕ) (order : n ≡ transformation_order k) (table : List ℕ) (composed : table ≡ transformation_cells k) where
    room_left : transformation_refusal d (length before) ≡ room_refusal (length table) (length before)
    unfolding transformation_refusal first_of is_element or_else
    room_left = let size : length table ≡ transformation_order k * transformation_order k = ap length composed ∙ length_cells k in rw (same, le-leb 1 k h.0, le-leb k 3 h.1, size)

    pub table_put : {says : Answer ℕ} {left : List ℕ} → Put n table before says left → Said says left
    unfolding transformation_says transformation_cells_after
    table_put p = (
      p.0 ∙ ap₂ given_unless (sym room_left) (order ∙ ap transformation_order (sym same)),
      p.1 ∙ ap₂ (λ r l. written_unless r l before) (sym room_left) (composed ∙ ap transformation_cells (sym same)),
    )
