-- A call's questions pass exactly where what it needs holds. Assumes nothing.
use mathlib.Core.Path.{◌≡◌, sym, ap, ◌∙◌}
use mathlib.Core.Logic.{◌↔◌}
use mathlib.Core.Bool.{Bool, true}
use mathlib.Core.List.{List, [], ◌∷◌, ◌++◌, map}
use mathlib.Core.Option
use mathlib.Core.Option.{none, map-eq-none_iff}
use Prim.Native.Nat.{ℕ, ◌*◌, ◌≤◌}
use borrow.Author.Tests.{eqb-true, eq-eqb, leb-true, le-leb}
use lib.Dec.{eqb, leb}
use Rattle.semigroups.specs.Tables.{Element, Filled, Accepted, is_element}
use Rattle.semigroups.specs.Scratch.{scratch_size}
use Rattle.semigroups.specs.Questions.{Question, ask, on_side, first_no, table_questions, table_refusal, element_refusal, tables_questions, check_questions, check_refusal, search_refusal}
use Rattle.semigroups.specs.InnerQuestions.{naming, cells_refusal, tables_refusal}
use Rattle.semigroups.specs.Transformations.{transformation_order, transformation_refusal}
use Rattle.semigroups.specs.PassingLaws.{ElementPasses, CheckPasses, SearchPasses, TransformationsPass}
use Rattle.semigroups.proofs.Lists.{is_element_law, element_is}
use Rattle.semigroups.proofs.Questions.{ask_passed, all_passed, first_sided, passed_before, both_passed}
use Rattle.semigroups.proofs.Tables.{filled, no_cells_refusal, accepted, no_refusal_law}

-- ---- one question

module _ (number : ℕ) where
  pub asked : {P : Type 0} (b : Bool) → (b ≡ true → P) → (P → b ≡ true) → (first_no (ask number b ∷ []) ≡ none) ↔ P
  asked b to from = ((λ e. to (ask_passed number b ((all_passed (ask number b ∷ [])).0 e).0)), λ h. (all_passed (ask number b ∷ [])).1 (rw (from h), tt))

  pub element_asked : (n x : ℕ) → (first_no (ask number (is_element n x) ∷ []) ≡ none) ↔ Element n x
  element_asked n x = asked (is_element n x) (is_element_law n x) (element_is n x)

  pub equal_asked : (a b : ℕ) → (first_no (ask number (eqb a b) ∷ []) ≡ none) ↔ (a ≡ b)
  equal_asked a b = asked (eqb a b) (eqb-true a b) (eq-eqb a b)

  pub room_asked : (a b : ℕ) → (first_no (ask number (leb a b) ∷ []) ≡ none) ↔ (a ≤ b)
  room_asked a b = asked (leb a b) (leb-true a b) (le-leb a b)

-- ---- questions put together

-- Questions that name a side pass if they pass without it.
sided : {P : Type 0} (side : ℕ) (qs : List Question) → (first_no qs ≡ none) ↔ P → (first_no (map (on_side side) qs) ≡ none) ↔ P
sided side qs w = (
  (λ e. w.0 ((map-eq-none_iff (naming side) (first_no qs)).0 (sym (first_sided side qs) ∙ e))),
  λ h. first_sided side qs ∙ ap (Option.map (naming side)) (w.1 h),
)

pub joined : {P Q : Type 0} (qs more : List Question) → (first_no qs ≡ none) ↔ P → (first_no more ≡ none) ↔ Q → (first_no (qs ++ more) ≡ none) ↔ (P × Q)
joined qs more v w = ((λ e. let p = both_passed qs more e in (v.0 p.0, w.0 p.1)), λ h. passed_before qs more (v.1 h.0) ∙ w.1 h.1)

-- ---- the calls

pub cells_pass : (n : ℕ) (cells : List ℕ) → (cells_refusal n cells ≡ none) ↔ Filled n cells
cells_pass n cells = (filled n cells, no_cells_refusal n cells)

pub table_passes : (n : ℕ) (cells : List ℕ) → (table_refusal n cells ≡ none) ↔ Accepted n cells
table_passes n cells = (accepted n cells, no_refusal_law n cells)

pub element_passes : (n : ℕ) (cells : List ℕ) (a : ℕ) → (element_refusal n cells a ≡ none) ↔ ElementPasses n cells a
unfolding element_refusal table_refusal
element_passes n cells a =
    let w = joined (table_questions n cells) (ask 7 (is_element n a) ∷ []) (table_passes n cells) (element_asked 7 n a) in
    ((λ e. let h = w.0 e in record { table = h.0; element = h.1 }), λ h. w.1 (h.table, h.element))

module _ (m : ℕ) (source : List ℕ) (n : ℕ) (target : List ℕ) where
  pub tables_pass : (tables_refusal m source n target ≡ none) ↔ (Accepted m source × Accepted n target)
  unfolding tables_refusal table_refusal
  tables_pass =
      joined (map (on_side 1) (table_questions m source)) (map (on_side 2) (table_questions n target)) (sided 1 (table_questions m source) (table_passes m source))
      (sided 2 (table_questions n target) (table_passes n target))

  pub check_passes : (k : ℕ) → (check_refusal m source n target k ≡ none) ↔ CheckPasses m source n target k
  unfolding check_refusal tables_refusal
  check_passes k =
      let w = joined (tables_questions m source n target) (ask 5 (eqb k m) ∷ []) tables_pass (equal_asked 5 k m) in
      ((λ e. let h = w.0 e in record { source_table = h.0.0; target_table = h.0.1; map_size = h.1 }), λ h. w.1 ((h.source_table, h.target_table), h.map_size))

  pub search_passes : (k l : ℕ) → (search_refusal m source n target k l ≡ none) ↔ SearchPasses m source n target k l
  unfolding search_refusal check_refusal
  search_passes k l =
      let w = joined (check_questions m source n target k) (ask 6 (leb (scratch_size m n) l) ∷ []) (check_passes k) (room_asked 6 (scratch_size m n) l) in
      ((λ e. let h = w.0 e in record { check = h.0; scratch_room = h.1 }), λ h. w.1 (h.check, h.scratch_room))

pub transformations_pass : (d room : ℕ) → (transformation_refusal d room ≡ none) ↔ TransformationsPass d room
unfolding transformation_refusal
transformations_pass d room =
    let cells = transformation_order d * transformation_order d in
    let w = joined (ask 8 (is_element 3 d) ∷ []) (ask 9 (leb cells room) ∷ []) (element_asked 8 3 d) (room_asked 9 cells room) in
    ((λ e. let h = w.0 e in record { degree = h.0; cells_room = h.1 }), λ h. w.1 (h.degree, h.cells_room))
