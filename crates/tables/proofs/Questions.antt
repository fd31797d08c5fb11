-- The questions about a table and those of a search, one by one: what each way out of them answers. Assumes nothing.
use mathlib.Core.Path.{◌≡◌, refl, sym, ap₂, ◌∙◌}
use mathlib.Core.Bool.{cond, not}
use mathlib.Core.List.{List, [], ◌∷◌, map}
use mathlib.Core.Option
use mathlib.Core.Option.{Option, none, some, or_else, map-eq-none_iff}
use Prim.Native.Nat.{ℕ, ◌+◌, ◌-◌, ◌*◌, ◌≤◌, ◌<◌}
use borrow.Author.Tests.{le-leb, lt-leb, eq-eqb, ne_eqb}
use lib.Dec.{eqb, leb}
use lib.ListN.{length, get_or}
use Rattle.semigroups.specs.Lists.{elements, at, first_of}
use Rattle.semigroups.specs.Tables.{product, is_element, bad_cell, bad_triple, Accepted}
use Rattle.semigroups.specs.Scratch.{scratch_size}
use Rattle.semigroups.specs.Questions.{Question, ask, seek, on_side, Refusal, refusal_by, first_no, triple_question, cells_questions, table_questions, table_refusal, tables_questions, search_refusal}
use Rattle.semigroups.specs.InnerQuestions.{no, naming, cells_refusal, tables_refusal}
use Rattle.semigroups.proofs.Tables.{accepted}
use Rattle.semigroups.proofs.Questions.{first_sided, first_append, failed_before, passed_before}
use Rattle.semigroups.proofs.Completions.{or_else_nothing, or_else_none, find_first_of, first_from, first_start, first_skip, first_hit, first_end}

module _ (n : ℕ) (cells : List ℕ) where
  -- ---- question 3

  -- Cell k where it is not 1 to n.
  abbrev wrong : ℕ → Option ℕ
  wrong k = cond (not (is_element n (at cells k))) (some k) none

  -- The first wrong cell from cell k on.
  unfoldable pub bad_from : ℕ → Option ℕ
  bad_from k = first_from wrong (length cells) k

  pub cell_begin : bad_cell n cells ≡ bad_from 1
  unfolding bad_cell bad_from elements
  cell_begin = find_first_of (λ k. not (is_element n (at cells k))) (elements (length cells)) ∙ first_start wrong (length cells)

  pub cell_pass : (k : ℕ) → k ≤ length cells → 1 ≤ get_or cells (k - 1) 0 → get_or cells (k - 1) 0 ≤ n → bad_from k ≡ bad_from (k + 1)
  unfolding bad_from is_element at
  cell_pass k h low high = first_skip wrong (length cells) k h (rw (le-leb 1 (get_or cells (k - 1) 0) low, le-leb (get_or cells (k - 1) 0) n high))

  pub cell_low : (k : ℕ) → k ≤ length cells → get_or cells (k - 1) 0 < 1 → bad_from k ≡ some k
  unfolding bad_from is_element at
  cell_low k h low = first_hit wrong (length cells) k k h (rw (lt-leb 1 (get_or cells (k - 1) 0) low))

  pub cell_high : (k : ℕ) → k ≤ length cells → 1 ≤ get_or cells (k - 1) 0 → n < get_or cells (k - 1) 0 → bad_from k ≡ some k
  unfolding bad_from is_element at
  cell_high k h low high = first_hit wrong (length cells) k k h (rw (le-leb 1 (get_or cells (k - 1) 0) low, lt-leb (get_or cells (k - 1) 0) n high))

  pub cell_end : (k : ℕ) → length cells < k → bad_from k ≡ none
  unfolding bad_from
  cell_end k h = first_end wrong (length cells) k h

  -- ---- the questions in order

  pub order_low : n < 1 → cells_refusal n cells ≡ some (no 1 [])
  unfolding cells_refusal first_of is_element or_else
  order_low h = rw (lt-leb 1 n h)

  pub order_high : 1 ≤ n → 120 < n → cells_refusal n cells ≡ some (no 1 [])
  unfolding cells_refusal first_of is_element or_else
  order_high l h = rw (le-leb 1 n l, lt-leb n 120 h)

  pub wrong_size : 1 ≤ n → n ≤ 120 → (length cells ≡ n * n → ⊥) → cells_refusal n cells ≡ some (no 2 [])
  unfolding cells_refusal first_of is_element or_else
  wrong_size l h e = rw (le-leb 1 n l, le-leb n 120 h, ne_eqb (length cells) (n * n) e)

  pub right_size : 1 ≤ n → n ≤ 120 → length cells ≡ n * n → (o : Option ℕ) → bad_cell n cells ≡ o → cells_refusal n cells ≡ Option.map (λ k. no 3 (k ∷ [])) o
  unfolding cells_refusal first_of is_element or_else
  right_size l h e o w = rw (le-leb 1 n l, le-leb n 120 h, eq-eqb (length cells) (n * n) e, w) (said o)
    where
      said : (o : Option ℕ) → first_no (seek 3 (Option.map (λ k. k ∷ []) o) ∷ []) ≡ Option.map (λ k. no 3 (k ∷ [])) o
      said none = refl
      said (some k) = refl

  pub cells_refused : (r : Refusal) → cells_refusal n cells ≡ some r → table_refusal n cells ≡ some r
  unfolding table_refusal cells_refusal
  cells_refused r e = failed_before (cells_questions n cells) (triple_question n cells ∷ []) e

  pub cells_pass : cells_refusal n cells ≡ none → table_refusal n cells ≡ Option.map (λ l. no 4 l) (bad_triple n (product n cells))
  unfolding table_refusal cells_refusal first_of
  cells_pass e = passed_before (cells_questions n cells) (triple_question n cells ∷ []) e ∙ or_else_nothing (refusal_by (triple_question n cells))

-- ---- the questions about two tables

module _ (m : ℕ) (source : List ℕ) (n : ℕ) (target : List ℕ) where
  pub tables_first : tables_refusal m source n target ≡ or_else (Option.map (naming 1) (table_refusal m source)) (Option.map (naming 2) (table_refusal n target))
  unfolding tables_refusal table_refusal
  tables_first =
      first_append (map (on_side 1) (table_questions m source)) (map (on_side 2) (table_questions n target))
      ∙ ap₂ or_else (first_sided 1 (table_questions m source)) (first_sided 2 (table_questions n target))

  pub both_pass : table_refusal m source ≡ none → table_refusal n target ≡ none → tables_refusal m source n target ≡ none
  unfolding or_else
  both_pass e g = tables_first ∙ rw (e, g)

  pub tables_accepted : tables_refusal m source n target ≡ none → Accepted m source × Accepted n target
  tables_accepted e =
      let p = or_else_none (Option.map (naming 1) (table_refusal m source)) (Option.map (naming 2) (table_refusal n target)) (sym tables_first ∙ e) in
      (accepted m source ((map-eq-none_iff (naming 1) (table_refusal m source)).0 p.0), accepted n target ((map-eq-none_iff (naming 2) (table_refusal n target)).0 p.1))

-- ---- the questions of a search, about both tables and both buffers

module _ (m : ℕ) (source : List ℕ) (n : ℕ) (target : List ℕ) (k l : ℕ) where
  -- Questions 5 and 6.
  abbrev buffers : List Question
  buffers = ask 5 (eqb k m) ∷ ask 6 (leb (scratch_size m n) l) ∷ []

  pub tables_refused : (r : Refusal) → tables_refusal m source n target ≡ some r → search_refusal m source n target k l ≡ some r
  unfolding search_refusal tables_refusal
  tables_refused r e = failed_before (tables_questions m source n target) buffers e

  module _ (e : tables_refusal m source n target ≡ none) where
    buffers_left : search_refusal m source n target k l ≡ first_no buffers
    unfolding search_refusal tables_refusal
    buffers_left = passed_before (tables_questions m source n target) buffers e

    pub map_refused : (k ≡ m → ⊥) → search_refusal m source n target k l ≡ some (no 5 [])
    unfolding first_of or_else
    map_refused h = buffers_left ∙ rw (ne_eqb k m h)

    pub scratch_refused : k ≡ m → l < scratch_size m n → search_refusal m source n target k l ≡ some (no 6 [])
    unfolding first_of or_else
    scratch_refused q h = buffers_left ∙ rw (eq-eqb k m q, lt-leb (scratch_size m n) l h)

    pub none_refused : k ≡ m → scratch_size m n ≤ l → search_refusal m source n target k l ≡ none
    unfolding first_of or_else
    none_refused q h = buffers_left ∙ rw (eq-eqb k m q, le-leb (scratch_size m n) l h)
