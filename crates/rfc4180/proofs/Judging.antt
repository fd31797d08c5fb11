-- Reading a text for its order and for questions 23 to 26: what is left of each at the start of a field.
-- Assumes nothing.
use mathlib.Core.Path.{◌≡◌, refl, ap, sym, ◌∙◌}
use mathlib.Core.Bool.{Bool, true, false, ◌&&◌, not, and-true, and-false}
use mathlib.Core.List.{List, [], ◌∷◌, flatten}
use mathlib.Core.Option.{none, some, or_else}
use Prim.Native.Nat.{ℕ, suc, ◌+◌, ◌≤◌}
use native.Mathlib.Omega.{arith}
use lib.Dec.{eqb}
use lib.ListN.{length, drop}
use borrow.Author.Tests.{eq-eqb, ne_eqb, not-true, not-false}
use Rattle.semigroups.specs.Lists.{all, first_of}
use Rattle.semigroups.specs.Questions.{Refusal, first_no, ask}
use Rattle.semigroups.specs.InnerQuestions.{no}
use Rattle.semigroups.proofs.Questions.{failed_before, passed_before}
use Rattle.semigroups.proofs.Booleans.{impossible}
use Rattle.rfc4180.specs.InnerCursor.{digits, comma_follows, next_field, field_follows}
use Rattle.rfc4180.specs.Records.{rows}
use Rattle.rfc4180.specs.Tables.{fields_of, order_of}
use Rattle.rfc4180.specs.InnerQuestions.{bytes_refusal, fields_refusal, grid_refusal, field_refusal}
use Rattle.rfc4180.specs.Questions.{fields_questions, is_square}
use Rattle.rfc4180.proofs.Fields.{no_fields, fields_first}
use Rattle.rfc4180.proofs.Reading.{Left, begins, Turn, following, goes_on_with, flatten_after, turn, left_true, left_none, all_left, next_later}

-- ---- the order

-- In the first record, n fields are read, and the number of those left gives the order.
pub record Counting (t : List ℕ) (n at : ℕ) (comma : Bool) : Type 0 where
  pub fields : List (List ℕ)
  pub later : List (List (List ℕ))
  pub more : Bool
  pub goes_on : comma ≡ goes_on_with fields
  pub left : Left t at more (following fields later)
  pub order : order_of t ≡ n + length fields
  pub few : n ≤ at

pub count_first : {t : List ℕ} → 1 ≤ length t → bytes_refusal t ≡ none → Counting t 0 0 true
unfolding order_of
count_first {t} one b = go refl (all_left one b)
  where
    go : {rs : List (List (List ℕ))} → rows t ≡ rs → Left t 0 true rs → Counting t 0 0 true
    go q (begins {f = f} {fs = fs} {rs = rs} i r l) =
        record { fields = f ∷ fs; later = rs; more = true; goes_on = refl; left = begins i r l; order = rw q (omega arith); few = omega arith }

pub count_turn : {t : List ℕ} {n at : ℕ} {comma : Bool} (k : Counting t n at comma) → comma ≡ true → Turn t at (following k.fields k.later)
count_turn {t} {n} {at} {comma} k c = go k.fields (sym k.goes_on ∙ c) k.left
  where
    go : (fs : List (List ℕ)) → goes_on_with fs ≡ true → {m : Bool} → Left t at m (following fs k.later) → Turn t at (following fs k.later)
    go [] e l = impossible (cc)
    go (g ∷ gs) e l = turn (left_true l) l

pub count_more : {t : List ℕ} {n at : ℕ} {comma : Bool} → Counting t n at comma → comma ≡ true → Counting t (n + 1) (next_field t at) (comma_follows t at)
count_more {t} {n} {at} {comma} k c = go k.fields (sym k.goes_on ∙ c) k.order (count_turn k c)
  where
    go : (fs : List (List ℕ)) → goes_on_with fs ≡ true → order_of t ≡ n + length fs → Turn t at (following fs k.later) → Counting t (n + 1) (next_field t at) (comma_follows t at)
    go [] e o x = impossible (cc)
    go (g ∷ gs) e o x =
        let few = k.few in
        let p : gs ≡ x.fields = cc x.here in
        record { fields = x.fields; later = x.later; more = field_follows t at; goes_on = x.comma; left = x.left; order = omega (arith, ap length p); few = omega (arith, next_later t at) }

pub count_last : {t : List ℕ} {n at : ℕ} {comma : Bool} → Counting t n at comma → comma ≡ false → n ≡ order_of t
count_last {t} {n} k c = go k.fields (sym k.goes_on ∙ c) k.order
  where
    go : (fs : List (List ℕ)) → goes_on_with fs ≡ false → order_of t ≡ n + length fs → n ≡ order_of t
    go [] e o = omega arith
    go (g ∷ gs) e o = impossible (cc)

-- ---- questions 23 to 26

-- What is left of question 26 once `row` records and `column` fields of the next one are read.
abbrev even_left : ℕ → ℕ → List (List (List ℕ)) → Bool
even_left n column [] = true
even_left n column (r ∷ rs) = eqb (column + length r) n && all (λ k. eqb (length k) n) rs

abbrev square_left : ℕ → ℕ → ℕ → List (List (List ℕ)) → Bool
square_left n row column rs = eqb (row + length rs) n && even_left n column rs

-- At the start of a field, the fields and the shape that are left decide the questions.
pub record Judging (t : List ℕ) (n at row column : ℕ) (square more : Bool) : Type 0 where
  pub rest : List (List (List ℕ))
  pub left : Left t at more rest
  pub fields : fields_refusal (fields_of t) ≡ fields_refusal (flatten rest)
  pub shape : is_square n (rows t) ≡ (square && square_left n row column rest)
  pub few_rows : row ≤ at
  pub few_columns : column ≤ at

even_zero : (n : ℕ) (rs : List (List (List ℕ))) → even_left n 0 rs ≡ all (λ k. eqb (length k) n) rs
unfolding all
even_zero n [] = refl
even_zero n (r ∷ rs) = let z : 0 + length r ≡ length r = omega arith in rw z

pub judge_first : {t : List ℕ} {n : ℕ} → 1 ≤ length t → bytes_refusal t ≡ none → Judging t n 0 0 0 true true
unfolding fields_of is_square
judge_first {t} {n} one b =
    let z : 0 + length (rows t) ≡ length (rows t) = omega arith in
    record { rest = rows t; left = all_left one b; fields = refl; shape = rw (z, even_zero); few_rows = omega arith; few_columns = omega arith }

-- ---- how questions 23 to 26 are decided

module _ (n : ℕ) (t : List ℕ) where
  pub says_field : {r : Refusal} → fields_refusal (fields_of t) ≡ some r → some r ≡ grid_refusal n t
  unfolding grid_refusal fields_refusal
  says_field h = sym (failed_before (fields_questions (fields_of t)) (ask 26 (is_square n (rows t)) ∷ []) h)

  square_left_law : fields_refusal (fields_of t) ≡ none → grid_refusal n t ≡ first_no (ask 26 (is_square n (rows t)) ∷ [])
  unfolding grid_refusal fields_refusal
  square_left_law h = passed_before (fields_questions (fields_of t)) (ask 26 (is_square n (rows t)) ∷ []) h

  says_uneven : fields_refusal (fields_of t) ≡ none → is_square n (rows t) ≡ false → some (no 26 []) ≡ grid_refusal n t
  unfolding first_of or_else
  says_uneven h e = sym (square_left_law h ∙ rw e)

  pub says_passed : fields_refusal (fields_of t) ≡ none → is_square n (rows t) ≡ true → none ≡ grid_refusal n t
  unfolding first_of or_else
  says_passed h e = sym (square_left_law h ∙ rw e)

-- ---- a turn, and the end

regroup : (a b e x : Bool) → (a && (b && (e && x))) ≡ ((a && e) && (b && x))
regroup false b e x = refl
regroup true true e x = refl
regroup true false true x = refl
regroup true false false x = refl

module _ {t : List ℕ} {n at row column : ℕ} {square more : Bool} (k : Judging t n at row column square more) where
  module _ (h : more ≡ false) where
    judge_done : (fields_refusal (fields_of t) ≡ none) × (is_square n (rows t) ≡ (square && eqb row n))
    unfolding flatten
    judge_done =
        let e = left_none h k.left in
        let z : row + 0 ≡ row = omega arith in (
          k.fields ∙ ap (λ (rs : List (List (List ℕ))). fields_refusal (flatten rs)) e ∙ no_fields,
          k.shape ∙ ap (λ (rs : List (List (List ℕ))). square && square_left n row column rs) e ∙ simp (z, and-true),
        )

    -- At the end some record has too many or too few fields; or there are too few or too many records; or the text is a square.
    pub end_uneven : square ≡ false → some (no 26 []) ≡ grid_refusal n t
    end_uneven e = says_uneven n t judge_done.0 (judge_done.1 ∙ rw e)

    pub end_many : (row ≡ n → ⊥) → some (no 26 []) ≡ grid_refusal n t
    end_many e = says_uneven n t judge_done.0 (judge_done.1 ∙ simp (ne_eqb row n e, and-false))

    pub end_square : square ≡ true → row ≡ n → none ≡ grid_refusal n t
    end_square e f = says_passed n t judge_done.0 (judge_done.1 ∙ rw e (eq-eqb row n f))

  module _ (h : more ≡ true) where
    pub here : Turn t at k.rest
    here = turn h k.left

    -- The questions about the field at this place come next.
    asked : fields_refusal (fields_of t) ≡ or_else (field_refusal (digits (drop at t))) (fields_refusal (flatten (following here.fields here.later)))
    asked =
        k.fields
        ∙ ap (λ (rs : List (List (List ℕ))). fields_refusal (flatten rs)) here.here
        ∙ ap fields_refusal (flatten_after (digits (drop at t)) here.fields here.later)
        ∙ fields_first (digits (drop at t)) (flatten (following here.fields here.later))

    pub judge_refused : {r : Refusal} → field_refusal (digits (drop at t)) ≡ some r → fields_refusal (fields_of t) ≡ some r
    unfolding or_else
    judge_refused e = asked ∙ rw e

    module _ (passes : field_refusal (digits (drop at t)) ≡ none) where
      -- What holds at the next field, from what is left of the shape.
      judge_next : (row' column' : ℕ) (square' : Bool) → row' ≤ at + 1 → column' ≤ at + 1
          → (square && square_left n row column ((digits (drop at t) ∷ here.fields) ∷ here.later)) ≡ (square' && square_left n row' column' (following here.fields here.later))
          → Judging t n (next_field t at) row' column' square' (field_follows t at)
      unfolding or_else
      judge_next row' column' square' r c e =
          let w = next_later t at in
          record {
            rest = following here.fields here.later;
            left = here.left;
            fields = asked ∙ rw passes;
            shape = k.shape ∙ ap (λ (rs : List (List (List ℕ))). square && square_left n row column rs) here.here ∙ e;
            few_rows = omega arith;
            few_columns = omega arith;
          }

      pub judge_comma : comma_follows t at ≡ true → Judging t n (next_field t at) row (column + 1) square (field_follows t at)
      judge_comma c =
          let w = k.few_rows in
          let v = k.few_columns in
          judge_next row (column + 1) square (omega arith) (omega arith) (go here.fields (sym here.comma ∙ c))
        where
          go : (fs : List (List ℕ)) → goes_on_with fs ≡ true
              → (square && square_left n row column ((digits (drop at t) ∷ fs) ∷ here.later)) ≡ (square && square_left n row (column + 1) (following fs here.later))
          go [] e = impossible (cc)
          go (g ∷ gs) e = let m : column + suc (suc (length gs)) ≡ column + 1 + suc (length gs) = omega arith in rw m

      module _ (c : comma_follows t at ≡ false) where
        at_break : (square' : Bool) → ((m : ℕ) (x : Bool) → (square && (eqb m n && (eqb (column + 1) n && x))) ≡ (square' && (eqb m n && x)))
            → Judging t n (next_field t at) (row + 1) 0 square' (field_follows t at)
        at_break square' same =
            let w = k.few_rows in
            judge_next (row + 1) 0 square' (omega arith) (omega arith) (go here.fields (sym here.comma ∙ c))
          where
            go : (fs : List (List ℕ)) → goes_on_with fs ≡ false
                → (square && square_left n row column ((digits (drop at t) ∷ fs) ∷ here.later)) ≡ (square' && square_left n (row + 1) 0 (following fs here.later))
            go [] e =
                let m : row + suc (length here.later) ≡ row + 1 + length here.later = omega arith in
                same (row + suc (length here.later)) (all (λ r. eqb (length r) n) here.later) ∙ rw (m, even_zero)
            go (g ∷ gs) e = impossible (cc)

        pub judge_record : Judging t n (next_field t at) (row + 1) 0 (square && eqb (column + 1) n) (field_follows t at)
        judge_record = at_break (square && eqb (column + 1) n) (λ m x. regroup square (eqb m n) (eqb (column + 1) n) x)
