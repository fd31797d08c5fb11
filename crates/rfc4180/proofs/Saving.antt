-- The text of a table row by row and field by field: what is left to write.
-- Assumes nothing.
use mathlib.Core.Path.{◌≡◌, refl, ap, sym, ◌∙◌}
use mathlib.Core.List.{List, [], ◌∷◌, ◌++◌, map, flat_map, append_assoc, append-nil}
use mathlib.Core.Option.{none, some, or_else}
use Prim.Native.Nat.{ℕ, suc, ◌+◌, ◌-◌, ◌≤◌, ◌<◌}
use native.Mathlib.Numerals.{add-one}
use native.Mathlib.Omega.{arith}
use lib.Dec.{leb}
use lib.ListN.{length, length-append}
use lib.Seq.{sets}
use borrow.Author.Tests.{le-leb, lt-leb}
use Rattle.semigroups.specs.Lists.{range, elements, first_of}
use Rattle.semigroups.specs.Tables.{product}
use Rattle.semigroups.specs.Questions.{Question, ask, Refusal, first_no, cells_questions}
use Rattle.semigroups.specs.InnerQuestions.{no, cells_refusal}
use Rattle.semigroups.proofs.Questions.{failed_before, passed_before}
use Rattle.rfc4180.specs.Decimals.{numeral}
use Rattle.rfc4180.specs.Records.{record_text, line_text, rows_text}
use Rattle.rfc4180.specs.Tables.{row_fields, table_text}
use Rattle.rfc4180.specs.Questions.{save_refusal}
use Rattle.semigroups.specs.Calls.{refused, gives, overwritten}
use Rattle.rfc4180.specs.Calls.{save_answer, text_after}
use Rattle.rfc4180.proofs.Writing.{Writing, write_first, write_next, write_last, sets_overwritten}

elements_first : (n : ℕ) → 1 ≤ n → elements n ≡ 1 ∷ range 2 (n + 1 - 2)
unfolding elements range
elements_first n h =
    let e : n ≡ suc (n + 1 - 2) = omega arith in
    ap (range 1) e

module _ (n : ℕ) (cells : List ℕ) where
  -- ---- a row

  module _ (i : ℕ) where
    -- The fields of row i from field j on, each with its comma, and the line break.
    unfoldable pub fields_left : ℕ → List ℕ
    fields_left j = flat_map (λ f. 44 ∷ f) (map (λ k. numeral (product n cells i k)) (range j (n + 1 - j))) ++ 13 ∷ 10 ∷ []

    pub row_first : 1 ≤ n → line_text (row_fields n cells i) ≡ numeral (product n cells i 1) ++ fields_left 2
    unfolding line_text record_text row_fields fields_left
    row_first h =
        rw (elements_first n h)
        (append_assoc (numeral (product n cells i 1)) (flat_map (λ f. 44 ∷ f) (map (λ k. numeral (product n cells i k)) (range 2 (n + 1 - 2)))) (13 ∷ 10 ∷ []))

    pub row_step : (j : ℕ) → j ≤ n → fields_left j ≡ (44 ∷ numeral (product n cells i j)) ++ fields_left (j + 1)
    unfolding fields_left flat_map range
    row_step j h =
        let e : n + 1 - j ≡ suc (n + 1 - suc j) = omega arith in
        rw (add-one j, e)
        (append_assoc (44 ∷ numeral (product n cells i j)) (flat_map (λ f. 44 ∷ f) (map (λ k. numeral (product n cells i k)) (range (suc j) (n + 1 - suc j)))) (13 ∷ 10 ∷ []))

    pub row_end : (j : ℕ) → n < j → fields_left j ≡ 13 ∷ 10 ∷ []
    unfolding fields_left flat_map range
    row_end j h =
        let e : n + 1 - j ≡ 0 = omega arith in
        rw e

    -- There is room for the first field; for a comma and field j; for the line break.
    pub room_first : (at room x : ℕ) → x ≡ product n cells i 1 → 1 ≤ n → at + length (line_text (row_fields n cells i)) ≤ room → at + length (numeral x) ≤ room
    room_first at room x e h r = rw e (omega (arith, simp length-append at (ap length (row_first h))))

    pub room_next : (j at room x : ℕ) → x ≡ product n cells i j → j ≤ n → at + length (fields_left j) ≤ room → at + 1 + length (numeral x) ≤ room
    room_next j at room x e h r = rw e (omega (arith, simp length-append at (ap length (row_step j h))))

    pub room_last : (j at room : ℕ) → n < j → at + length (fields_left j) ≤ room → at + 2 ≤ room
    room_last j at room h r = omega (arith, ap length (row_end j h))

  -- ---- the rows

  -- The text of the rows from row i on.
  unfoldable pub rows_left : ℕ → List ℕ
  rows_left i = rows_text (map (row_fields n cells) (range i (n + 1 - i)))

  pub rows_first : table_text n cells ≡ rows_left 1
  unfolding table_text rows_left elements
  rows_first =
      let e : n + 1 - 1 ≡ n = omega arith in
      rw e

  pub rows_step : (i : ℕ) → i ≤ n → rows_left i ≡ line_text (row_fields n cells i) ++ rows_left (i + 1)
  unfolding rows_left rows_text flat_map range
  rows_step i h =
      let e : n + 1 - i ≡ suc (n + 1 - suc i) = omega arith in
      rw (add-one i, e)

  pub rows_end : (i : ℕ) → n < i → rows_left i ≡ []
  unfolding rows_left rows_text flat_map range
  rows_end i h =
      let e : n + 1 - i ≡ 0 = omega arith in
      rw e

-- ---- a row is written: its first field, the fields after it, the line break

module _ (n : ℕ) (cells : List ℕ) (i : ℕ) where
  pub row_begun : (before : List ℕ) (start x : ℕ) {first : List ℕ} {following : ℕ} → 1 ≤ n → x ≡ product n cells i 1
      → first ≡ sets before start (numeral x) → following ≡ start + length (numeral x)
      → Writing before start (line_text (row_fields n cells i)) (fields_left n cells i 2) first following
  row_begun before start x one e placed next =
      rw (placed, next, e)
      (write_next (write_first before start (line_text (row_fields n cells i))) (numeral (product n cells i 1)) (fields_left n cells i 2) (row_first n cells i one))

  -- A comma and field j are written.
  pub row_more : {first text : List ℕ} {following at : ℕ} (j x : ℕ) {later : List ℕ} {next : ℕ} → j ≤ n → x ≡ product n cells i j
      → Writing first following (fields_left n cells i 2) (fields_left n cells i j) text at
      → later ≡ sets text at (44 ∷ numeral x) → next ≡ at + length (44 ∷ numeral x)
      → Writing first following (fields_left n cells i 2) (fields_left n cells i (j + 1)) later next
  row_more j x h e w placed next = rw (placed, next, e) (write_next w (44 ∷ numeral (product n cells i j)) (fields_left n cells i (j + 1)) (row_step n cells i j h))

  -- The line break is written.
  pub row_done : {before first text : List ℕ} {start following at : ℕ} (j : ℕ) {later : List ℕ} {next : ℕ} → n < j
      → Writing before start (line_text (row_fields n cells i)) (fields_left n cells i 2) first following
      → Writing first following (fields_left n cells i 2) (fields_left n cells i j) text at
      → later ≡ sets text at (13 ∷ 10 ∷ []) → next ≡ at + 2
      → (next ≡ start + length (line_text (row_fields n cells i))) × (later ≡ sets before start (line_text (row_fields n cells i)))
  row_done j h b w placed next =
      let all = write_last (write_next w (13 ∷ 10 ∷ []) [] (row_end n cells i j h)) refl in
      let whole = write_last (write_next b (fields_left n cells i 2) [] (sym (append-nil (fields_left n cells i 2)))) refl in
      (next ∙ all.1 ∙ whole.1, placed ∙ all.0 ∙ whole.0)

-- ---- the rows are written

module _ (n : ℕ) (cells : List ℕ) where
  pub rows_begun : (before : List ℕ) → Writing before 0 (table_text n cells) (rows_left n cells 1) before 0
  rows_begun before = rw (← rows_first n cells) (write_first before 0 (table_text n cells))

  pub rows_room : (i at room : ℕ) → i ≤ n → at + length (rows_left n cells i) ≤ room → at + length (line_text (row_fields n cells i)) ≤ room
  rows_room i at room h r = omega (arith, simp length-append at (ap length (rows_step n cells i h)))

  pub rows_more : {before text : List ℕ} {at : ℕ} (i : ℕ) {later : List ℕ} {next : ℕ} → i ≤ n
      → Writing before 0 (table_text n cells) (rows_left n cells i) text at
      → later ≡ sets text at (line_text (row_fields n cells i)) → next ≡ at + length (line_text (row_fields n cells i))
      → Writing before 0 (table_text n cells) (rows_left n cells (i + 1)) later next
  rows_more i h w placed next = rw (placed, next) (write_next w (line_text (row_fields n cells i)) (rows_left n cells (i + 1)) (rows_step n cells i h))

  pub rows_done : {before text : List ℕ} {at : ℕ} (i : ℕ) → n < i → length (table_text n cells) ≤ length before
      → Writing before 0 (table_text n cells) (rows_left n cells i) text at
      → (at ≡ length (table_text n cells)) × (text ≡ overwritten (table_text n cells) before)
  rows_done {before} i h r w =
      let all = write_last w (rows_end n cells i h) in
      let z : 0 + length (table_text n cells) ≡ length (table_text n cells) = omega arith in
      (all.1 ∙ z, all.0 ∙ sets_overwritten before (table_text n cells) r)

-- ---- the call

module _ (n : ℕ) (cells text : List ℕ) where
  save_refused : {r : Refusal} → save_refusal n cells (length text) ≡ some r → (refused r ≡ save_answer n cells text) × (text ≡ text_after n cells text)
  unfolding save_answer text_after
  save_refused h = (rw h, rw h)

  -- Question 1, 2 or 3 refuses; or question 28 refuses; or the text is written.
  abbrev pub room : Question
  room = ask 28 (leb (length (table_text n cells)) (length text))

  pub bad_table : {r : Refusal} → cells_refusal n cells ≡ some r → (refused r ≡ save_answer n cells text) × (text ≡ text_after n cells text)
  unfolding save_refusal cells_refusal
  bad_table h = save_refused (failed_before (cells_questions n cells) (room ∷ []) h)

  module _ (table : cells_refusal n cells ≡ none) where
    room_left : save_refusal n cells (length text) ≡ first_no (room ∷ [])
    unfolding save_refusal cells_refusal
    room_left = passed_before (cells_questions n cells) (room ∷ []) table

    pub bad_room : length text < length (table_text n cells) → (refused (no 28 []) ≡ save_answer n cells text) × (text ≡ text_after n cells text)
    unfolding first_of or_else
    bad_room h = save_refused (room_left ∙ simp (lt-leb _ _ h))

    pub saves : length (table_text n cells) ≤ length text → save_refusal n cells (length text) ≡ none
    unfolding first_of or_else
    saves h = room_left ∙ simp (le-leb _ _ h)

    pub save_given : length (table_text n cells) ≤ length text
        → (gives (length (table_text n cells)) ≡ save_answer n cells text) × (overwritten (table_text n cells) text ≡ text_after n cells text)
    unfolding save_answer text_after
    save_given h = (rw (saves h), rw (saves h))
