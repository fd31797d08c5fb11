-- The text of a table passes every question and gives the table back; a text that passes every question is the text of its table.
-- Assumes nothing.
use mathlib.Core.Path.{◌≡◌, refl, ap, ap₂, sym, ◌∙◌}
use mathlib.Core.Bool.{true}
use mathlib.Core.List.{List, [], ◌∷◌, ◌++◌, map, flatten}
use mathlib.Core.Option.{none, or_else}
use Prim.Native.Nat.{ℕ, zero, suc, ◌+◌, ◌*◌, ◌≤◌, ◌<◌}
use native.Mathlib.Nat.{mul-le-mul}
use native.Mathlib.Omega.{arith}
use lib.Dec.{eqb}
use lib.ListN.{length, get_or, length-map}
use lib.Seq.{take_all}
use borrow.Author.Tests.{eq-eqb, eqb-true}
use Rattle.semigroups.specs.Lists.{sum, all}
use Rattle.semigroups.specs.Tables.{Element, Filled}
use Rattle.semigroups.proofs.Booleans.{both, and_left, and_right}
use Rattle.rfc4180.specs.Decimals.{numeral, value}
use Rattle.rfc4180.specs.RoundsLaws.{closed}
use Rattle.rfc4180.specs.Records.{rows, rows_text}
use Rattle.rfc4180.specs.Tables.{fields_of, order_of, cells_of, table_text}
use Rattle.rfc4180.specs.InnerQuestions.{fields_refusal, grid_refusal, field_refusal}
use Rattle.rfc4180.specs.Questions.{is_square, load_refusal}
use Rattle.rfc4180.specs.PassingLaws.{Number}
use Rattle.rfc4180.specs.Every.{Every}
use Rattle.rfc4180.proofs.Every.{every_append}
use Rattle.rfc4180.proofs.Bytes.{clean, clean_other, other_clean, no_other, closed_is}
use Rattle.rfc4180.proofs.Scan.{none_refused}
use Rattle.rfc4180.proofs.Rows.{Digits, Row, Rows, rows_rows_text, rows_text_rows, clean_rows, rows_some, rows_text_clean}
use Rattle.rfc4180.proofs.Decimals.{numeral_one, numeral_digits, numeral_long, numeral_leading, digits_few, value_numeral, numeral_value}
use Rattle.rfc4180.proofs.Fields.{field_passes, field_passed, no_fields, fields_first, fields_passed}
use Rattle.rfc4180.proofs.Tables.{split, Even, length_split, split_even, flatten_split, split_flatten, table_rows, flatten_map, text_length}
use Rattle.rfc4180.proofs.Judging.{says_passed}
use Rattle.rfc4180.proofs.Loading.{Loadable, cells_length, loads}

-- ---- the length of a table's text

widths_most : (l : List ℕ) → sum (λ x. length (numeral x) + 1) l ≤ 4 * length l
unfolding sum
widths_most [] = omega arith
widths_most (x ∷ l) = omega (arith, widths_most l, digits_few x)

-- The text of a table of order n has at most 4n² + n bytes.
pub text_bound : (n : ℕ) (cells : List ℕ) → 1 ≤ n → length cells ≡ n * n → length (table_text n cells) ≤ 4 * (n * n) + n
text_bound n cells one size = omega (arith, text_length n cells one size, widths_most cells)

-- So the text of a table of order at most 120 has at most the 57,720 bytes that question 20 allows.
order_fits_law : (n : ℕ) (cells : List ℕ) → 1 ≤ n → n ≤ 120 → length cells ≡ n * n → length (table_text n cells) ≤ 57720
order_fits_law n cells one most size = omega (arith, text_bound n cells one size, mul-le-mul most most)

pub text_fits : (n : ℕ) (cells : List ℕ) → Filled n cells → length (table_text n cells) ≤ 57720
text_fits n cells f = order_fits_law n cells f.order.0 f.order.1 f.size

pub text_some : (n : ℕ) (cells : List ℕ) → Filled n cells → 1 ≤ length (table_text n cells)
text_some n cells f = let order = f.order in omega (arith, text_length n cells order.0 f.size)

-- ---- the fields of a table's text

every_at : (P : ℕ → Type 0) (l : List ℕ) → ((k : ℕ) → k < length l → P (get_or l k 0)) → Every P l
every_at P [] h = tt
every_at P (x ∷ l) h = (h 0 (omega arith), every_at P l (λ k b. h (suc k) (omega arith)))

numeral_passes : (x : ℕ) → Element 120 x → field_refusal (numeral x) ≡ none
numeral_passes x e =
    let s : x < 1000 = omega arith in
    sym (field_passes (numeral x) (numeral_leading x e.0 s) (numeral_long x s) (digits_few x) (rw (value_numeral x s) e.1))

numerals_pass : (l : List ℕ) → Every (Element 120) l → fields_refusal (map numeral l) ≡ none
unfolding or_else
numerals_pass [] h = no_fields
numerals_pass (x ∷ l) h = fields_first (numeral x) (map numeral l) ∙ rw (numeral_passes x h.0) (numerals_pass l h.1)

values_back : (l : List ℕ) → Every (Element 120) l → map value (map numeral l) ≡ l
values_back [] h = refl
values_back (x ∷ l) h = let e = h.0 in ap₂ (λ (a : ℕ) (r : List ℕ). a ∷ r) (value_numeral x (omega arith)) (values_back l h.1)

numerals_digits : (l : List ℕ) → Every Digits (map numeral l)
unfolding numeral
numerals_digits [] = tt
numerals_digits (x ∷ l) = (numeral_digits 3 x, numerals_digits l)

even_rows : (n : ℕ) (rs : List (List ℕ)) → 1 ≤ n → Even n rs → Rows (map (map numeral) rs)
even_rows n [] h e = tt
even_rows n ([] ∷ rs) h e = let q = e.0 in let w : ⊥ = omega arith in absurd w
even_rows n ((x ∷ r) ∷ rs) h e = (numerals_digits (x ∷ r), even_rows n rs h e.1)

even_all : (n : ℕ) (rs : List (List ℕ)) → Even n rs → all (λ r. eqb (length r) n) (map (map numeral) rs) ≡ true
unfolding all
even_all n [] e = refl
even_all n (r ∷ rs) e = both _ _ (eq-eqb _ n (length-map r numeral ∙ e.0)) (even_all n rs e.1)

first_even : (n : ℕ) (rs : List (List ℕ)) → 1 ≤ length rs → Even n rs → length (get_or (map (map numeral) rs) 0 []) ≡ n
first_even n [] h e = let w : ⊥ = omega arith in absurd w
first_even n (r ∷ rs) h e = length-map r numeral ∙ e.0

-- ---- a table's text

module _ (n : ℕ) (cells : List ℕ) (f : Filled n cells) where
  row_list : List (List (List ℕ))
  row_list = map (map numeral) (split n n cells)

  size_of : n * n ≤ length cells
  size_of = let s = f.size in omega arith

  laid : Rows row_list
  unfolding row_list
  laid = even_rows n (split n n cells) f.order.0 (split_even n n cells size_of)

  text_rows : rows (table_text n cells) ≡ row_list
  unfolding table_text row_list
  text_rows = ap (λ (rs : List (List (List ℕ))). rows (rows_text rs)) (table_rows n cells f.size) ∙ rows_rows_text row_list laid

  text_is : table_text n cells ≡ rows_text row_list
  unfolding table_text row_list
  text_is = ap rows_text (table_rows n cells f.size)

  text_fields : fields_of (table_text n cells) ≡ map numeral cells
  unfolding fields_of row_list
  text_fields =
      let s = f.size in
      ap flatten text_rows ∙ flatten_map numeral (split n n cells) ∙ ap (map numeral) (flatten_split n n cells ∙ take_all (n * n) cells (omega arith))

  small : Every (Element 120) cells
  small = every_at (Element 120) cells (λ k h. let e = f.in_range k h in let o = f.order in (e.0, omega arith))

  pub table_cells : cells_of (table_text n cells) ≡ cells
  unfolding cells_of
  table_cells = ap (map value) text_fields ∙ values_back cells small

  pub table_order : order_of (table_text n cells) ≡ n
  unfolding order_of row_list
  table_order =
      let one = f.order.0 in
      ap (λ (rs : List (List (List ℕ))). length (get_or rs 0 [])) text_rows
      ∙ first_even n (split n n cells) (rw (length_split n n cells) one) (split_even n n cells size_of)

  passes_grid : grid_refusal n (table_text n cells) ≡ none
  unfolding is_square row_list
  passes_grid =
      let fields : fields_refusal (fields_of (table_text n cells)) ≡ none = ap fields_refusal text_fields ∙ numerals_pass cells small in
      let many : eqb (length (map (map numeral) (split n n cells))) n ≡ true = eq-eqb _ n (length-map (split n n cells) (map numeral) ∙ length_split n n cells) in
      sym (says_passed n (table_text n cells) fields (rw text_rows (simp (many, even_all n (split n n cells) (split_even n n cells size_of)))))

  pub table_loads : (room : ℕ) → n * n ≤ room → load_refusal (table_text n cells) room ≡ none
  table_loads room h =
      let bytes = sym (none_refused (table_text n cells) (clean_other (table_text n cells) (ap clean text_is ∙ rows_text_clean row_list laid))) in
      loads (table_text n cells) room (text_some n cells f) (text_fits n cells f) bytes (sym table_order) passes_grid f.order.1 h

-- ---- a text that passes

numbers_of : (fs : List (List ℕ)) → fields_refusal fs ≡ none → Every Number fs
numbers_of [] h = tt
numbers_of (f ∷ fs) h = let p = fields_passed f fs h in (field_passed f p.0, numbers_of fs p.1)

every_parts : (P : List ℕ → Type 0) (r : List (List ℕ)) (l : List (List ℕ)) → Every P (r ++ l) → Every P r × Every P l
every_parts P [] l h = (tt, h)
every_parts P (f ∷ r) l h = let p = every_parts P r l h.1 in ((h.0, p.0), p.1)

numerals_back : (r : List (List ℕ)) → Every Digits r → Every Number r → map numeral (map value r) ≡ r
numerals_back [] d h = refl
numerals_back (f ∷ r) d h =
    ap₂ (λ (a : List ℕ) (l : List (List ℕ)). a ∷ l) (numeral_value f d.0 h.0.some_byte h.0.short h.0.leading) (numerals_back r d.1 h.1)

row_digits : (r : List (List ℕ)) → Row r → Every Digits r
row_digits [] h = absurd h
row_digits (f ∷ fs) h = h

rows_back : (rs : List (List (List ℕ))) → Rows rs → Every Number (flatten rs) → map (map numeral) (map (map value) rs) ≡ rs
unfolding flatten
rows_back [] d h = refl
rows_back (r ∷ rs) d h =
    let p = every_parts Number r (flatten rs) h in
    ap₂ (λ (a : List (List ℕ)) (l : List (List (List ℕ))). a ∷ l) (numerals_back r (row_digits r d.0) p.0) (rows_back rs d.1 p.1)

square_even : (n : ℕ) (rs : List (List (List ℕ))) → all (λ r. eqb (length r) n) rs ≡ true → Even n (map (map value) rs)
unfolding all
square_even n [] h = tt
square_even n (r ∷ rs) h =
    let here = eqb-true (length r) n (and_left (eqb (length r) n) (all (λ k. eqb (length k) n) rs) h) in
    (length-map r value ∙ here, square_even n rs (and_right (eqb (length r) n) (all (λ k. eqb (length k) n) rs) h))

flat_digits : (rs : List (List (List ℕ))) → Rows rs → Every Digits (flatten rs)
unfolding flatten
flat_digits [] h = tt
flat_digits (r ∷ rs) h = every_append Digits r (flatten rs) (row_digits r h.0) (flat_digits rs h.1)

-- A number with no leading 0 is not 0.
value_some : (f : List ℕ) → Digits f → Number f → 1 ≤ value f
value_some f d h = go (value f) (numeral_value f d h.some_byte h.short h.leading)
  where
    go : (v : ℕ) → numeral v ≡ f → 1 ≤ v
    go zero e = absurd (h.leading (ap (λ (g : List ℕ). get_or g 0 0) (sym e) ∙ ap (λ (g : List ℕ). get_or g 0 0) (numeral_one 0 (omega arith))))
    go (suc v) e = omega arith

values_some : (fs : List (List ℕ)) → Every Digits fs → Every Number fs → (k : ℕ) → k < length (map value fs) → 1 ≤ get_or (map value fs) k 0
values_some [] d h k b = let w : ⊥ = omega arith in absurd w
values_some (f ∷ fs) d h zero b = value_some f d.0 h.0
values_some (f ∷ fs) d h (suc k) b = values_some fs d.1 h.1 k (omega arith)

module _ (t : List ℕ) (room : ℕ) (l : Loadable t room) where
  value_rows : List (List ℕ)
  value_rows = map (map value) (rows t)

  whole_rows : Rows (rows t)
  whole_rows = clean_rows t (other_clean t (no_other t l.bytes))

  many : length (rows t) ≡ order_of t
  unfolding is_square
  many = eqb-true _ _ (and_left _ _ l.grid.square)

  even : Even (order_of t) value_rows
  unfolding is_square value_rows
  even = square_even (order_of t) (rows t) (and_right (eqb (length (rows t)) (order_of t)) (all (λ r. eqb (length r) (order_of t)) (rows t)) l.grid.square)

  cut : split (order_of t) (order_of t) (cells_of t) ≡ value_rows
  unfolding cells_of fields_of value_rows
  cut =
      ap (split (order_of t) (order_of t)) (sym (flatten_map value (rows t)))
      ∙ ap (λ (k : ℕ). split k (order_of t) (flatten value_rows)) (sym (length-map (rows t) (map value) ∙ many))
      ∙ split_flatten (order_of t) value_rows even

  pub text_back : table_text (order_of t) (cells_of t) ≡ closed t
  unfolding table_text fields_of value_rows
  text_back =
      ap rows_text (table_rows (order_of t) (cells_of t) (cells_length (order_of t) t l.grid))
      ∙ ap (λ (rs : List (List ℕ)). rows_text (map (map numeral) rs)) cut
      ∙ ap rows_text (rows_back (rows t) whole_rows (numbers_of (flatten (rows t)) l.grid.numbers))
      ∙ rows_text_rows t
      ∙ sym (closed_is t)

  pub first_row : 1 ≤ order_of t
  unfolding order_of
  first_row =
      let r = rows_some t l.some_byte (other_clean t (no_other t l.bytes)) in
      rw r.3 (omega arith)

  -- If no entry is above the order, the cells fill a table.
  pub text_filled : ((k : ℕ) → k < length (cells_of t) → get_or (cells_of t) k 0 ≤ order_of t) → Filled (order_of t) (cells_of t)
  unfolding cells_of fields_of
  text_filled h =
      record {
        order = (first_row, l.order);
        size = cells_length (order_of t) t l.grid;
        in_range = λ k b. (values_some (flatten (rows t)) (flat_digits (rows t) whole_rows) (numbers_of (flatten (rows t)) l.grid.numbers) k b, h k b);
      }

  -- A text that passes still has at most 57,720 bytes when its last line break is added.
  pub closed_fits : length (closed t) ≤ 57720
  closed_fits = rw (← text_back) (order_fits_law (order_of t) (cells_of t) first_row l.order (cells_length (order_of t) t l.grid))
