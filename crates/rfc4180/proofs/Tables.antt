-- The rows of a table: cells row after row cut into rows, and the length of a table's text.
-- Assumes nothing.
use mathlib.Core.Path.{◌≡◌, refl, ap, ap₂, sym, ◌∙◌}
use mathlib.Core.List.{List, [], ◌∷◌, ◌++◌, map, flat_map, flatten, map-append}
use Prim.Native.Nat.{ℕ, zero, suc, ◌+◌, ◌-◌, ◌*◌, ◌≤◌, ◌<◌}
use native.Mathlib.Nat.{suc-mul}
use native.Mathlib.Numerals.{add-one}
use native.Mathlib.Omega.{arith}
use lib.ListN.{length, take, drop, get_or, length-append, length-drop, length-map, drop_of_length-le}
use lib.Seq.{drop-cons, drop-drop, take-add, take_all, length-take-le, take-append_seam, drop-append_seam}
use Rattle.semigroups.specs.Lists.{range, elements, sum}
use Rattle.semigroups.specs.Tables.{product, Filled}
use Rattle.semigroups.proofs.Sums.{sum_append, sum_map}
use Rattle.rfc4180.specs.Decimals.{numeral}
use Rattle.rfc4180.specs.Records.{record_text, line_text, rows_text}
use Rattle.rfc4180.specs.Tables.{row_fields, table_text}
use Rattle.rfc4180.specs.Every.{Every}

-- ---- cells cut into rows

-- The first m rows of cells that stand row after row, n to a row.
unfoldable pub split : {A : Type 0} → ℕ → ℕ → List A → List (List A)
split zero n cells = []
split (suc m) n cells = take n cells ∷ split m n (drop n cells)

-- Every row has n entries.
abbrev pub Even : {A : Type 0} → ℕ → List (List A) → Type 0
Even n rs = Every (λ r. length r ≡ n) rs

module _ {A : Type 0} where
  pub length_split : (m n : ℕ) (l : List A) → length (split m n l) ≡ m
  unfolding split
  length_split zero n l = refl
  length_split (suc m) n l = ap suc (length_split m n (drop n l))

  pub split_even : (m n : ℕ) (l : List A) → m * n ≤ length l → Even n (split m n l)
  unfolding split
  split_even zero n l h = tt
  split_even (suc m) n l h =
      let s = suc-mul m n in
      (length-take-le n l (omega arith), split_even m n (drop n l) (rw (length-drop n l) (omega arith)))

  pub flatten_split : (m n : ℕ) (l : List A) → flatten (split m n l) ≡ take (m * n) l
  unfolding split flatten
  flatten_split zero n l = let z : 0 * n ≡ 0 = omega arith in rw z
  flatten_split (suc m) n l =
      let s : suc m * n ≡ n + m * n = omega (arith, suc-mul m n) in
      ap (λ (r : List A). take n l ++ r) (flatten_split m n (drop n l)) ∙ sym (take-add n (m * n) l) ∙ rw s

  pub split_flatten : (n : ℕ) (rs : List (List A)) → Even n rs → split (length rs) n (flatten rs) ≡ rs
  unfolding split flatten
  split_flatten n [] h = refl
  split_flatten n (r ∷ rs) h =
      let t : take n (r ++ flatten rs) ≡ r = rw (sym h.0) (take-append_seam r (flatten rs)) in
      let d : drop n (r ++ flatten rs) ≡ flatten rs = rw (sym h.0) (drop-append_seam r (flatten rs)) in
      rw (t, d) (ap (λ (l : List (List A)). r ∷ l) (split_flatten n rs h.1))

-- ---- the rows of a table

module _ (cells : List ℕ) where
  products_row : (a b m : ℕ) → a + b + m ≤ length cells → map (λ j. get_or cells (a + (j - 1)) 0) (range (suc b) m) ≡ take m (drop (a + b) cells)
  unfolding range
  products_row a b zero h = refl
  products_row a b (suc m) h =
      let e : a + (suc b - 1) ≡ a + b = omega arith in
      let s : a + suc b ≡ suc (a + b) = omega arith in
      rw (e, drop-cons cells (a + b) 0 (omega arith)) (ap (λ (l : List ℕ). get_or cells (a + b) 0 ∷ l) (products_row a (suc b) m (omega arith) ∙ rw s))

  -- Row i + 1 of a table of order n is the n cells after the first i rows.
  product_row : (n i : ℕ) → i * n + n ≤ length cells → map (product n cells (suc i)) (elements n) ≡ take n (drop (i * n) cells)
  unfolding product elements
  product_row n i h =
      let e : suc i - 1 ≡ i = omega arith in
      let z : i * n + 0 ≡ i * n = omega arith in
      ap (λ (k : ℕ). map (λ j. get_or cells (k * n + (j - 1)) 0) (range 1 n)) e ∙ products_row (i * n) 0 n (omega arith) ∙ rw z

  product_rows : (n i m : ℕ) → i * n + m * n ≤ length cells → map (λ r. map (product n cells r) (elements n)) (range (suc i) m) ≡ split m n (drop (i * n) cells)
  unfolding range split
  product_rows n i zero h = refl
  product_rows n i (suc m) h =
      let s = suc-mul m n in
      let q : i * n + n ≡ suc i * n = sym (suc-mul i n) in
      ap₂ (λ (r : List ℕ) (l : List (List ℕ)). r ∷ l) (product_row n i (omega arith))
      (product_rows n (suc i) m (omega arith) ∙ ap (split m n) (ap (λ (k : ℕ). drop k cells) (sym q) ∙ sym (drop-drop n (i * n) cells)))

map_numerals : (f : ℕ → ℕ) (l : List ℕ) → map (λ j. numeral (f j)) l ≡ map numeral (map f l)
map_numerals f [] = refl
map_numerals f (x ∷ l) = ap (λ (r : List (List ℕ)). numeral (f x) ∷ r) (map_numerals f l)

map_rows : (n : ℕ) (cells l : List ℕ) → map (row_fields n cells) l ≡ map (map numeral) (map (λ i. map (product n cells i) (elements n)) l)
unfolding row_fields
map_rows n cells [] = refl
map_rows n cells (i ∷ l) = ap₂ (λ (r : List (List ℕ)) (rs : List (List (List ℕ))). r ∷ rs) (map_numerals (product n cells i) (elements n)) (map_rows n cells l)

all_products : (n : ℕ) (cells : List ℕ) → length cells ≡ n * n → map (λ i. map (product n cells i) (elements n)) (elements n) ≡ split n n cells
unfolding elements
all_products n cells h =
    let z : 0 * n ≡ 0 = omega arith in
    product_rows cells n 0 n (omega arith) ∙ rw z

-- Record i of a table's text has the decimal numbers of row i of its cells.
pub table_rows : (n : ℕ) (cells : List ℕ) → length cells ≡ n * n → map (row_fields n cells) (elements n) ≡ map (map numeral) (split n n cells)
table_rows n cells h = map_rows n cells (elements n) ∙ ap (map (map numeral)) (all_products n cells h)

-- ---- the length of a text

-- How many bytes a field takes together with the byte after it.
abbrev pub width : List ℕ → ℕ
width f = length f + 1

fields_length : (fs : List (List ℕ)) → length (flat_map (λ g. 44 ∷ g) fs) ≡ sum width fs
unfolding flat_map sum
fields_length [] = refl
fields_length (f ∷ fs) = let ih = fields_length fs in simp length-append (omega arith)

-- A record has at least one field.
abbrev pub Some : List (List ℕ) → Type 0
Some [] = ⊥
Some (f ∷ fs) = Unit

line_length : (r : List (List ℕ)) → Some r → length (line_text r) ≡ sum width r + 1
unfolding line_text record_text sum
line_length [] h = absurd h
line_length (f ∷ fs) h = simp length-append (omega (arith, fields_length fs))

pub rows_length : (rs : List (List (List ℕ))) → Every Some rs → length (rows_text rs) ≡ length rs + sum width (flatten rs)
unfolding rows_text flat_map flatten sum
rows_length [] h = omega arith
rows_length (r ∷ rs) h =
    let ih = rows_length rs h.1 in
    simp length-append (omega (arith, line_length r h.0, sum_append width r (flatten rs)))

pub flatten_map : {A B : Type 0} (f : A → B) (rs : List (List A)) → flatten (map (map f) rs) ≡ map f (flatten rs)
unfolding flatten
flatten_map f [] = refl
flatten_map {A} {B} f (r ∷ rs) = ap (λ (l : List B). map f r ++ l) (flatten_map f rs) ∙ sym (map-append f r (flatten rs))

some_rows : (n : ℕ) (rs : List (List ℕ)) → 1 ≤ n → Even n rs → Every Some (map (map numeral) rs)
some_rows n [] h e = tt
some_rows n (r ∷ rs) h e = (some_row r e.0, some_rows n rs h e.1)
  where
    some_row : (r : List ℕ) → length r ≡ n → Some (map numeral r)
    some_row [] q = let w : ⊥ = omega arith in w
    some_row (x ∷ r) q = tt

-- Each cell takes its digits and one byte after them, and each row one byte more.
pub text_length : (n : ℕ) (cells : List ℕ) → 1 ≤ n → length cells ≡ n * n → length (table_text n cells) ≡ n + sum (λ x. length (numeral x) + 1) cells
unfolding table_text
text_length n cells one size =
    let rs = split n n cells in
    let all : flatten rs ≡ cells = flatten_split n n cells ∙ take_all (n * n) cells (omega arith) in
    let e = split_even n n cells (omega arith) in
    ap (λ (l : List (List (List ℕ))). length (rows_text l)) (table_rows n cells size)
    ∙ rows_length (map (map numeral) rs) (some_rows n rs one e)
    ∙ ap₂ (λ (a : ℕ) (b : List (List ℕ)). a + sum width b) (length-map rs (map numeral) ∙ length_split n n cells) (flatten_map numeral rs ∙ ap (map numeral) all)
    ∙ ap (λ (k : ℕ). n + k) (sum_map width numeral cells)

-- What is left of the length from cell k on.
unfoldable pub widths_from : List ℕ → ℕ → ℕ
widths_from cells k = sum (λ x. length (numeral x) + 1) (drop k cells)

module _ (cells : List ℕ) where
  pub widths_first : (n : ℕ) → Filled n cells → length (table_text n cells) ≡ n + widths_from cells 0
  unfolding widths_from
  widths_first n f = text_length n cells f.order.0 f.size

  pub widths_step : (k : ℕ) → k < length cells → widths_from cells k ≡ length (numeral (get_or cells k 0)) + 1 + widths_from cells (k + 1)
  unfolding widths_from sum
  widths_step k h = rw (drop-cons cells k 0 h, add-one k)

  pub widths_end : (k : ℕ) → length cells ≤ k → widths_from cells k ≡ 0
  unfolding widths_from sum
  widths_end k h = rw (drop_of_length-le cells h)
