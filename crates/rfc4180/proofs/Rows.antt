-- A text of digits, commas and line breaks, with the line break that its last record may lack, is the text of its rows; rows of digits are the
-- rows of their text.
-- Assumes nothing.
use mathlib.Core.Path.{◌≡◌, refl, ap, sym, ◌∙◌}
use mathlib.Core.Bool.{Bool, true, false, ◌&&◌, ◌||◌, cond}
use mathlib.Core.List.{List, [], ◌∷◌, ◌++◌, map, flat_map, append_assoc}
use Prim.Native.Nat.{ℕ, ◌≤◌}
use native.Mathlib.Omega.{arith}
use lib.Dec.{eqb, leb}
use lib.ListN.{length, length-append}
use borrow.Author.Tests.{eqb-true, ne_eqb, leb-true}
use Rattle.semigroups.proofs.Booleans.{and_left, and_right, impossible}
use Rattle.rfc4180.specs.Decimals.{is_digit}
use Rattle.rfc4180.specs.Records.{is_break, onto, records, fields, rows, record_text, line_text, rows_text}
use Rattle.rfc4180.specs.Every.{Every}
use Rattle.rfc4180.proofs.Every.{every_append, every_map}
use Rattle.rfc4180.proofs.Records.{Cons, Plain, Whole, fields_cons, record_text_fields, fields_record_text, records_closed, lines_text, lines_text_records, missing}
use Rattle.rfc4180.proofs.Bytes.{in_field, clean}

-- ---- digits

abbrev pub Digits : List ℕ → Type 0
Digits f = Every (λ b. is_digit b ≡ true) f

-- A row has at least one field, and each field has digits only.
abbrev pub Row : List (List ℕ) → Type 0
Row [] = ⊥
Row (f ∷ fs) = Digits f × Every Digits fs

abbrev pub Rows : List (List (List ℕ)) → Type 0
Rows rs = Every Row rs

pub digit_range : (b : ℕ) → is_digit b ≡ true → (48 ≤ b) × (b ≤ 57)
unfolding is_digit
digit_range b h = (leb-true 48 b (and_left (leb 48 b) (leb b 57) h), leb-true b 57 (and_right (leb 48 b) (leb b 57) h))

digit_other : (k b : ℕ) → k ≤ 47 → is_digit b ≡ true → eqb b k ≡ false
digit_other k b l h = let r = digit_range b h in ne_eqb b k (λ e. omega arith)

pub digits_plain : (f : List ℕ) → Digits f → Plain f
digits_plain f h = every_map (λ b. is_digit b ≡ true) (λ b. eqb b 44 ≡ false) (λ b. digit_other 44 b (omega arith)) f h

-- ---- bytes of a record: digits and commas

abbrev pub InRecord : List ℕ → Type 0
InRecord r = Every (λ b. in_field b ≡ true) r

digit_in : (b : ℕ) → is_digit b ≡ true → in_field b ≡ true
unfolding in_field
digit_in b h = simp h

pub in_not_cr : (b : ℕ) → in_field b ≡ true → eqb b 13 ≡ false
unfolding in_field
in_not_cr b h = go (is_digit b) refl h
  where
    go : (d : Bool) → is_digit b ≡ d → (d || eqb b 44) ≡ true → eqb b 13 ≡ false
    go true e g = digit_other 13 b (omega arith) e
    go false e g = let q = eqb-true b 44 g in ne_eqb b 13 (λ k. omega arith)

tail_in : (fs : List (List ℕ)) → Every Digits fs → InRecord (flat_map (λ g. 44 ∷ g) fs)
unfolding flat_map in_field is_digit
tail_in [] h = tt
tail_in (f ∷ fs) h = (refl, every_append (λ b. in_field b ≡ true) f (flat_map (λ g. 44 ∷ g) fs) (every_map (λ b. is_digit b ≡ true) (λ b. in_field b ≡ true) digit_in f h.0) (tail_in fs h.1))

pub record_in : (r : List (List ℕ)) → Row r → InRecord (record_text r)
unfolding record_text
record_in [] h = absurd h
record_in (f ∷ fs) h = every_append (λ b. in_field b ≡ true) f (flat_map (λ g. 44 ∷ g) fs) (every_map (λ b. is_digit b ≡ true) (λ b. in_field b ≡ true) digit_in f h.0) (tail_in fs h.1)

-- ---- rows to a text and back

pub rows_text_cons : (r : List (List ℕ)) (rs : List (List (List ℕ))) → rows_text (r ∷ rs) ≡ record_text r ++ 13 ∷ 10 ∷ rows_text rs
unfolding rows_text line_text flat_map
rows_text_cons r rs = append_assoc (record_text r) (13 ∷ 10 ∷ []) (rows_text rs)

fields_row : (r : List (List ℕ)) → Row r → fields (record_text r) ≡ r
fields_row [] h = absurd h
fields_row (f ∷ fs) h = fields_record_text f fs (digits_plain f h.0) (every_map Digits Plain digits_plain fs h.1)

-- The text of rows has these rows.
pub rows_rows_text : (rs : List (List (List ℕ))) → Rows rs → rows (rows_text rs) ≡ rs
unfolding rows rows_text records flat_map
rows_rows_text [] h = refl
rows_rows_text (r ∷ rs) h =
    let w : Whole (record_text r) = every_map (λ b. in_field b ≡ true) (λ b. eqb b 13 ≡ false) in_not_cr (record_text r) (record_in r h.0) in
    ap (λ (t : List ℕ). map fields (records t)) (rows_text_cons r rs)
    ∙ ap (map fields) (records_closed (record_text r) (rows_text rs) w)
    ∙ cc (fields_row r h.0, rows_rows_text rs h.1)

-- ---- such a text passes question 21

clean_closed : (r t : List ℕ) → InRecord r → clean (r ++ 13 ∷ 10 ∷ t) ≡ clean t
unfolding clean is_break
clean_closed [] t h = refl
clean_closed (b ∷ []) t h = rw (in_not_cr b h.0, h.0)
clean_closed (b ∷ c ∷ r) t h = rw (in_not_cr b h.0, h.0, clean_closed (c ∷ r) t h.1)

pub rows_text_clean : (rs : List (List (List ℕ))) → Rows rs → clean (rows_text rs) ≡ true
unfolding rows_text flat_map clean
rows_text_clean [] h = refl
rows_text_clean (r ∷ rs) h = ap clean (rows_text_cons r rs) ∙ clean_closed (record_text r) (rows_text rs) (record_in r h.0) ∙ rows_text_clean rs h.1

-- ---- a text to its rows and back

rows_text_fields : (l : List (List ℕ)) → rows_text (map fields l) ≡ lines_text l
unfolding rows_text line_text lines_text flat_map
rows_text_fields [] = refl
rows_text_fields (r ∷ l) = cc (record_text_fields r, rows_text_fields l)

pub rows_text_rows : (t : List ℕ) → rows_text (rows t) ≡ t ++ missing t
unfolding rows
rows_text_rows t = rows_text_fields (records t) ∙ lines_text_records t

onto_in : (b : ℕ) (l : List (List ℕ)) → in_field b ≡ true → Every InRecord l → Every InRecord (onto b l)
unfolding onto
onto_in b [] e h = ((e, tt), tt)
onto_in b (r ∷ l) e h = ((e, h.0), h.1)

records_in : (t : List ℕ) → clean t ≡ true → Every InRecord (records t)
unfolding records clean
records_in [] h = tt
records_in (b ∷ []) h = ((h, tt), tt)
records_in (b ∷ c ∷ t) h = go (records_in t) (records_in (c ∷ t)) (is_break b c) h
  where
    go : (clean t ≡ true → Every InRecord (records t)) → (clean (c ∷ t) ≡ true → Every InRecord (records (c ∷ t))) → (e : Bool)
        → cond e (clean t) (in_field b && clean (c ∷ t)) ≡ true → Every InRecord (cond e ([] ∷ records t) (onto b (records (c ∷ t))))
    go past later true g = (tt, past g)
    go past later false g =
        onto_in b (records (c ∷ t)) (and_left (in_field b) (clean (c ∷ t)) g) (later (and_right (in_field b) (clean (c ∷ t)) g))

onto_digits : (b : ℕ) (l : List (List ℕ)) → is_digit b ≡ true → Every Digits l → Every Digits (onto b l)
unfolding onto
onto_digits b [] e h = ((e, tt), tt)
onto_digits b (f ∷ l) e h = ((e, h.0), h.1)

fields_digits : (r : List ℕ) → InRecord r → Every Digits (fields r)
unfolding fields in_field
fields_digits [] h = (tt, tt)
fields_digits (b ∷ r) h = go (fields_digits r h.1) (is_digit b) refl (eqb b 44) h.0
  where
    go : Every Digits (fields r) → (d : Bool) → is_digit b ≡ d → (e : Bool) → (d || e) ≡ true → Every Digits (cond e ([] ∷ fields r) (onto b (fields r)))
    go ih d q true g = (tt, ih)
    go ih true q false g = onto_digits b (fields r) q ih
    go ih false q false g = impossible (cc)

row_of_law : (l : List (List ℕ)) → Cons l → Every Digits l → Row l
row_of_law [] c h = impossible (cc c.2)
row_of_law (f ∷ fs) c h = h

rows_in : (l : List (List ℕ)) → Every InRecord l → Rows (map fields l)
rows_in [] h = tt
rows_in (r ∷ l) h = (row_of_law (fields r) (fields_cons r) (fields_digits r h.0), rows_in l h.1)

-- Every row of a clean text has fields of digits only.
pub clean_rows : (t : List ℕ) → clean t ≡ true → Rows (rows t)
unfolding rows
clean_rows t h = rows_in (records t) (records_in t h)

-- A text of some bytes has a first row, and this row has a first field.
pub rows_some : (t : List ℕ) → 1 ≤ length t → clean t ≡ true → (f : List ℕ) × (fs : List (List ℕ)) × (rs : List (List (List ℕ))) × (rows t ≡ (f ∷ fs) ∷ rs)
unfolding rows_text flat_map
rows_some t h c = go (rows t) refl (clean_rows t c)
  where
    go : (l : List (List (List ℕ))) → rows t ≡ l → Rows l → (f : List ℕ) × (fs : List (List ℕ)) × (rs : List (List (List ℕ))) × (rows t ≡ (f ∷ fs) ∷ rs)
    go [] e r = let w : ⊥ = omega (arith, length-append t (missing t), ap length (sym (ap rows_text e) ∙ rows_text_rows t)) in absurd w
    go ([] ∷ rs) e r = absurd r.0
    go ((f ∷ fs) ∷ rs) e r = (f, fs, rs, e)
