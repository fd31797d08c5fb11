-- The text of names passes question 40, and its values are the numbers from 1 on and the names.
-- Assumes nothing.
use mathlib.Core.Path.{◌≡◌, refl, sym, ◌∙◌}
use mathlib.Core.Bool.{Bool, true, false, ◌||◌, cond}
use mathlib.Core.List.{List, [], ◌∷◌, ◌++◌, map, flat_map, append_assoc}
use mathlib.Core.Option.{none}
use Prim.Native.Nat.{ℕ, suc, ◌≤◌}
use native.Mathlib.Omega.{arith}
use lib.Dec.{eqb}
use borrow.Author.Tests.{eqb-true, ne_eqb, le-leb}
use Rattle.semigroups.proofs.Booleans.{or_fails}
use Rattle.rfc4180.specs.Decimals.{is_digit, numeral, numeral_within}
use Rattle.rfc4180.proofs.Rows.{Digits, digit_range}
use Rattle.rfc4180.proofs.Decimals.{numeral_digits}
use Rattle.rfc4180.specs.Every.{Every}
use Rattle.sheets.specs.Grammar.{is_printable, is_text_data, is_quotable, Item, single, twice, Field, non_escaped, escaped, Entry, Sheet, ProperItem, ProperField, ProperEntry, ProperSheet, item_text, field_text, entry_text, entries_text, sheet_text, IsSheet, item_value, field_value, Row, entry_row, sheet_rows}
use Rattle.sheets.specs.Readings.{Reading, passes, offence, read_rows, rows_names}
use Rattle.sheets.specs.Names.{needs_quotes, doubled, name_text, names_text_from, names_text}
use Rattle.sheets.proofs.Readings.{same_reading}

-- ---- a name

item : ℕ → Item
item b = cond (eqb b 34) twice (single b)

saved_field : List ℕ → Field
saved_field s = cond (needs_quotes s) (escaped (map item s)) (non_escaped s)

item_text_law : (b : ℕ) → item_text (item b) ≡ cond (eqb b 34) (34 ∷ 34 ∷ []) (b ∷ [])
unfolding item item_text
item_text_law b = elim (eqb b 34) as (λ x. item_text (cond x twice (single b)) ≡ cond x (34 ∷ 34 ∷ []) (b ∷ [])) [ true ↦ refl | false ↦ refl ]

items_text : (s : List ℕ) → flat_map item_text (map item s) ≡ doubled s
unfolding doubled flat_map
items_text [] = refl
items_text (b ∷ s) = rw (item_text_law b, items_text s)

saved_text : (s : List ℕ) → field_text (saved_field s) ≡ name_text s
unfolding saved_field name_text field_text
saved_text s = elim (needs_quotes s) as (λ x. field_text (cond x (escaped (map item s)) (non_escaped s)) ≡ cond x (34 ∷ doubled s ++ 34 ∷ []) s) [ true ↦ rw (items_text s) | false ↦ refl ]

item_value_law : (b : ℕ) → item_value (item b) ≡ b
unfolding item item_value
item_value_law b = go (eqb b 34) refl
  where
    go : (x : Bool) → eqb b 34 ≡ x → item_value (cond x twice (single b)) ≡ b
    go true e = sym (eqb-true b 34 e)
    go false e = refl

items_value : (s : List ℕ) → map item_value (map item s) ≡ s
items_value [] = refl
items_value (b ∷ s) = rw (item_value_law b, items_value s)

saved_value : (s : List ℕ) → field_value (saved_field s) ≡ s
unfolding saved_field field_value
saved_value s = elim (needs_quotes s) as (λ x. field_value (cond x (escaped (map item s)) (non_escaped s)) ≡ s) [ true ↦ items_value s | false ↦ refl ]

-- Every byte is allowed in a name.
abbrev pub Text : List ℕ → Type 0
Text s = Every (λ b. is_printable b ≡ true) s

item_proper : (b : ℕ) → is_printable b ≡ true → ProperItem (item b)
unfolding item is_quotable
item_proper b h = go (eqb b 34) refl
  where
    go : (x : Bool) → eqb b 34 ≡ x → ProperItem (cond x twice (single b))
    go true e = tt
    go false e = simp (h, e)

items_proper : (s : List ℕ) → Text s → Every ProperItem (map item s)
items_proper [] h = tt
items_proper (b ∷ s) h = (item_proper b h.0, items_proper s h.1)

bare_proper : (s : List ℕ) → Text s → needs_quotes s ≡ false → Every (λ b. is_text_data b ≡ true) s
unfolding needs_quotes is_text_data
bare_proper [] h e = tt
bare_proper (b ∷ s) h e =
    let p = or_fails (eqb b 44 || eqb b 34) (needs_quotes s) e in
    let q = or_fails (eqb b 44) (eqb b 34) p.0 in
    (simp (h.0, q.0, q.1), bare_proper s h.1 p.1)

saved_proper : (s : List ℕ) → Text s → ProperField (saved_field s)
unfolding saved_field
saved_proper s h = go (needs_quotes s) refl
  where
    go : (x : Bool) → needs_quotes s ≡ x → ProperField (cond x (escaped (map item s)) (non_escaped s))
    go true e = items_proper s h
    go false e = bare_proper s h e

-- ---- a number

digit_bare : (b : ℕ) → is_digit b ≡ true → is_text_data b ≡ true
unfolding is_text_data is_printable
digit_bare b h =
    let r = digit_range b h in
    let l : 32 ≤ b = omega arith in
    let u : b ≤ 126 = omega arith in
    simp (le-leb 32 b l, le-leb b 126 u, ne_eqb b 44 (λ e. omega arith), ne_eqb b 34 (λ e. omega arith))

digits_bare : (s : List ℕ) → Digits s → Every (λ b. is_text_data b ≡ true) s
digits_bare [] h = tt
digits_bare (b ∷ s) h = (digit_bare b h.0, digits_bare s h.1)

numeral_proper : (k : ℕ) → Every (λ b. is_text_data b ≡ true) (numeral k)
unfolding numeral
numeral_proper k = digits_bare (numeral_within 3 k) (numeral_digits 3 k)

-- ---- the saved sheet

saved_entry : ℕ → List ℕ → Entry
saved_entry k s = record { number = non_escaped (numeral k); name = saved_field s }

saved_others : ℕ → List (List ℕ) → List Entry
saved_others k [] = []
saved_others k (s ∷ l) = saved_entry k s ∷ saved_others (suc k) l

saved_sheet : ℕ → List ℕ → List (List ℕ) → Sheet
saved_sheet k s l = record { first = saved_entry k s; others = saved_others (suc k) l; closed = true }

saved_entry_text : (k : ℕ) (s : List ℕ) → entry_text (saved_entry k s) ≡ numeral k ++ 44 ∷ name_text s
unfolding entry_text saved_entry field_text
saved_entry_text k s = rw (saved_text s)

saved_entries_text : (k : ℕ) (s : List ℕ) (l : List (List ℕ)) → entries_text (saved_entry k s) (saved_others (suc k) l) ++ 13 ∷ 10 ∷ [] ≡ names_text_from k (s ∷ l)
unfolding entries_text saved_others names_text_from
saved_entries_text k s [] = rw (saved_entry_text k s) (simp append_assoc)
saved_entries_text k s (r ∷ l) = rw (saved_entry_text k s, ← saved_entries_text (suc k) r l) (simp append_assoc)

-- The rows of the names, numbered from k on.
unfoldable pub names_rows : ℕ → List (List ℕ) → List Row
names_rows k [] = []
names_rows k (s ∷ l) = record { number = numeral k; name = s } ∷ names_rows (suc k) l

saved_rows : (k : ℕ) (s : List ℕ) (l : List (List ℕ)) → map entry_row ((saved_entry k s) ∷ (saved_others (suc k) l)) ≡ names_rows k (s ∷ l)
unfolding saved_others names_rows entry_row saved_entry field_value
saved_rows k s [] = rw (saved_value s)
saved_rows k s (r ∷ l) = rw (saved_value s, saved_rows (suc k) r l)

others_proper : (k : ℕ) (l : List (List ℕ)) → Every Text l → Every ProperEntry (saved_others k l)
unfolding saved_others saved_entry
others_proper k [] h = tt
others_proper k (s ∷ l) h = ((numeral_proper k, saved_proper s h.0), others_proper (suc k) l h.1)

sheet_proper : (k : ℕ) (s : List ℕ) (l : List (List ℕ)) → Text s → Every Text l → ProperSheet (saved_sheet k s l)
unfolding saved_sheet saved_entry
sheet_proper k s l h hs = ((numeral_proper k, saved_proper s h), others_proper (suc k) l hs)

-- ---- the laws

saved_passes : (t : List ℕ) (s : List ℕ) (l : List (List ℕ)) → t ≡ names_text (s ∷ l) → Text s → Every Text l → IsSheet t
unfolding names_text sheet_text saved_sheet
saved_passes t s l e h hs = record { sheet = saved_sheet 1 s l; proper = sheet_proper 1 s l h hs; text = e ∙ sym (saved_entries_text 1 s l) }

-- Every reading of the text of one or more names says that it passes, and has these rows.
pub saved_reading : (t : List ℕ) (s : List ℕ) (l : List (List ℕ)) → t ≡ names_text (s ∷ l) → Text s → Every Text l → (w : Reading t) → (offence w ≡ none) × (read_rows w ≡ names_rows 1 (s ∷ l))
unfolding saved_passes sheet_rows saved_sheet
saved_reading t s l e h hs w =
    let same = same_reading t w (passes (saved_passes t s l e h hs)) in
    (same.0, same.1 ∙ saved_rows 1 s l)

pub names_of_rows : (k : ℕ) (l : List (List ℕ)) → rows_names (names_rows k l) ≡ l
unfolding rows_names names_rows
names_of_rows k [] = refl
names_of_rows k (s ∷ l) = rw (names_of_rows (suc k) l)
