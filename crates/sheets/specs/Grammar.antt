-- Sheets of records with two fields, written as RFC 4180, section 2, has them: which texts are sheets, and which values their fields have. The names of the
-- constructors are those of the RFC's grammar. RULES 20.1 is stricter than the RFC: every record has two fields, and no record is a header.
-- Assumes nothing.
use Rattle.std.specs.Prelude.{◌≡◌, Bool, true, ◌&&◌, ◌||◌, not, cond, ℕ, eqb, leb}
use mathlib.Core.List.{List, [], ◌∷◌, ◌++◌, map, flat_map}
use Rattle.rfc4180.specs.Every.{Every}

-- ---- bytes

-- The bytes that a name may have, hexadecimal 20 to 7E (RULES 20.2).
unfoldable pub is_printable : ℕ → Bool
is_printable b = leb 32 b && leb b 126

-- TEXTDATA: any byte that a name may have but a comma, byte 44, and a quote mark, byte 34.
unfoldable pub is_text_data : ℕ → Bool
is_text_data b = is_printable b && (not (eqb b 44) && not (eqb b 34))

-- TEXTDATA / COMMA / CR / LF: a byte that stands for itself between quote marks.
unfoldable pub is_quotable : ℕ → Bool
is_quotable b = (is_printable b && not (eqb b 34)) || (eqb b 13 || eqb b 10)

-- ---- a sheet as it is written

-- An item between quote marks: a byte, or 2DQUOTE.
pub data Item : Type 0 where
  single : ℕ → Item
  twice : Item

-- A field without or with quote marks around it.
pub data Field : Type 0 where
  non_escaped : List ℕ → Field
  escaped : List Item → Field

-- A record as it is written: two fields.
pub record Entry : Type 0 where
  pub number : Field
  pub name : Field

-- One or more records, and whether CR LF stands after the last (RULES 20.4).
pub record Sheet : Type 0 where
  pub first : Entry
  pub others : List Entry
  pub closed : Bool

-- ---- the bytes that it may have

-- An item has a byte that may stand between quote marks.
abbrev pub ProperItem : Item → Type 0
ProperItem (single b) = is_quotable b ≡ true
ProperItem twice = Unit {0}

-- A field has only bytes that may stand in it.
abbrev pub ProperField : Field → Type 0
ProperField (non_escaped s) = Every (λ b. is_text_data b ≡ true) s
ProperField (escaped i) = Every ProperItem i

-- Both fields of a record are proper.
abbrev pub ProperEntry : Entry → Type 0
ProperEntry e = ProperField e.number × ProperField e.name

-- All records of a sheet are proper.
abbrev pub ProperSheet : Sheet → Type 0
ProperSheet s = ProperEntry s.first × Every ProperEntry s.others

-- ---- its text

-- The bytes of an item; a quote mark is doubled.
unfoldable pub item_text : Item → List ℕ
item_text (single b) = b ∷ []
item_text twice = 34 ∷ 34 ∷ []

-- The bytes of a field, with the quote marks around it if it has them.
unfoldable pub field_text : Field → List ℕ
field_text (non_escaped s) = s
field_text (escaped i) = 34 ∷ flat_map item_text i ++ 34 ∷ []

-- The bytes of a record: its fields with a comma between them.
unfoldable pub entry_text : Entry → List ℕ
entry_text e = field_text e.number ++ 44 ∷ field_text e.name

-- The text of the records, with CR LF between two.
unfoldable pub entries_text : Entry → List Entry → List ℕ
entries_text e [] = entry_text e
entries_text e (f ∷ fs) = entry_text e ++ 13 ∷ 10 ∷ entries_text f fs

-- The bytes of a sheet.
unfoldable pub sheet_text : Sheet → List ℕ
sheet_text s = entries_text s.first s.others ++ cond s.closed (13 ∷ 10 ∷ []) []

-- The text passes question 40: its bytes "form one or more records of two fields as RFC 4180 allows" (RULES 20.7).
pub record IsSheet (t : List ℕ) : Type 0 where
  pub sheet : Sheet
  pub proper : ProperSheet sheet
  pub text : t ≡ sheet_text sheet

-- ---- its values: quote marks around a field removed, doubled ones undone

-- The byte that an item stands for.
unfoldable pub item_value : Item → ℕ
item_value (single b) = b
item_value twice = 34

-- The value of a field.
unfoldable pub field_value : Field → List ℕ
field_value (non_escaped s) = s
field_value (escaped i) = map item_value i

-- A record's two values.
pub record Row : Type 0 where
  pub number : List ℕ
  pub name : List ℕ

-- The values of a record.
unfoldable pub entry_row : Entry → Row
entry_row e = record { number = field_value e.number; name = field_value e.name }

-- The values of all records of a sheet.
unfoldable pub sheet_rows : Sheet → List Row
sheet_rows s = map entry_row (s.first ∷ s.others)
