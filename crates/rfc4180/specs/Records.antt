-- Text as records and fields (RFC 4180, section 2): each record stands on its own line, closed by a line break, CR LF, the bytes 13 and 10;
-- "the last record in the file may or may not have an ending line break" (section 2, rule 2; RULES 19.2); its fields stand between commas, byte 44.
-- Both directions are here: the records and fields of a text, and the text of records and fields, which closes the last record too (RULES 19.4).
-- RULES 19.1 is stricter than the RFC: a text is "RFC 4180 without a header and without quoted fields".
-- Assumes nothing.
use Rattle.std.specs.Prelude.{Bool, ◌&&◌, cond, ℕ, eqb}
use mathlib.Core.List.{List, [], ◌∷◌, ◌++◌, map, flat_map}

-- Whether two bytes, one after the other, are a line break.
unfoldable pub is_break : ℕ → ℕ → Bool
is_break b c = eqb b 13 && eqb c 10

-- The lists with b put in front of the first one; if there is no list, the one list that holds b alone.
unfoldable pub onto : ℕ → List (List ℕ) → List (List ℕ)
onto b [] = (b ∷ []) ∷ []
onto b (l ∷ ls) = (b ∷ l) ∷ ls

-- ---- from a text

-- The records of a text, without their line breaks. Bytes after the last line break are a record too.
unfoldable pub records : List ℕ → List (List ℕ)
records [] = []
records (b ∷ []) = (b ∷ []) ∷ []
records (b ∷ c ∷ t) =
    let closed = records t in
    let open-record = records (c ∷ t) in
    cond (is_break b c) ([] ∷ closed) (onto b open-record)

-- The fields of a record. An empty record has one empty field.
unfoldable pub fields : List ℕ → List (List ℕ)
fields [] = [] ∷ []
fields (b ∷ r) = let rest = fields r in cond (eqb b 44) ([] ∷ rest) (onto b rest)

-- The fields of each record of a text.
unfoldable pub rows : List ℕ → List (List (List ℕ))
rows t = map fields (records t)

-- ---- to a text

-- The text of a record, without its line break: its fields, separated by commas. A record has at least one field; with none the text would be empty.
unfoldable pub record_text : List (List ℕ) → List ℕ
record_text [] = []
record_text (f ∷ fs) = f ++ flat_map (λ g. 44 ∷ g) fs

-- The text of a record with its line break.
unfoldable pub line_text : List (List ℕ) → List ℕ
line_text r = record_text r ++ 13 ∷ 10 ∷ []

-- The text of records, each closed by a line break, the last one too (RULES 19.4).
unfoldable pub rows_text : List (List (List ℕ)) → List ℕ
rows_text rs = flat_map line_text rs
