-- Tables as text (RULES 19): a record for each row, a field for each cell. The order is the number of fields of the first record.
-- Assumes nothing.
use mathlib.Core.List.{List, [], map, flatten}
use Rattle.std.specs.Prelude.{ℕ, length, get_or}
use Rattle.semigroups.specs.Lists.{elements}
use Rattle.semigroups.specs.Tables.{product}
use Rattle.rfc4180.specs.Decimals.{value, numeral}
use Rattle.rfc4180.specs.Records.{rows, rows_text}

-- The fields of a text in reading order.
unfoldable pub fields_of : List ℕ → List (List ℕ)
fields_of t = flatten (rows t)

-- The order of a text: the number of fields of its first record.
unfoldable pub order_of : List ℕ → ℕ
order_of t = length (get_or (rows t) 0 [])

-- The cells of a text, row by row.
unfoldable pub cells_of : List ℕ → List ℕ
cells_of t = map value (fields_of t)

-- The fields of row i of the table of order n with these cells: the decimal numbers of i·1 to i·n.
unfoldable pub row_fields : ℕ → List ℕ → ℕ → List (List ℕ)
row_fields n cells i = map (λ j. numeral (product n cells i j)) (elements n)

-- The text of the table: a record for each row.
unfoldable pub table_text : ℕ → List ℕ → List ℕ
table_text n cells = rows_text (map (row_fields n cells) (elements n))
