-- Rows of bits: for each source element the target elements that are left for it. Target elements 1 to 60 are the bits of one word, from the lowest
-- on, and 61 to 120 those of another. All rows are one list of words, the 120 low ones first. Assumes nothing.
use Rattle.std.specs.Prelude.{◌≡◌, Bool, ◌&&◌, cond, List, ℕ, zero, suc, ◌+◌, ◌-◌, ◌*◌, ◌/◌, ◌%◌, ◌^◌, ◌≤◌, min, eqb, leb, set}
use Rattle.std.specs.Int.Bits.{bit_and}
use Rattle.std.specs.Int.Count.{count_trailing_zeros}
use Rattle.semigroups.specs.Lists.{at}
use Rattle.semigroups.specs.Tables.{largest_order, Element}
use Rattle.rows.specs.declared.Row.{Row}

-- Whether bit j of the word is set.
unfoldable pub has_bit : ℕ → ℕ → Bool
has_bit w j = eqb (w / 2 ^ j % 2) 1

-- Whether target element y is in the row.
unfoldable pub in_row : Row → ℕ → Bool
in_row row y = cond (leb y 60) (has_bit row.lo (y - 1)) (has_bit row.hi (y - 61))

-- Whether neither word of the row has a bit set.
unfoldable pub is_empty : Row → Bool
is_empty row = eqb row.lo 0 && eqb row.hi 0

-- Whether two rows have the same words.
unfoldable pub same_row : Row → Row → Bool
same_row a b = eqb a.lo b.lo && eqb a.hi b.hi

-- Whether every bit of row a is also in row b.
unfoldable pub is_inside : Row → Row → Bool
is_inside a b = eqb (bit_and a.lo b.lo) a.lo && eqb (bit_and a.hi b.hi) a.hi

-- The row of source element c.
abbrev pub row_of : List ℕ → ℕ → Row
row_of rows c = record { lo = at rows c; hi = at rows (120 + c) }

-- Whether target element y is left for source element c.
unfoldable pub has : List ℕ → ℕ → ℕ → Bool
has rows c y = in_row (row_of rows c) y

-- The word of the k target elements from `from` on: bit j is set if from + j passes the test.
unfoldable pub word : (ℕ → Bool) → ℕ → ℕ → ℕ
word p from zero = 0
word p from (suc k) = word p from k + cond (p (from + k)) (2 ^ k) 0

-- The row of those of n target elements that pass a test.
unfoldable pub packed_row : ℕ → (ℕ → Bool) → Row
packed_row n p = record { lo = word p 1 (min n 60); hi = word p 61 (n - 60) }

-- The list of words, with entry i masked by the word w.
unfoldable pub masked_word : List ℕ → ℕ → ℕ → List ℕ
masked_word words i w = set words (i - 1) (bit_and (at words i) w)

-- The rows, with row c masked by the given row.
unfoldable pub masked : List ℕ → ℕ → Row → List ℕ
masked rows c row = masked_word (masked_word rows c row.lo) (120 + c) row.hi

-- The row that holds v alone.
unfoldable pub single_row : ℕ → Row
single_row v = packed_row 120 (λ y. eqb y v)

-- The element of the lowest bit of the row that is set; a number above 120 if no bit is set.
unfoldable pub lowest_element : Row → ℕ
lowest_element row = cond (eqb row.lo 0) (count_trailing_zeros 64 row.hi + 61) (count_trailing_zeros 64 row.lo + 1)

-- r is the element that the row holds alone, or 0 if it holds none or several.
pub record Alone (row : Row) (r : ℕ) : Type 0 where
  pub most : r ≤ 120
  pub found : (v : ℕ) → Element 120 v → row ≡ single_row v → r ≡ v
  pub holds : 1 ≤ r → row ≡ single_row r

-- Every bit of row a is also in row b.
abbrev pub RowInside : Row → Row → Type 0
RowInside a b = (bit_and a.lo b.lo ≡ a.lo) × (bit_and a.hi b.hi ≡ a.hi)

-- Row c holds no element other than v.
abbrev pub Only : List ℕ → ℕ → ℕ → Type 0
Only rows c v = RowInside (row_of rows c) (single_row v)

-- No row has gained a bit.
abbrev pub Shrinks : List ℕ → List ℕ → Type 0
Shrinks rows newRows = (c : ℕ) → Element largest_order c → RowInside (row_of newRows c) (row_of rows c)

-- Row c is masked by the row of v alone, and no other word has changed.
abbrev pub Forced : ℕ → ℕ → List ℕ → List ℕ → Type 0
Forced c v rows newRows = newRows ≡ masked rows c (single_row v)

-- The row with only those of its elements that are above x. Bits that stand for no element count as coming after the last one of their word.
unfoldable pub upper_row : Row → ℕ → Row
upper_row row x = cond (leb x 60) (record { lo = row.lo / 2 ^ x * 2 ^ x; hi = row.hi }) (record { lo = 0; hi = row.hi / 2 ^ (x - 60) * 2 ^ (x - 60) })

-- The row with only those of its elements that are below x; bits that stand for no element count as in `upper_row`. If x is above 120, nothing is taken out.
unfoldable pub under_row : Row → ℕ → Row
under_row row x =
    cond (leb x 60) (record { lo = row.lo % 2 ^ (x - 1); hi = 0 })
    (cond (leb x 120) (record { lo = row.lo; hi = row.hi % 2 ^ (x - 61) }) row)

-- The rows, with only the elements above x in row j.
abbrev pub raised : List ℕ → ℕ → ℕ → List ℕ
raised rows j x = masked rows j (upper_row (row_of rows j) x)

-- The rows, with only the elements below x in row j.
abbrev pub lowered : List ℕ → ℕ → ℕ → List ℕ
lowered rows j x = masked rows j (under_row (row_of rows j) x)

-- The rows after a step for each of the first m rows in turn.
unfoldable pub stepwise : (ℕ → List ℕ → List ℕ) → ℕ → List ℕ → List ℕ
stepwise step zero rows = rows
stepwise step (suc c) rows = step (suc c) (stepwise step c rows)

-- The rows after each of the first m rows has kept only those of its elements from 1 to n that pass the test of that row.
abbrev pub kept_rows : ℕ → ℕ → (ℕ → ℕ → Bool) → List ℕ → List ℕ
kept_rows m n p = stepwise (λ c rows. masked rows c (packed_row n (p c))) m

-- The rows after each chosen one of the first m rows has been cut, one after another.
abbrev pub cut_rows : ℕ → (ℕ → Bool) → (List ℕ → ℕ → List ℕ) → List ℕ → List ℕ
cut_rows m chosen cut = stepwise (λ c rows. cond (chosen c) (cut rows c) rows) m
