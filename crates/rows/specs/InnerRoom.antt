-- The pigeonhole test on rows: a row has no fewer bits than there are rows inside it. Assumes nothing.
use Rattle.std.specs.Prelude.{Bool, ◌&&◌, ◌||◌, List, ℕ, ◌+◌, eqb, leb}
use Rattle.std.specs.Int.Bits.{bit_and}
use Rattle.std.specs.Int.Count.{ones}
use Rattle.semigroups.specs.Lists.{elements, all, count}
use Rattle.rows.specs.InnerRows.{is_inside, row_of}

module _ (rows : List ℕ) where
  -- Whether every bit of row b is also in row c.
  unfoldable pub lies_inside : ℕ → ℕ → Bool
  lies_inside b c = is_inside (row_of rows b) (row_of rows c)

  -- How many of m rows lie inside row c.
  unfoldable pub inside_count : ℕ → ℕ → ℕ
  inside_count m c = count (λ b. lies_inside b c) (elements m)

  -- Whether row c has at least as many elements as there are rows inside it.
  unfoldable pub has_room : ℕ → ℕ → Bool
  has_room m c = let row = row_of rows c in leb (inside_count m c) (ones row.lo + ones row.hi)

  -- Whether each of m rows has room for the rows inside it.
  unfoldable pub roomy : ℕ → Bool
  roomy m = all (has_room m) (elements m)

  -- Whether each of the m rows with fewer than two elements has room for the rows inside it.
  unfoldable pub small_roomy : ℕ → Bool
  small_roomy m = all (λ c. let row = row_of rows c in leb 2 (ones row.lo + ones row.hi) || has_room m c) (elements m)
