-- The layout of the scratch buffer (RULES 8.2): one bit for each pair of a source and a target element. Only this file says where the mark of a pair stands
-- and how many bytes the marks take.
-- Assumes nothing.
use Rattle.std.specs.Prelude.{Bool, cond, List, map, ℕ, ◌+◌, ◌*◌, ◌/◌, ◌%◌, ◌^◌, eqb, get_or}
use Rattle.semigroups.specs.Lists.{range, sum}
use Rattle.semigroups.specs.Tables.{cell_place, grid}

-- ---- eight to a byte

-- Byte b of a list of zeros and ones, packed eight to a byte: entry 8 × b + r of the list, counted from 0, is worth 2 to the power r. Entries after the end
-- of the list count as 0.
unfoldable pub packed_byte : List ℕ → ℕ → ℕ
packed_byte l b = sum (λ r. get_or l (8 * b + r) 0 * 2 ^ r) (range 0 8)

-- The bit of a byte that is worth 2 to the power r.
unfoldable pub bit : ℕ → ℕ → ℕ
bit byte r = byte / 2 ^ r % 2

-- ---- the marks

-- How many bytes the marks of m source and n target elements take: m × n divided by 8, rounded up (question 6).
unfoldable pub scratch_size : ℕ → ℕ → ℕ
scratch_size m n = (m * n + 7) / 8

-- The bytes of the marks (RULES 8.2): the mark of a pair is 1 if target element j is a candidate for source element i, else 0. The marks stand in the sequence
-- of the numbers of their pairs, eight to a byte.
unfoldable pub marks : ℕ → ℕ → (ℕ → ℕ → Bool) → List ℕ
marks m n candidate = map (packed_byte (grid m n (λ i j. cond (candidate i j) 1 0))) (range 0 (scratch_size m n))

-- Whether the scratch bytes mark target element j, of n, as a candidate for source element i: pair number k stands in byte k / 8, at the bit worth 2
-- to the power k modulo 8.
unfoldable pub marked : ℕ → List ℕ → ℕ → ℕ → Bool
marked n scratch i j = let k = cell_place n i j in eqb (bit (get_or scratch (k / 8) 0) (k % 8)) 1
