-- The marks of scratch before they are packed. No contract of an entry point cites this. Assumes nothing.
use Rattle.std.specs.Prelude.{Bool, cond, List, ℕ}
use Rattle.semigroups.specs.Tables.{grid}

-- A number for each pair, by the numbers of the pairs (RULES 8.2): 1 if target element j is a candidate for source element i, else 0.
unfoldable pub pair_marks : ℕ → ℕ → (ℕ → ℕ → Bool) → List ℕ
pair_marks m n candidate = grid m n (λ i j. cond (candidate i j) 1 0)
