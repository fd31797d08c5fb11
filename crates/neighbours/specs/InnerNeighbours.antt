-- How many elements form each pattern with a given one. Assumes nothing.
use Rattle.std.specs.Prelude.{◌≡◌, Bool, List, ℕ, ◌-◌, ◌<◌, eqb, leb, length, get_or}
use Rattle.semigroups.specs.Lists.{elements, at, all, count}
use Rattle.semigroups.specs.Tables.{Product}
use Rattle.propagation.specs.InnerRows.{pattern}

-- Whether c and b form pattern k.
abbrev pub forms : Product → ℕ → ℕ → ℕ → Bool
forms s c k b = eqb (pattern c b (s c b) (s b c)) k

-- How many of n elements form pattern k with c: its neighbours of that pattern.
abbrev pub neighbours : ℕ → Product → ℕ → ℕ → ℕ
neighbours n s c k = count (forms s c k) (elements n)

-- The counts for the 64 patterns, from pattern 0 on.
pub record Neighbours (n : ℕ) (s : Product) (c : ℕ) (found : List ℕ) : Type 0 where
  pub long : length found ≡ 64
  pub each : (k : ℕ) → k < 64 → get_or found k 0 ≡ neighbours n s c k

-- Whether for each pattern the count in `few` is at most the one in `many`.
abbrev pub no_more : List ℕ → List ℕ → Bool
no_more few many = all (λ k. leb (at few k) (at many k)) (elements 64)

-- Whether y has at least as many neighbours of each pattern as `few` says.
unfoldable pub enough : ℕ → Product → List ℕ → ℕ → Bool
enough n t few y = all (λ k. leb (at few k) (neighbours n t y (k - 1))) (elements 64)

-- Whether y has at least as many neighbours of each pattern among the n elements of its table as c has among the m of its own.
unfoldable pub has_as_many : ℕ → Product → ℕ → Product → ℕ → ℕ → Bool
has_as_many m s n t c y = all (λ k. leb (neighbours m s c (k - 1)) (neighbours n t y (k - 1))) (elements 64)
