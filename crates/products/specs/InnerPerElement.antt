-- Arrays with a place for each element of a table of any order (RULES 3.1: the order is at most 120). Assumes nothing.
use Rattle.std.specs.Prelude.{List, map, ◌++◌, ℕ, ◌-◌, replicate}
use Rattle.semigroups.specs.Lists.{elements}

-- The values of w at the elements 1 to n, element a's at place a - 1; then zeros: 120 entries in all.
unfoldable pub per_element : ℕ → (ℕ → ℕ) → List ℕ
per_element n w = map w (elements n) ++ replicate (120 - n) 0
