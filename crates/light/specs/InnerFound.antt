-- What is kept while elements are found one by one: the elements found so far, the first found first, and a mark for each.
-- Assumes nothing.
use Rattle.std.specs.Prelude.{◌≡◌, cond, List, [], ◌∷◌, ◌++◌, map, ℕ, ◌-◌, length, replicate}
use Rattle.semigroups.specs.Tables.{largest_order}
use Rattle.semigroups.specs.Lists.{range, member}
use Rattle.semigroups.specs.InnerLists.{NoRepeats}
use Rattle.semigroups.specs.InnerGenerated.{Inside}

-- An array with a place for 0 and for each element of a table of any order: 1 at x where x stands in the list, else 0.
unfoldable pub indicator : List ℕ → List ℕ
indicator l = map (λ x. cond (member x l) 1 0) (range 0 121)

-- The list r with x appended, unless x stands in it.
unfoldable pub adding : List ℕ → ℕ → List ℕ
adding r x = cond (member x r) r (r ++ x ∷ [])

-- The list r with the entries of l added in turn.
unfoldable pub adding_all : List ℕ → List ℕ → List ℕ
adding_all r [] = r
adding_all r (x ∷ l) = adding_all (adding r x) l

-- The elements found so far are r: they stand in `found`, followed by zeros; `marks` marks them; `count` is how many they are.
pub record Found (r found marks : List ℕ) (count : ℕ) : Type 0 where
  pub listed : found ≡ r ++ replicate (120 - length r) 0
  pub marked : marks ≡ indicator r
  pub counted : count ≡ length r
  pub inside : Inside largest_order r
  pub no_repeats : NoRepeats r
