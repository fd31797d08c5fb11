-- Why two of the mistakes that RULES 24 names would change an answer, computed from the definitions.
-- Assumes nothing.
use Rattle.std.specs.Prelude.{◌≡◌, false, List, [], ◌∷◌, map, ℕ}
use Rattle.semigroups.specs.Lists.{elements}
use Rattle.semigroups.specs.Tables.{Product, product, grid, turned}
use Rattle.semigroups.specs.Invariants.{frequency, profile, same_profile}
use Rattle.semigroups.specs.Maps.{embeddings, maps}
use Rattle.semigroups.specs.Transformations.{transformation_product}
use Rattle.semigroups.specs.Cases.{Table, left, right, two}

-- The product of a worked table.
abbrev product_of : Table → Product
product_of t = product t.order t.cells

-- The embeddings of one worked table in another, the full list.
abbrev embeddings_of : Table → Table → List (List ℕ)
embeddings_of s t = maps embeddings s.order (product_of s) t.order (product_of t)

-- The degree 2 table with its composition turned round: t first, then s.
abbrev pub two_turned : Table
two_turned = record { order = two.order; cells = grid two.order two.order (turned (transformation_product 2)) }

-- RULES 24.1: element 1 stands twice in right and six times in two. No element of two has the profile of element 1 of right, so with whole profiles as
-- candidates right would not fit two; and it does fit (case 7).
pub record WholeProfiles : Type 0 where
  pub in_right : frequency 2 (product_of right) 1 ≡ 2
  pub in_two : frequency two.order (product_of two) 1 ≡ 6
  pub no_candidate : map (λ j. same_profile (profile 2 (product_of right) 1) (profile two.order (product_of two) j)) (elements 4) ≡ false ∷ false ∷ false ∷ false ∷ []
  pub right_fits : embeddings_of right two ≡ (1 ∷ 4 ∷ []) ∷ (4 ∷ 1 ∷ []) ∷ []

-- RULES 24.3: with composition turned round, left would fit two, and right would not.
pub record TurnedRound : Type 0 where
  pub left_would_fit : embeddings_of left two_turned ≡ (1 ∷ 4 ∷ []) ∷ (4 ∷ 1 ∷ []) ∷ []
  pub right_would_not : embeddings_of right two_turned ≡ []
