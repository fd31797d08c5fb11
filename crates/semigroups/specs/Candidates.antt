-- Candidates: which target elements a source element may go to, for each kind of map (arXiv 1603.06204, definitions 3.3 and 4.1).
-- Assumes nothing.
use Rattle.std.specs.Prelude.{Bool, ℕ}
use Rattle.semigroups.specs.Tables.{Product}
use Rattle.semigroups.specs.Invariants.{index_period, same_index_period, profile, same_profile, exchanged}
use Rattle.semigroups.specs.Maps.{Kind, embeddings, isomorphisms, reversed}

-- Whether j is a candidate for i: for embeddings the two have equal index-periods, for isomorphisms equal profiles, and for reversed isomorphisms equal
-- profiles with the row and column counts of one of them exchanged (RULES 8.1).
unfoldable pub candidate : Kind → ℕ → Product → ℕ → Product → ℕ → ℕ → Bool
candidate embeddings m s n t i j = same_index_period (index_period m s i) (index_period n t j)
candidate isomorphisms m s n t i j = same_profile (profile m s i) (profile n t j)
candidate reversed m s n t i j = same_profile (profile m s i) (exchanged (profile n t j))
