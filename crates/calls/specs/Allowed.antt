-- The embeddings that given pairs allow: those for which the pair of each element with its image is marked. The pairs are bits, laid out like those of the
-- scratch buffer (RULES 8.2). They are taken from the full list of embeddings, and from nothing that a search finds (RULES 11.1).
-- Assumes nothing.
use Rattle.std.specs.Prelude.{Bool, ◌&&◌, List, ℕ}
use Rattle.semigroups.specs.Lists.{elements, at, all, keep}
use Rattle.semigroups.specs.Tables.{Product}
use Rattle.semigroups.specs.Scratch.{marked}
use Rattle.semigroups.specs.Maps.{embeddings, maps}
use Rattle.semigroups.specs.Candidates.{candidate}

-- Whether the pair of each of m elements with its image under f is marked.
unfoldable pub allows : ℕ → ℕ → List ℕ → List ℕ → Bool
allows m n pairs f = all (λ i. marked n pairs i (at f i)) (elements m)

-- The embeddings that the pairs allow, earliest first.
unfoldable pub allowed : ℕ → Product → ℕ → Product → List ℕ → List (List ℕ)
allowed m s n t pairs = keep (allows m n pairs) (maps embeddings m s n t)

-- Whether j is a candidate for i among embeddings, and the pair is marked.
abbrev pub allowed_candidate : ℕ → Product → ℕ → Product → List ℕ → ℕ → ℕ → Bool
allowed_candidate m s n t pairs i j = candidate embeddings m s n t i j && marked n pairs i j
