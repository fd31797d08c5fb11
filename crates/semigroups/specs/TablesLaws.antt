-- What is said of tables in plain words, besides what a table is: products that stay inside, commutative products, failing triples.
-- Assumes nothing.
use Rattle.std.specs.Prelude.{◌≡◌, List, ℕ}
use Rattle.semigroups.specs.Lists.{at}
use Rattle.semigroups.specs.Tables.{Element, Product}
use Rattle.semigroups.specs.InnerTables.{IsList}

-- Products of elements are elements.
abbrev pub Closed : ℕ → Product → Type 0
Closed n s = (i j : ℕ) → Element n i → Element n j → Element n (s i j)

-- The product is commutative: i·j = j·i for every i, j.
abbrev pub Commutative : ℕ → Product → Type 0
Commutative n s = (i j : ℕ) → Element n i → Element n j → s i j ≡ s j i

-- The triple l of elements does not associate.
pub record FailingTriple (n : ℕ) (s : Product) (l : List ℕ) : Type 0 where
  pub triple : IsList 3 n l
  pub fails : s (s (at l 1) (at l 2)) (at l 3) ≡ s (at l 1) (s (at l 2) (at l 3)) → ⊥
