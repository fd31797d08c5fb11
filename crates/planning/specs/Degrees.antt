-- The fewest rest positions of a table (RULES 17): the least degree from 1 to 3 whose table of all transformations holds an embedding, and the landing
-- positions of each element there. Statements are for a table of order m with product s.
-- Assumes nothing.
use Rattle.std.specs.Prelude.{List, [], ◌∷◌, ◌++◌, ℕ, ◌*◌, leb}
use Rattle.std.proofs.Math.Option.{Option, none, some, map}
use Rattle.semigroups.specs.Lists.{elements, at, first_of}
use Rattle.semigroups.specs.Tables.{Product, product, grid}
use Rattle.semigroups.specs.Questions.{Question, ask, Refusal, first_no, table_questions}
use Rattle.semigroups.specs.Maps.{embeddings, maps, first, earliest}
use Rattle.semigroups.specs.Transformations.{transformation_order, transformation, transformation_cells}

-- ---- the least degree

-- The product of the table of all transformations of d points.
unfoldable pub degree_product : ℕ → Product
degree_product d = product (transformation_order d) (transformation_cells d)

-- A degree and an embedding in its table.
pub record Fit : Type 0 where
  pub degree : ℕ
  pub embedding : List ℕ

-- This degree with this embedding.
abbrev pub fit : ℕ → List ℕ → Fit
fit d f = record { degree = d; embedding = f }

module _ (m : ℕ) (s : Product) where
  -- The first embedding in the table of degree d.
  unfoldable pub first_at : ℕ → Option (List ℕ)
  first_at d = earliest first (maps embeddings m s (transformation_order d) (degree_product d))

  -- The least degree from 1 to 3 whose table holds an embedding, with the first one; or none of these.
  unfoldable pub least_fit : Option Fit
  least_fit = first_of (λ d. map (fit d) (first_at d)) (elements 3)

  -- The least degree alone.
  unfoldable pub least_degree : Option ℕ
  least_degree = map (λ (x : Fit). x.degree) least_fit

-- ---- landing positions

-- Where element i takes point x under the embedding f in the table of degree d.
unfoldable pub position : ℕ → List ℕ → ℕ → ℕ → ℕ
position d f i x = at (transformation d (at f i)) x

-- The d landing positions of each of m elements in turn.
unfoldable pub landings : ℕ → ℕ → List ℕ → List ℕ
landings m d f = grid m d (position d f)

-- The bytes that an answer writes: "none of these" writes nothing.
abbrev pub fit_positions : ℕ → Option Fit → List ℕ
fit_positions m none = []
fit_positions m (some x) = landings m x.degree x.embedding

-- ---- the questions

-- The questions about a table and the length of a position buffer: the table's four; then 80, has the buffer at least m × 3 bytes, whatever the degree?
abbrev pub degree_questions : ℕ → List ℕ → ℕ → List Question
degree_questions m cells size = table_questions m cells ++ ask 80 (leb (m * 3) size) ∷ []

-- The refusal of a call about the least degree, if a question fails.
unfoldable pub degree_refusal : ℕ → List ℕ → ℕ → Option Refusal
degree_refusal m cells size = first_no (degree_questions m cells size)
