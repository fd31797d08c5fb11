-- What is claimed of the least degree and of the landing positions (RULES 17).
-- Assumes nothing.
use Rattle.std.specs.Prelude.{◌≡◌, ◌↔◌, List, ℕ, suc, ◌*◌, ◌≤◌, length, get_or}
use Rattle.std.proofs.Math.Option.{none, some}
use Rattle.semigroups.specs.Lists.{at}
use Rattle.semigroups.specs.ListsLaws.{Earliest}
use Rattle.semigroups.specs.Tables.{Product, cell_place, Element, Accepted}
use Rattle.semigroups.specs.TablesLaws.{Closed}
use Rattle.semigroups.specs.InnerMaps.{Embedding}
use Rattle.semigroups.specs.Transformations.{transformation_order, transformation}
use Rattle.planning.specs.Degrees.{degree_product, least_degree, Fit, least_fit, fit_positions}

-- ---- the questions

-- What passes the questions: an accepted table, and a buffer with room for three positions of each element.
pub record DegreePasses (m : ℕ) (cells : List ℕ) (size : ℕ) : Type 0 where
  pub table : Accepted m cells
  pub room : m * 3 ≤ size

-- The list f embeds the table in that of degree d.
abbrev pub EmbedsAt : ℕ → Product → ℕ → List ℕ → Type 0
EmbedsAt m s d f = Embedding m s (transformation_order d) (degree_product d) f

-- Degree d is the least from 1 to 3 whose table holds an embedding.
pub record IsLeastDegree (m : ℕ) (s : Product) (d : ℕ) : Type 0 where
  pub degree : Element 3 d
  pub embedding : List ℕ
  pub embeds : EmbedsAt m s d embedding
  pub least : (e : ℕ) (f : List ℕ) → Element 3 e → EmbedsAt m s e f → d ≤ e

-- These bytes are the landing positions of the m elements under the first embedding f in the table of degree d: for each element in turn d positions, each
-- from 1 to d. As transformations they compose as the table says: i·j lands where j takes what i gives. Different elements land differently at some point.
pub record LandingPositions (m : ℕ) (s : Product) (d : ℕ) (f bytes : List ℕ) : Type 0 where
  pub first_embedding : Earliest (EmbedsAt m s d) f
  pub size : length bytes ≡ m * d
  pub byte : (i x : ℕ) → Element m i → Element d x → get_or bytes (cell_place d i x) 0 ≡ at (transformation d (at f i)) x
  pub within : (i x : ℕ) → Element m i → Element d x → Element d (get_or bytes (cell_place d i x) 0)
  pub compose : (i j x : ℕ) → Element m i → Element m j → Element d x
      → get_or bytes (cell_place d (s i j) x) 0 ≡ get_or bytes (cell_place d j (get_or bytes (cell_place d i x) 0)) 0
  pub apart : (i j : ℕ) → Element m i → Element m j → ((x : ℕ) → Element d x → get_or bytes (cell_place d i x) 0 ≡ get_or bytes (cell_place d j x) 0) → i ≡ j

-- A degree is said exactly if it is the least one.
abbrev pub LeastDegreeTheorem : Type 0
LeastDegreeTheorem = (m : ℕ) (s : Product) (d : ℕ) → (least_degree m s ≡ some d) ↔ IsLeastDegree m s d

-- "None of these" is said exactly if no table of degree 1 to 3 holds an embedding.
abbrev pub NoDegreeTheorem : Type 0
NoDegreeTheorem = (m : ℕ) (s : Product) → (least_degree m s ≡ none) ↔ ((d : ℕ) (f : List ℕ) → Element 3 d → EmbedsAt m s d f → ⊥)

-- With a degree come the landing positions, and no other bytes, in an accepted table or any whose products are elements.
abbrev pub PositionsTheorem : Type 0
PositionsTheorem =
    (m : ℕ) (s : Product) → Closed m s → (x : Fit) → least_fit m s ≡ some x → (f bytes : List ℕ)
    → ((f ≡ x.embedding) × (bytes ≡ fit_positions m (least_fit m s))) ↔ LandingPositions m s x.degree f bytes

-- The table of degree d embeds in that of degree d + 1, for any d.
abbrev pub NextDegreeTheorem : Type 0
NextDegreeTheorem = (d : ℕ) → (f : List ℕ) × EmbedsAt (transformation_order d) (degree_product d) (suc d) f

-- A table that fits at one degree fits at every larger one, up to 3 and beyond.
abbrev pub LargerDegreeTheorem : Type 0
LargerDegreeTheorem = (m : ℕ) (s : Product) → Closed m s → (d e : ℕ) → d ≤ e → (f : List ℕ) → EmbedsAt m s d f → (g : List ℕ) × EmbedsAt m s e g
