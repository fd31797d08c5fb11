-- What the contracts say of a map that is placed image by image, with its rows. Assumes nothing.
use Rattle.std.specs.Prelude.{◌≡◌, Bool, true, false, ◌&&◌, ◌⊎◌, List, ℕ, ◌+◌, take, replicate}
use Rattle.semigroups.specs.Lists.{at}
use Rattle.semigroups.specs.Tables.{Product, Element}
use Rattle.rows.specs.InnerRows.{has, Only, kept_rows}
use Rattle.rows.specs.InnerRoom.{roomy}
use Rattle.propagation.specs.InnerRows.{MultipliedBefore, Narrows, KeptOrEmptied, NarrowedInTurn}
use Rattle.fitting.specs.declared.Partial.{Partial}

-- The list placed so far.
abbrev pub placed_list : Partial → List ℕ
placed_list p = take p.len p.image

-- Whether a target element is left for a source element in the rows of a partial map.
abbrev pub rows_in : Partial → ℕ → ℕ → Bool
rows_in p = has p.rows

-- Rows with every target element.
abbrev pub full_rows : List ℕ
full_rows = replicate 240 1152921504606846975

-- The map with nothing placed, and these rows.
abbrev pub blank : List ℕ → Partial
blank rows = record { image = replicate 120 0; rows = rows; len = 0; ok = true }

-- The map after each of its first m rows has kept only those of its elements from 1 to n that pass the test of that row.
abbrev pub kept_partial : ℕ → ℕ → (ℕ → ℕ → Bool) → Partial → Partial
kept_partial m n test p = record { image = p.image; rows = kept_rows m n test p.rows; len = p.len; ok = p.ok }

-- What the rows hold of the images placed: the row of a placed element has at most its image, and the row of the product of two of the first `paired`
-- elements at most the product of their images.
pub record Settled (s t : Product) (image : List ℕ) (len paired : ℕ) (rows : List ℕ) : Type 0 where
  pub own : (i : ℕ) → Element len i → Only rows i (at image i)
  pub products : (i j : ℕ) → Element paired i → Element paired j → Only rows (s i j) (t (at image i) (at image j))

-- What `ok` says of the rows that are left once x is placed for l and they are narrowed. It is set only if what is left passes `narrowed` over the old rows,
-- and each of the first m rows has at least one of n elements and room for the rows inside it. It is left unset only if `narrowed` leaves no element for some
-- source element, or some row has no room.
pub record KeptWithRoom (m : ℕ) (s : Product) (n : ℕ) (t : Product) (l x : ℕ) (old : ℕ → ℕ → Bool) (p : Partial) : Type 0 where
  pub narrows : p.ok ≡ true → Narrows m s n t l x old (rows_in p)
  pub kept : p.ok ≡ true → (c : ℕ) → Element m c → (y : ℕ) × Element n y × (rows_in p c y ≡ true)
  pub room : p.ok ≡ true → roomy p.rows m ≡ true
  pub failed : p.ok ≡ false → KeptOrEmptied m s n t l x false (rows_in p) ⊎ (roomy p.rows m ≡ false)

-- The rows and `ok` after the test of element l, which starts from these rows. The rows of its products with the elements placed keep at most the products of
-- the images; then all rows are narrowed in turn. `ok` is set exactly if none of them would be empty and each has room for the rows inside it.
pub record Tested (m : ℕ) (s : Product) (n : ℕ) (t : Product) (image : List ℕ) (l : ℕ) (rows : List ℕ) (p : Partial) : Type 0 where
  pub mid : List ℕ
  pub kept : Bool
  pub multiplied : MultipliedBefore s t image l rows (l + 1) mid
  pub narrowed : NarrowedInTurn m s n t l (at image l) mid kept p.rows
  pub verdict : p.ok ≡ (kept && roomy p.rows m)
