-- What a map check's answer means, in plain words (RULES 12).
-- Assumes nothing.
use Rattle.std.specs.Prelude.{◌≡◌, List, ℕ, ◌<◌}
use Rattle.semigroups.specs.Lists.{at}
use Rattle.semigroups.specs.ListsLaws.{Earliest}
use Rattle.semigroups.specs.Tables.{Product, Element}
use Rattle.semigroups.specs.InnerTables.{IsList}
use Rattle.semigroups.specs.InnerMaps.{Embedding}
use Rattle.semigroups.specs.MapCheck.{Checked, holds, outside, equal_images, wrong_product}

-- The pair l of elements, the first smaller, has equal images.
pub record EqualPair (m : ℕ) (f l : List ℕ) : Type 0 where
  pub pair : IsList 2 m l
  pub rising : at l 1 < at l 2
  pub equal : at f (at l 1) ≡ at f (at l 2)

-- The product of the pair l of elements does not go to the product of their images.
pub record WrongPair (m : ℕ) (s t : Product) (f l : List ℕ) : Type 0 where
  pub pair : IsList 2 m l
  pub wrong : at f (s (at l 1) (at l 2)) ≡ t (at f (at l 1)) (at f (at l 2)) → ⊥

-- What a map check's answer means: the map is an embedding; or this is its earliest fault, and it has no fault of a kind that is looked for earlier.
pub data IsChecked (m : ℕ) (s : Product) (n : ℕ) (t : Product) (f : List ℕ) : Checked → Type 0 where
  an_embedding : Embedding m s n t f → IsChecked m s n t f holds
  an_outsider : (i : ℕ) → Element m i → (Element n (at f i) → ⊥) → ((j : ℕ) → Element m j → j < i → Element n (at f j)) → IsChecked m s n t f (outside i)
  an_equal_pair : (l : List ℕ) → ((i : ℕ) → Element m i → Element n (at f i)) → Earliest (EqualPair m f) l → IsChecked m s n t f (equal_images l)
  a_wrong_pair : (l : List ℕ) → ((i : ℕ) → Element m i → Element n (at f i)) → ((i j : ℕ) → Element m i → Element m j → at f i ≡ at f j → i ≡ j) → Earliest (WrongPair m s t f) l
      → IsChecked m s n t f (wrong_product l)
