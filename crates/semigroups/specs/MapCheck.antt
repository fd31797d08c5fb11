-- The map check (RULES 12): m bytes are an embedding, for which it says "holds", or they have an earliest fault.
-- Assumes nothing.
use Rattle.std.specs.Prelude.{◌&&◌, not, List, ℕ, eqb, ltb}
use Rattle.std.proofs.Math.Option.{Option, none, some}
use Rattle.semigroups.specs.Lists.{elements, at, find, lists}
use Rattle.semigroups.specs.Tables.{Product, is_element}

-- What a map check says of m bytes.
pub data Checked : Type 0 where
  holds : Checked
  -- the element whose image is not 1 to n
  outside : ℕ → Checked
  -- the pair i, j, as a list, with i < j and equal images
  equal_images : List ℕ → Checked
  -- the pair i, j, as a list, whose product fails
  wrong_product : List ℕ → Checked

-- The fault at x, if there is an x; otherwise `rest`.
abbrev pub unless : {A : Type 0} → (A → Checked) → Option A → Checked → Checked
unless fault none rest = rest
unless fault (some x) rest = fault x

module _ (m : ℕ) (s : Product) (n : ℕ) (t : Product) (f : List ℕ) where
  -- The first element whose image is not 1 to n, or none.
  unfoldable pub first_outside : Option ℕ
  first_outside = find (λ i. not (is_element n (at f i))) (elements m)

  -- The earliest pair i < j with equal images, or none. Pairs are compared by i, then by j.
  unfoldable pub first_equal : Option (List ℕ)
  first_equal = find (λ l. ltb (at l 1) (at l 2) && eqb (at f (at l 1)) (at f (at l 2))) (lists 2 m)

  -- The earliest pair i, j whose product fails, which means that the image of i·j is not the product of their images; or none.
  unfoldable pub first_wrong : Option (List ℕ)
  first_wrong = find (λ l. not (eqb (at f (s (at l 1) (at l 2))) (t (at f (at l 1)) (at f (at l 2))))) (lists 2 m)

  -- What the map check says of the m bytes f: an image outside, else equal images, else a wrong product, else that the map holds
  -- (RULES 12.1).
  unfoldable pub check_map : Checked
  check_map =
      let products = unless wrong_product first_wrong holds in
      let images = unless equal_images first_equal products in
      unless outside first_outside images
