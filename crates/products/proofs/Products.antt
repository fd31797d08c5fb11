-- Where a product stands among the cells of a table. Assumes nothing.
use mathlib.Core.Path.{◌≡◌, refl}
use mathlib.Core.List.{List}
use Prim.Native.Nat.{ℕ, ◌+◌, ◌-◌, ◌*◌, ◌≤◌, ◌<◌}
use native.Mathlib.Nat.{mul-le-mul}
use lib.ListN.{length, get_or}
use Rattle.semigroups.specs.Tables.{product, Element, Filled}
use Rattle.semigroups.proofs.Tables.{place_below}

pub square_small : (n : ℕ) → n ≤ 120 → n * n ≤ 14400
square_small n h = mul-le-mul h h

module _ (n : ℕ) (cells : List ℕ) (f : Filled n cells) (i j : ℕ) (hi : Element n i) (hj : Element n j) where
  pub place_in : (i - 1) * n + (j - 1) < length cells
  place_in = rw f.size (place_below n n i j hi hj)

  pub product_found : get_or cells ((i - 1) * n + (j - 1)) 0 ≡ product n cells i j
  unfolding product
  product_found = refl

  pub found_element : Element n (get_or cells ((i - 1) * n + (j - 1)) 0)
  found_element = f.in_range ((i - 1) * n + (j - 1)) place_in
