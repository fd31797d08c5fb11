-- What the contracts say of the images placed and of the constraints. Assumes nothing.
use Rattle.std.specs.Prelude.{◌≡◌, cond, ◌&&◌, List, ℕ, suc, ◌-◌, ◌≤◌, ◌<◌, length, get_or, take, drop, replicate}
use Rattle.semigroups.specs.Lists.{elements, at, all, member}
use Rattle.semigroups.specs.Tables.{largest_order, Product, Element}
use Rattle.semigroups.specs.InnerSearch.{Placed}
use Rattle.constraints.specs.InnerConstraints.{image_product, asks, agree_on, cross, Written, Reads}

-- The images of the first `len` elements, followed by zeros, and which target elements they use.
pub record Placing (n : ℕ) (image used : List ℕ) (len : ℕ) : Type 0 where
  pub long : length image ≡ 120
  pub wide : length used ≡ 121
  pub fit : len ≤ largest_order
  pub padded : drop len image ≡ replicate (120 - len) 0
  pub placed : Placed n (take len image)
  pub uses : (y : ℕ) → y ≤ largest_order → get_or used y 0 ≡ cond (member y (take len image)) 1 0

-- The images of the first `len` elements, x as that of the next, and which target elements other than x they use.
pub record Trial (n : ℕ) (image used : List ℕ) (len x : ℕ) : Type 0 where
  pub long : length image ≡ 120
  pub wide : length used ≡ 121
  pub room : len < largest_order
  pub placed : (a : ℕ) → Element len a → Element n (at image a)
  pub element : Element n x
  pub uses : (y : ℕ) → y ≤ largest_order → (y ≡ x → ⊥) → get_or used y 0 ≡ cond (member y (take len image)) 1 0

-- The constraints hold what the pairs of the first k elements require, and what the pairs of element k + 1 with each of the first j elements require. This says
-- what stands at each place: 0 permits every element, an element permits itself alone, and 255 permits none.
pub record Tracks (s t : Product) (f : List ℕ) (k j : ℕ) (forced owner : List ℕ) : Type 0 where
  pub long : length forced ≡ 121
  pub wide : length owner ≡ 121
  pub forced_written : Written forced
  pub owner_written : Written owner
  pub required : Reads forced (λ c y. agree_on s (image_product t f) k c y && all (λ i. cross (asks s (image_product t f) c y) (suc k) i) (elements j))
  pub reserved : Reads owner (λ y c. agree_on (image_product t f) s k y c && all (λ i. cross (asks (image_product t f) s y c) (suc k) i) (elements j))
