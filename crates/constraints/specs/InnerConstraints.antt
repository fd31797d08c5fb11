-- The constraints by which a placing is tested through the products of the new element alone: for each source element the target element that the placed
-- pairs require as its image, and for each target element the source element for which they reserve it. Values are at most 120. Assumes nothing.
use Rattle.std.specs.Prelude.{◌≡◌, Bool, not, ◌&&◌, ◌||◌, cond, ◌⊎◌, List, ℕ, ◌-◌, ◌≤◌, max, eqb, length, get_or, set}
use Rattle.semigroups.specs.Lists.{elements, at, all}
use Rattle.semigroups.specs.Tables.{largest_order, Product, Element}
use Rattle.semigroups.specs.Trials.{fits}

-- Whether a constraint permits y: no value other than y is required. A constraint is 0 if nothing is required, else the one value that is required, or 255 if
-- two different values are.
abbrev pub permits : ℕ → ℕ → Bool
permits constraint y = eqb constraint 0 || eqb constraint y

-- The constraint once y is required as well.
abbrev pub merge : ℕ → ℕ → ℕ
merge constraint y = cond (permits constraint y) y 255

-- The constraints once y is required at a place as well.
abbrev pub asked_at : List ℕ → ℕ → ℕ → List ℕ
asked_at constraints place y = set constraints place (merge (get_or constraints place 0) y)

-- The product of the images of a and b.
abbrev pub image_product : Product → List ℕ → Product
image_product t f a b = t (at f a) (at f b)

-- Whether the pair a, b requires of c no value other than y: if its product by u is c, its product by v is y.
abbrev pub asks : Product → Product → ℕ → ℕ → ℕ → ℕ → Bool
asks u v c y a b = not (eqb (u a b) c) || eqb (v a b) y

-- Whether no pair of the first k elements requires of c a value other than y.
unfoldable pub agree_on : Product → Product → ℕ → ℕ → ℕ → Bool
agree_on u v k c y = all (λ a. all (λ b. asks u v c y a b) (elements k)) (elements k)

-- A test of both pairs that k and j make: k, j and j, k.
abbrev pub cross : (ℕ → ℕ → Bool) → ℕ → ℕ → Bool
cross p k j = p j k && p k j

-- Whether the pairs of the newest element of p fit.
unfoldable pub new_fits : Product → Product → List ℕ → Bool
new_fits s t p = all (λ j. cross (fits s t p) (length p) j) (elements (length p))

-- Whether the pair of the last two elements of p fits; if p has one element, that is its pair with itself.
unfoldable pub near_fits : Product → Product → List ℕ → Bool
near_fits s t p = fits s t p (max 1 (length p - 1)) (length p)

-- What stands in an array of constraints: 0 at place 0, which stands for no element; at every other place 0, an element, or 255.
pub record Written (constraints : List ℕ) : Type 0 where
  pub none : get_or constraints 0 0 ≡ 0
  pub values : (c : ℕ) → (get_or constraints c 0 ≤ largest_order) ⊎ (get_or constraints c 0 ≡ 255)

-- For each place c and value y, the constraint at c permits y exactly if q says so.
abbrev pub Reads : List ℕ → (ℕ → ℕ → Bool) → Type 0
Reads constraints q = (c y : ℕ) → Element largest_order c → Element largest_order y → permits (get_or constraints c 0) y ≡ q c y
