-- The generators that question 4 chooses for itself, and the answer of Light's associativity test with them. Of the elements that are not products of the
-- list, the one that is rarest in the table joins the list, and of equally rare ones the smallest; a list that would be longer than n / 4 is given up.
-- Assumes nothing.
use Rattle.std.specs.Prelude.{◌≡◌, Bool, true, false, cond, ◌⊎◌, ℕ, ◌/◌, ◌≤◌, ◌<◌, take, get_or, Option as Optional, None, Some}
use mathlib.Core.List.{List, Memᴰ}
use Rattle.semigroups.specs.Lists.{elements, all}
use Rattle.semigroups.specs.Tables.{Product, Element, associates}
use Rattle.semigroups.specs.Invariants.{frequency}
use Rattle.semigroups.specs.InnerGenerated.{LeftProduct}

-- ---- products from left to right

-- The elements found, r, are the products from left to right of entries of the list, in a sequence that no definition fixes.
pub record FoundProducts (s : Product) (l r : List ℕ) : Type 0 where
  pub products_alone : (x : ℕ) → Memᴰ x r → LeftProduct s l x
  pub all_products : (x : ℕ) → LeftProduct s l x → Memᴰ x r

-- ---- the choice

-- Of the elements with the property Free, x has the least weight, and is the smallest that has this weight.
pub record Rarest (n : ℕ) (weight : ℕ → ℕ) (Free : ℕ → Type 0) (x : ℕ) : Type 0 where
  pub element : Element n x
  pub free : Free x
  pub before_others : (y : ℕ) → Element n y → Free y → (weight x < weight y) ⊎ ((weight x ≡ weight y) × (x ≤ y))

-- The optional value is that element; or it is none, and no element has the property.
abbrev pub RarestOrNone : ℕ → (ℕ → ℕ) → (ℕ → Type 0) → Optional ℕ → Type 0
RarestOrNone n weight Free (Some x) = Rarest n weight Free x
RarestOrNone n weight Free None = (y : ℕ) → Element n y → Free y → ⊥

-- Each of the first `count` entries of the list is the rarest element that is not a product of the entries before it; zeros follow.
pub record RarestFirst (n : ℕ) (s : Product) (list : List ℕ) (count : ℕ) : Type 0 where
  pub entries : (k : ℕ) → k < count → Rarest n (frequency n s) (λ y. LeftProduct s (take k list) y → ⊥) (get_or list k 0)
  pub zeros_after : (k : ℕ) → count ≤ k → get_or list k 0 ≡ 0

-- The generators chosen. They are complete if every element is a product of them; if they are not, there are n / 4 of them, and some element is not a product
-- of them.
pub record Choice (n : ℕ) (s : Product) (list : List ℕ) (count : ℕ) (complete : Bool) : Type 0 where
  pub few : count ≤ n / 4
  pub rarest_first : RarestFirst n s list count
  pub enough : complete ≡ true → (x : ℕ) → Element n x → LeftProduct s (take count list) x
  pub given_up : complete ≡ false → (count ≡ n / 4) × (x : ℕ) × Element n x × (LeftProduct s (take count list) x → ⊥)

-- Generators that are given up.
abbrev pub GivenUp : ℕ → Product → Type 0
GivenUp n s = (list : List ℕ) × (count : ℕ) × Choice n s list count false

-- ---- the triples

-- Whether (i·j)·k = i·(j·k) for every i and k.
unfoldable pub good_middle : ℕ → Product → ℕ → Bool
good_middle n s j = all (λ i. all (associates s i j) (elements n)) (elements n)

-- The answer of Light's test: "yes" if every triple associates whose middle is one of the generators chosen or, where they are not complete, any element.
pub record LightsAnswer (n : ℕ) (s : Product) (answer : Bool) : Type 0 where
  pub list : List ℕ
  pub count : ℕ
  pub complete : Bool
  pub choice : Choice n s list count complete
  pub answered : answer ≡ all (good_middle n s) (cond complete (take count list) (elements n))
