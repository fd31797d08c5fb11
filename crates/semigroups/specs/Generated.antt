-- What a list of elements generates (RULES 15.1 and 16.1): the smallest set that contains the list and every product of its own members. The product need not
-- be associative. If it is, this set is the subsemigroup that the list generates (East, Egri-Nagy and Mitchell, arXiv 1403.0274, section 2).
-- Assumes nothing.
use mathlib.Core.List.{List, ◌++◌, map, flat_map}
use Rattle.std.specs.Prelude.{ℕ, zero, suc}
use Rattle.semigroups.specs.Lists.{elements, keep, member}
use Rattle.semigroups.specs.Tables.{Product}

-- The elements of a table of order n that stand in the list, each once, in rising order.
unfoldable pub set_of : ℕ → List ℕ → List ℕ
set_of n l = keep (λ x. member x l) (elements n)

-- The products of any two entries of the list, those of an entry with itself included.
unfoldable pub products : Product → List ℕ → List ℕ
products s r = flat_map (λ x. map (s x) r) r

-- The set that a list grows to in this many steps; each step adds the products of two members.
unfoldable pub grown : ℕ → Product → List ℕ → ℕ → List ℕ
grown n s l zero = set_of n l
grown n s l (suc k) = let r = grown n s l k in set_of n (r ++ products s r)

-- The elements that the list generates, in rising order. A step that adds anything adds at least one of the n elements, so n steps are enough.
unfoldable pub generated : ℕ → Product → List ℕ → List ℕ
generated n s l = grown n s l n
