-- What the second search uses: lists by their number, and the test of a pair of elements (RULES 5). Assumes nothing.
use Rattle.std.specs.Prelude.{Bool, ◌&&◌, ◌||◌, not, List, [], ℕ, eqb, get_or}
use Rattle.semigroups.specs.Lists.{at, lists}
use Rattle.semigroups.specs.Tables.{Product}

-- List number k, counted from 0, of all lists of m entries from 1 to n.
unfoldable pub numbered : ℕ → ℕ → ℕ → List ℕ
numbered m n k = get_or (lists m n) k []

-- Whether the image of the product of the two elements is the product of their images and, if the two differ, their images differ too.
unfoldable pub keeps : Product → Product → List ℕ → List ℕ → Bool
keeps s t f l =
    let products = eqb (at f (s (at l 1) (at l 2))) (t (at f (at l 1)) (at f (at l 2))) in
    (eqb (at l 1) (at l 2) || not (eqb (at f (at l 1)) (at f (at l 2)))) && products
