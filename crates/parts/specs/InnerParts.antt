-- What is kept while the table of a part is written: which elements are marked, and the number of each. Assumes nothing.
use Rattle.std.specs.Prelude.{cond, ℕ, eqb, get_or}
use mathlib.Core.List.{List, map, Memᴰ}
use Rattle.semigroups.specs.Lists.{range, elements, keep, member}
use Rattle.semigroups.specs.InnerLists.{NoRepeats}
use Rattle.semigroups.specs.Tables.{Product}
use Rattle.semigroups.specs.InnerGenerated.{Inside}
use Rattle.semigroups.specs.Subsemigroups.{number_in}

-- The elements of a table of order n that an array marks, in rising order.
unfoldable pub marked_elements : ℕ → List ℕ → List ℕ
marked_elements n marks = keep (λ x. eqb (get_or marks x 0) 1) (elements n)

-- An array with a place for 0 and for each element of a table of any order: at x stands the number of x in the list, or 0 if x is not in it.
unfoldable pub numbering : List ℕ → List ℕ
numbering e = map (λ x. cond (member x e) (number_in e x) 0) (range 0 121)

-- The list holds elements of a table of order n, none of them twice, and every product of its own members.
pub record ClosedPart (n : ℕ) (s : Product) (e : List ℕ) : Type 0 where
  pub inside : Inside n e
  pub no_repeats : NoRepeats e
  pub closed : (x y : ℕ) → Memᴰ x e → Memᴰ y e → Memᴰ (s x y) e
