-- What is claimed of the elements that a list generates (RULES 15.1 and 16.1): they are the smallest set.
-- Assumes nothing.
use Rattle.std.specs.Prelude.{◌≡◌, true, ◌↔◌, ℕ}
use mathlib.Core.List.{List, Memᴰ}
use Rattle.semigroups.specs.Lists.{member}
use Rattle.semigroups.specs.Tables.{Product}
use Rattle.semigroups.specs.TablesLaws.{Closed}
use Rattle.semigroups.specs.Generated.{generated}
use Rattle.semigroups.specs.InnerGenerated.{Inside}

-- The set P contains the list and every product of its own members.
pub record HoldsProducts (s : Product) (l : List ℕ) (P : ℕ → Type 0) : Type 0 where
  pub holds_list : (x : ℕ) → Memᴰ x l → P x
  pub holds_products : (x y : ℕ) → P x → P y → P (s x y)

-- P is the smallest such set: it lies inside every other.
pub record Smallest (s : Product) (l : List ℕ) (P : ℕ → Type 0) : Type 1 where
  pub holds : HoldsProducts s l P
  pub inside_others : (Q : ℕ → Type 0) → HoldsProducts s l Q → (x : ℕ) → P x → Q x

-- The list `generated` is that set: it is the smallest, and x stands in the list exactly if x is in the smallest set.
pub record Computes (n : ℕ) (s : Product) (l : List ℕ) : Type 1 where
  pub smallest : Smallest s l (λ x. Memᴰ x (generated n s l))
  pub agrees : (P : ℕ → Type 0) → Smallest s l P → (x : ℕ) → (member x (generated n s l) ≡ true) ↔ P x

-- What `Computes` claims holds for every product that stays within the order, associative or not, and every list of elements.
abbrev pub GeneratedTheorem : Type 1
GeneratedTheorem = (n : ℕ) (s : Product) (l : List ℕ) → Closed n s → Inside n l → Computes n s l
