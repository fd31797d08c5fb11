-- Arrays with a place for each element of a table of any order, and which invariants they hold. Assumes nothing.
use Rattle.std.specs.Prelude.{◌≡◌, ℕ}
use Rattle.semigroups.specs.Tables.{Product}
use Rattle.semigroups.specs.Invariants as marks
use Rattle.invariants.specs.declared.IndexPeriodKeys.{IndexPeriodKeys}
use Rattle.products.specs.InnerPerElement.{per_element}

-- The arrays hold what is compared of every element: its index and its period. The idempotent power is not compared.
pub record AllIndexPeriodKeys (n : ℕ) (s : Product) (r : IndexPeriodKeys) : Type 0 where
  pub index : r.index ≡ per_element n (marks.index n s)
  pub period : r.period ≡ per_element n (marks.period n s)
