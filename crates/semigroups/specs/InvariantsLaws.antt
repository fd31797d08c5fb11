-- What index, period, idempotent power and profile are, in plain words (RULES 4).
-- Assumes nothing.
use Rattle.std.specs.Prelude.{◌≡◌, List, ℕ, ◌+◌, ◌≤◌, ◌<◌, length, get_or}
use Rattle.semigroups.specs.ListsLaws.{IsCount}
use Rattle.semigroups.specs.Tables.{Product, product, Element}
use Rattle.semigroups.specs.Invariants.{power, Profile}

-- ---- index and period

-- p and r are index and period of a (1603.06204, definition 3.2): the smallest values from 1 on such that power p + r equals power p.
pub record IsIndexPeriod (s : Product) (a p r : ℕ) : Type 0 where
  pub index_from_one : 1 ≤ p
  pub period_from_one : 1 ≤ r
  pub repeats : power s a (p + r) ≡ power s a p
  pub least_index : (p' r' : ℕ) → 1 ≤ p' → 1 ≤ r' → power s a (p' + r') ≡ power s a p' → p ≤ p'
  pub least_period : (p' r' : ℕ) → 1 ≤ p' → 1 ≤ r' → power s a (p' + r') ≡ power s a p' → r ≤ r'

-- ---- the idempotent power

-- e is a power of a, and e·e = e.
pub record IsIdempotentPower (s : Product) (a e : ℕ) : Type 0 where
  pub exponent : ℕ
  pub from_one : 1 ≤ exponent
  pub is_power : power s a exponent ≡ e
  pub idempotent : s e e ≡ e

-- e is the only such power: no other power of a, whatever its exponent, is one.
pub record TheIdempotentPower (s : Product) (a e : ℕ) : Type 0 where
  pub is_one : IsIdempotentPower s a e
  pub only : (d : ℕ) → IsIdempotentPower s a d → d ≡ e

-- v is the profile of element a of the table of order n with these cells: its index and period, its idempotent power, how often a stands in the whole table,
-- on the diagonal, in row a and in column a, and how many elements commute with a.
pub record IsProfile (n : ℕ) (cells : List ℕ) (a : ℕ) (v : Profile) : Type 0 where
  pub index_period_law : IsIndexPeriod (product n cells) a v.powers.index v.powers.period
  pub idempotent : IsIdempotentPower (product n cells) a v.powers.idempotent
  pub in_table : IsCount (λ k. (k < length cells) × (get_or cells k 0 ≡ a)) v.frequency
  pub on_diagonal : IsCount (λ i. Element n i × (product n cells i i ≡ a)) v.diagonal
  pub in_row_law : IsCount (λ j. Element n j × (product n cells a j ≡ a)) v.row
  pub in_column : IsCount (λ i. Element n i × (product n cells i a ≡ a)) v.column
  pub commute : IsCount (λ b. Element n b × (product n cells a b ≡ product n cells b a)) v.commuting
