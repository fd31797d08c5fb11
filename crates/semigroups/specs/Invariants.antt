-- Invariants of an element (arXiv 1603.06204, sections 3 and 4; RULES 4): powers, index and period, idempotent power, profile.
-- Assumes nothing.
use Rattle.std.specs.Prelude.{Bool, ◌&&◌, ℕ, zero, suc, ◌+◌, eqb, leb}
use Rattle.semigroups.specs.Lists.{elements, sum, count, least}
use Rattle.semigroups.specs.Tables.{Product}

-- Power k of a: the first power is a, and each further power is the one before it times a. Power 0, which nothing asks for, is a too (RULES 4.1).
unfoldable pub power : Product → ℕ → ℕ → ℕ
power s a zero = a
power s a (suc zero) = a
power s a (suc (suc k)) = s (power s a (suc k)) a

-- ---- index and period

-- The first r from 1 to n such that power p + r of a equals power p, or n + 1 if there is none.
unfoldable pub period_from : ℕ → Product → ℕ → ℕ → ℕ
period_from n s a p = least n (λ r. eqb (power s a (p + r)) (power s a p))

-- The index of a: the exponent of the first power that comes back (RULES 4.2).
unfoldable pub index : ℕ → Product → ℕ → ℕ
index n s a = least n (λ p. leb (period_from n s a p) n)

-- The period of a: after how many further powers that power comes back (RULES 4.2).
unfoldable pub period : ℕ → Product → ℕ → ℕ
period n s a = period_from n s a (index n s a)

-- ---- the idempotent power

-- The first of the powers 1 to n of a that is its own square: the cue that a repeat settles on (RULES 4.3).
unfoldable pub idempotent_power : ℕ → Product → ℕ → ℕ
idempotent_power n s a = power s a (least n (λ k. eqb (s (power s a k) (power s a k)) (power s a k)))

-- ---- the index-period

-- The index and the period of an element, and its idempotent power (RULES 4.4).
pub record IndexPeriod : Type 0 where
  pub index : ℕ
  pub period : ℕ
  pub idempotent : ℕ

-- The index-period of element a.
unfoldable pub index_period : ℕ → Product → ℕ → IndexPeriod
index_period n s a = record { index = index n s a; period = period n s a; idempotent = idempotent_power n s a }

-- Whether two index-periods are equal (1603.06204, definition 3.3). The idempotent power is not compared, since it is an element and not a count
-- (RULES 4.4).
unfoldable pub same_index_period : IndexPeriod → IndexPeriod → Bool
same_index_period a b = eqb a.index b.index && eqb a.period b.period

-- ---- counts: frequencies (1603.06204, section 4) and commuting elements (RULES 4.5)

-- How often a stands in the whole table.
unfoldable pub frequency : ℕ → Product → ℕ → ℕ
frequency n s a = sum (λ i. count (λ j. eqb (s i j) a) (elements n)) (elements n)

-- How often a stands on the diagonal.
unfoldable pub diagonal_frequency : ℕ → Product → ℕ → ℕ
diagonal_frequency n s a = count (λ i. eqb (s i i) a) (elements n)

-- How often a stands in row a.
unfoldable pub row_frequency : ℕ → Product → ℕ → ℕ
row_frequency n s a = count (λ j. eqb (s a j) a) (elements n)

-- How often a stands in column a.
unfoldable pub column_frequency : ℕ → Product → ℕ → ℕ
column_frequency n s a = count (λ i. eqb (s i a) a) (elements n)

-- How many elements b have a·b = b·a.
unfoldable pub commuting : ℕ → Product → ℕ → ℕ
commuting n s a = count (λ b. eqb (s a b) (s b a)) (elements n)

-- ---- the profile

-- The profile of an element: its index-period and five counts, the last of which the paper does not have (1603.06204, definition 4.1; RULES 4.5).
pub record Profile : Type 0 where
  pub powers : IndexPeriod
  pub frequency : ℕ
  pub diagonal : ℕ
  pub row : ℕ
  pub column : ℕ
  pub commuting : ℕ

-- The profile of element a.
unfoldable pub profile : ℕ → Product → ℕ → Profile
profile n s a =
    record {
      powers = index_period n s a;
      frequency = frequency n s a;
      diagonal = diagonal_frequency n s a;
      row = row_frequency n s a;
      column = column_frequency n s a;
      commuting = commuting n s a;
    }

-- The profile with row and column counts exchanged (RULES 10.3).
abbrev pub exchanged : Profile → Profile
exchanged v = record { powers = v.powers; frequency = v.frequency; diagonal = v.diagonal; row = v.column; column = v.row; commuting = v.commuting }

-- Whether two profiles are equal (1603.06204, definition 4.1, and the count of commuting elements with it; RULES 4.5).
unfoldable pub same_profile : Profile → Profile → Bool
same_profile a b =
    same_index_period a.powers b.powers
    && (eqb a.frequency b.frequency
    && (eqb a.diagonal b.diagonal
    && (eqb a.row b.row
    && (eqb a.column b.column
    && eqb a.commuting b.commuting))))
