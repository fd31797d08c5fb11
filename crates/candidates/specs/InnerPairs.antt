-- The numbers of the pairs of a source and a target element: the pairs are marked in the sequence of these numbers; and what a test of a pair decides.
-- Assumes nothing.
use Rattle.std.specs.Prelude.{◌≡◌, Bool, ℕ, ◌≤◌}
use Rattle.semigroups.specs.Tables.{cell_place, Element}

-- The pair i, j has number k, counted from 0, where there are n target elements.
pub record PairAt (n k i j : ℕ) : Type 0 where
  pub number : cell_place n i j ≡ k
  pub row : 1 ≤ i
  pub column : Element n j

-- A test may be asked about every pair of one of m source and one of n target elements.
abbrev pub MayAsk : ℕ → ℕ → (ℕ → ℕ → Type 0) → Type 0
MayAsk m n Asked = (i j : ℕ) → Element m i → Element n j → Asked i j

-- What a test may answer about such a pair is p of the pair.
abbrev pub Decides : ℕ → ℕ → (ℕ → ℕ → Bool → Type 0) → (ℕ → ℕ → Bool) → Type 0
Decides m n Answers p = (i j : ℕ) (r : Bool) → Element m i → Element n j → Answers i j r → r ≡ p i j
