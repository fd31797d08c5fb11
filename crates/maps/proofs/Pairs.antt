-- The earliest pair that passes a test, as two nested loops find it: what is left of the search from the first entry i on, and from the pair i, j on.
-- Assumes nothing.
use mathlib.Core.Path.{◌≡◌}
use mathlib.Core.Bool.{Bool, true, false}
use mathlib.Core.List.{List, [], ◌∷◌}
use mathlib.Core.Option.{Option, none, some}
use Prim.Native.Nat.{ℕ, ◌+◌, ◌≤◌, ◌<◌}
use Rattle.semigroups.specs.Lists.{find, lists}
use Rattle.semigroups.specs.Tables.{Element}
use Rattle.products.proofs.Remaining.{remaining, begin, enter, skip, pass, hit, leave}

module _ (test : List ℕ → Bool) (m : ℕ) where
  unfoldable pub from_first : ℕ → Option (List ℕ)
  from_first i = remaining test m 1 [] i none

  unfoldable pub from_pair : ℕ → ℕ → Option (List ℕ)
  from_pair i j = remaining test m 0 (i ∷ []) j (from_first (i + 1))

  pub pairs_begin : find test (lists 2 m) ≡ from_first 1
  unfolding from_first
  pairs_begin = begin test m 1

  pub first_enter : (i : ℕ) → i ≤ m → from_first i ≡ from_pair i 1
  unfolding from_first from_pair
  first_enter i h = enter test m 0 [] i none h

  -- If no pair i, j with j up to k passes, the search goes on after k.
  pub pair_skip : (i k : ℕ) → k ≤ m → ((j : ℕ) → Element k j → test (i ∷ j ∷ []) ≡ false) → from_pair i 1 ≡ from_pair i (k + 1)
  unfolding from_pair
  pair_skip i k h e = skip test m (i ∷ []) (from_first (i + 1)) k h e

  pub pair_pass : (i j : ℕ) → j ≤ m → test (i ∷ j ∷ []) ≡ false → from_pair i j ≡ from_pair i (j + 1)
  unfolding from_pair
  pair_pass i j h e = pass test m (i ∷ []) j (from_first (i + 1)) h e

  pub pair_hit : (i j : ℕ) → j ≤ m → test (i ∷ j ∷ []) ≡ true → from_pair i j ≡ some (i ∷ j ∷ [])
  unfolding from_pair
  pair_hit i j h e = hit test m (i ∷ []) j (from_first (i + 1)) h e

  pub pair_leave : (i j : ℕ) → m < j → from_pair i j ≡ from_first (i + 1)
  unfolding from_pair
  pair_leave i j h = leave test m 0 (i ∷ []) j (from_first (i + 1)) h

  pub pairs_end : (i : ℕ) → m < i → from_first i ≡ none
  unfolding from_first
  pairs_end i h = leave test m 1 [] i none h
