-- The next class of an order: which file names it, and how a loop finds it. Assumes nothing.
use mathlib.Core.Path.{◌≡◌, ap, ◌∙◌}
use mathlib.Core.Bool.{Bool, true, false, ◌&&◌}
use mathlib.Core.Logic.{⊎_elim}
use mathlib.Core.List.{List}
use Prim.Native.Nat.{ℕ, ◌+◌, ◌≤◌, ◌<◌}
use native.Mathlib.Nat.{le_antisymm}
use native.Mathlib.Omega.{arith}
use borrow.Author.Tests.{ltb-true, lt-ltb, le-ltb}
use lib.Dec.{ltb}
use lib.ListN.{length}
use Rattle.semigroups.specs.Lists.{least}
use Rattle.semigroups.specs.Tables.{Element}
use Rattle.semigroups.proofs.Booleans.{clash, untrue, both, and_left, and_right, equal_or_not, at_most_or_above}
use Rattle.semigroups.proofs.Lists.{least_first, least_passes, least_bound}
use Rattle.progress.specs.Classes.{Note}
use Rattle.progress.specs.Output.{note}
use Rattle.progress.specs.Progress.{names_order, next_class}

module _ (notes : List Note) (n j : ℕ) where
  abbrev next : ℕ
  next = next_class notes n j

  pub next_bound : next ≤ length notes + 1
  unfolding next_class
  next_bound = least_bound (length notes) (λ i. ltb j i && names_order n i (note notes i))

  pub next_within : next ≤ length notes → Element (length notes) next × (j < next)
  unfolding next_class
  next_within h =
      let p = least_passes (length notes) (λ i. ltb j i && names_order n i (note notes i)) h in
      (p.0, ltb-true j next (and_left (ltb j next) (names_order n next (note notes next)) p.1))

  -- No class of that order lies between j and the next one.
  pub next_first : (i : ℕ) → Element (length notes) i → j < i → names_order n i (note notes i) ≡ true → next ≤ i
  unfolding next_class
  next_first i h b e = (least_first (length notes) (λ k. ltb j k && names_order n k (note notes k)) i h (both (ltb j i) (names_order n i (note notes i)) (lt-ltb j i b) e)).1

  -- ---- found from j + 1 on

  abbrev test : ℕ → Bool
  test k = ltb j k && names_order n k (note notes k)

  -- No file below i passes the test.
  abbrev pub NoneBelow : ℕ → Type 0
  NoneBelow i = (k : ℕ) → Element (length notes) k → k < i → test k ≡ false

  pub none_start : NoneBelow (j + 1)
  none_start k h b = untrue (test k) (λ e. clash (and_left (ltb j k) (names_order n k (note notes k)) e) (le-ltb j k (omega arith)))

  pub none_step : (i : ℕ) → NoneBelow i → names_order n i (note notes i) ≡ false → NoneBelow (i + 1)
  none_step i h e k u b =
      ⊎_elim (λ (q : k ≡ i). untrue (test k) (λ t. clash (and_right (ltb j k) (names_order n k (note notes k)) t) (ap (λ (x : ℕ). names_order n x (note notes x)) q ∙ e)))
      (λ (q : k ≡ i → ⊥). h k u (omega arith)) (equal_or_not k i)

  pub next_here : (i : ℕ) → NoneBelow i → Element (length notes) i → j < i → names_order n i (note notes i) ≡ true → i ≡ next
  unfolding next_class
  next_here i h u b e =
      let r = least_first (length notes) test i u (both (ltb j i) (names_order n i (note notes i)) (lt-ltb j i b) e) in
      le_antisymm (⊎_elim (λ (q : i ≤ least (length notes) test). q) (λ (q : least (length notes) test < i). absurd (clash r.2 (h (least (length notes) test) r.0 q))) (at_most_or_above i (least (length notes) test))) r.1

  pub next_end : (i : ℕ) → NoneBelow i → i ≡ length notes + 1 → i ≡ next
  unfolding next_class
  next_end i h e =
      let top = least_bound (length notes) test in
      ⊎_elim (λ (q : i ≤ least (length notes) test). let z : i ≡ least (length notes) test = omega arith in z)
      (λ (q : least (length notes) test < i).
      let p = least_passes (length notes) test (omega arith) in
      absurd (clash p.1 (h (least (length notes) test) p.0 q))) (at_most_or_above i (least (length notes) test))
