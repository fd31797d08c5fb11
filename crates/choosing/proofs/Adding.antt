-- Sums of the values of a function from some number upward, such as the weight of an element. Assumes nothing.
use mathlib.Core.Path.{◌≡◌, sym, ap, ◌∙◌}
use mathlib.Core.Bool.{cond}
use Prim.Native.Nat.{ℕ, suc, ◌+◌, ◌-◌, ◌≤◌, ◌<◌}
use native.Mathlib.Nat.{add-sub_cancel}
use native.Mathlib.Numerals.{add-one}
use native.Mathlib.Omega.{arith}
use lib.Dec.{eqb}
use Rattle.semigroups.specs.Lists.{range, elements, sum}
use Rattle.semigroups.specs.Tables.{Product}
use Rattle.choosing.specs.InnerNext.{weight}

-- The sum of g over x, .., n.
unfoldable pub sum_from : (ℕ → ℕ) → ℕ → ℕ → ℕ
sum_from g n x = sum g (range x (n + 1 - x))

module _ (g : ℕ → ℕ) (n : ℕ) where
  pub sum_step : (x : ℕ) → x ≤ n → sum_from g n x ≡ g x + sum_from g n (x + 1)
  unfolding sum_from sum range
  sum_step x h =
      let e : n + 1 - x ≡ suc (n + 1 - (x + 1)) = omega arith in
      ap (λ (k : ℕ). sum g (range x k)) e ∙ ap (λ (y : ℕ). g x + sum g (range y (n + 1 - (x + 1)))) (sym (add-one x))

  pub sum_past : (x : ℕ) → n < x → sum_from g n x ≡ 0
  unfolding sum_from sum range
  sum_past x h = ap (λ (k : ℕ). sum g (range x k)) (let e : n + 1 - x ≡ 0 = omega arith in e)

-- How many of the two products of c and b differ from the square of c.
abbrev pub differing : Product → ℕ → ℕ → ℕ
differing s c b = cond (eqb (s c b) (s c c)) 0 1 + cond (eqb (s b c) (s c c)) 0 1

pub weight_from : (m : ℕ) (s : Product) (c : ℕ) → sum_from (differing s c) m 1 ≡ weight m s c
unfolding weight sum_from elements
weight_from m s c = ap (λ (k : ℕ). sum (differing s c) (range 1 k)) (add-sub_cancel m 1)
