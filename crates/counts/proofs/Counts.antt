-- Counting over the cells of a row, a column and the diagonal, which stand a step apart. Assumes nothing.
use mathlib.Core.Path.{◌≡◌, ap, ap₂, ◌∙◌}
use mathlib.Core.List.{List}
use Prim.Native.Nat.{ℕ, suc, ◌+◌, ◌-◌, ◌*◌, ◌≤◌}
use native.Mathlib.Nat.{suc-mul, mul-le-mul_right, mul-suc}
use native.Mathlib.Numerals.{add-one}
use native.Mathlib.Omega.{arith}
use lib.Dec.{eqb}
use lib.ListN.{length, get_or, take, drop, length-drop}
use lib.Seq.{get_or-drop, take_all}
use Rattle.semigroups.specs.Tables.{product, Filled}
use Rattle.semigroups.specs.Invariants.{diagonal_frequency, row_frequency, column_frequency, commuting}
use Rattle.products.specs.InnerCounting.{occurrences, InRange}
use Rattle.products.proofs.Counting.{counted, count_elements}
-- The general laws of counting stand in `products`.
pub use Rattle.products.proofs.Counting.{count_elements_none, count_element_hit, count_element_miss, count_elements, frequency_at_most}

-- ---- the cells of a row, a column, the diagonal, the table

module _ (n : ℕ) (cells : List ℕ) where
  pub row_counted : (a : ℕ) → occurrences a 1 n (drop ((a - 1) * n) cells) ≡ row_frequency n (product n cells) a
  unfolding row_frequency product
  row_counted a =
      counted a 1 n (drop ((a - 1) * n) cells) (product n cells a)
      (λ i h. get_or-drop ((a - 1) * n) cells (i * 1) 0 ∙ ap (λ (k : ℕ). get_or cells ((a - 1) * n + k) 0) (let z : i * 1 ≡ suc i - 1 = omega arith in z))

  pub column_counted : (a : ℕ) → occurrences a n n (drop (a - 1) cells) ≡ column_frequency n (product n cells) a
  unfolding column_frequency product
  column_counted a =
      counted a n n (drop (a - 1) cells) (λ i. product n cells i a)
      (λ i h. get_or-drop (a - 1) cells (i * n) 0 ∙ ap (λ (k : ℕ). get_or cells k 0) (let e = ap (λ (j : ℕ). j * n) (let z : suc i - 1 ≡ i = omega arith in z) in let z : a - 1 + i * n ≡ (suc i - 1) * n + (a - 1) = omega arith in z))

  pub diagonal_counted : (a : ℕ) → occurrences a (n + 1) n cells ≡ diagonal_frequency n (product n cells) a
  unfolding diagonal_frequency product
  diagonal_counted a =
      counted a (n + 1) n cells (λ i. product n cells i i)
      (λ i h. ap (λ (k : ℕ). get_or cells k 0)
      (ap (λ (j : ℕ). i * j) (add-one n) ∙ mul-suc i n ∙ ap₂ (λ (x y : ℕ). x * n + y) (let z : i ≡ suc i - 1 = omega arith in z) (let z : i ≡ suc i - 1 = omega arith in z)))

  pub diagonal_at_most : (a : ℕ) → diagonal_frequency n (product n cells) a ≤ n
  unfolding diagonal_frequency
  diagonal_at_most a = count_elements n (λ i. eqb (product n cells i i) a)

  pub row_at_most : (a : ℕ) → row_frequency n (product n cells) a ≤ n
  unfolding row_frequency
  row_at_most a = count_elements n (λ j. eqb (product n cells a j) a)

  pub column_at_most : (a : ℕ) → column_frequency n (product n cells) a ≤ n
  unfolding column_frequency
  column_at_most a = count_elements n (λ i. eqb (product n cells i a) a)

  pub commuting_at_most : (a : ℕ) → commuting n (product n cells) a ≤ n
  unfolding commuting
  commuting_at_most a = count_elements n (λ b. eqb (product n cells a b) (product n cells b a))

-- ---- the cells lie in the table

pub diagonal_in_range : (n : ℕ) (cells : List ℕ) → Filled n cells → InRange n (n + 1) cells
diagonal_in_range n cells t i u =
    let le : suc i * n ≤ n * n = mul-le-mul_right n u in
    let e = t.size in
    let d = ap (λ (j : ℕ). i * j) (add-one n) ∙ mul-suc i n in
    omega (arith, suc-mul i n)

-- The part of a list that goes to its end is the list without its beginning.
pub part_to_end : (l : List ℕ) (at : ℕ) → take (length l - at) (drop at l) ≡ drop at l
part_to_end l at = take_all (length l - at) (drop at l) (rw length-drop (omega arith))
