-- Counting: with one more number, over the places of a list, over cells that stand a step apart, and over a whole table. Assumes nothing.
use mathlib.Core.Path.{◌≡◌, refl, sym, ap, ap₂, ◌∙◌}
use mathlib.Core.Bool.{Bool, true, false, cond}
use mathlib.Core.List.{List, [], ◌∷◌}
use Prim.Native.Nat.{ℕ, zero, suc, ◌+◌, ◌-◌, ◌*◌, ◌≤◌, ◌<◌}
use native.Mathlib.Numerals.{add-one}
use native.Mathlib.Omega.{arith}
use borrow.Author.Tests.{eq-eqb, ne_eqb}
use lib.Dec.{eqb}
use lib.ListN.{length, get_or}
use Rattle.semigroups.specs.Lists.{range, elements, sum, count}
use Rattle.semigroups.specs.Tables.{product, Filled}
use Rattle.semigroups.specs.Invariants.{frequency}
use Rattle.semigroups.proofs.Lists.{length_range, range_snoc}
use Rattle.semigroups.proofs.Sums.{sum_append, count_same, count_at_most}
use Rattle.semigroups.proofs.Frequencies.{frequency_cells}
use Rattle.products.specs.InnerCounting.{occurrences, InRange}
use Rattle.products.proofs.Products.{square_small}

-- ---- numbers in a row

-- What a loop that counts has found after k numbers from i on, and after one more.
module _ (p : ℕ → Bool) (i : ℕ) where
  pub count_none : count p (range i 0) ≡ 0
  unfolding count sum range
  count_none = refl

  count_more : (k : ℕ) → count p (range i (k + 1)) ≡ count p (range i k) + cond (p (i + k)) 1 0
  unfolding count
  count_more k =
      ap (λ (j : ℕ). sum (λ x. cond (p x) 1 0) (range i j)) (add-one k) ∙ ap (sum (λ x. cond (p x) 1 0)) (range_snoc i k)
      ∙ sum_append (λ x. cond (p x) 1 0) (range i k) ((i + k) ∷ []) ∙ ap (λ (r : ℕ). sum (λ x. cond (p x) 1 0) (range i k) + r) (last (i + k))
    where
      last : (x : ℕ) → sum (λ y. cond (p y) 1 0) (x ∷ []) ≡ cond (p x) 1 0
      last x = unfold sum in let z : cond (p x) 1 0 + 0 ≡ cond (p x) 1 0 = omega arith in z

  module _ (k x : ℕ) (e : x ≡ i + k) where
    pub count_hit : p x ≡ true → count p (range i (k + 1)) ≡ count p (range i k) + 1
    count_hit t = count_more k ∙ ap (λ (b : Bool). count p (range i k) + cond b 1 0) (ap p (sym e) ∙ t)

    pub count_miss : p x ≡ false → count p (range i (k + 1)) ≡ count p (range i k)
    count_miss t =
        count_more k ∙ ap (λ (b : Bool). count p (range i k) + cond b 1 0) (ap p (sym e) ∙ t)
        ∙ (let z : count p (range i k) + 0 ≡ count p (range i k) = omega arith in z)

  pub count_below : (k : ℕ) → count p (range i k) ≤ k
  count_below k = let h = count_at_most p (range i k) in omega (arith, length_range i k)

-- The same for a loop over the elements that has reached b.
module _ (p : ℕ → Bool) (b : ℕ) (h : 1 ≤ b) where
  pub count_element_hit : p b ≡ true → count p (elements (b + 1 - 1)) ≡ count p (elements (b - 1)) + 1
  unfolding elements
  count_element_hit t = ap (λ (k : ℕ). count p (range 1 k)) (let z : b + 1 - 1 ≡ b - 1 + 1 = omega arith in z) ∙ count_hit p 1 (b - 1) b (omega arith) t

  pub count_element_miss : p b ≡ false → count p (elements (b + 1 - 1)) ≡ count p (elements (b - 1))
  unfolding elements
  count_element_miss t = ap (λ (k : ℕ). count p (range 1 k)) (let z : b + 1 - 1 ≡ b - 1 + 1 = omega arith in z) ∙ count_miss p 1 (b - 1) b (omega arith) t

pub count_elements_none : (p : ℕ → Bool) → count p (elements 0) ≡ 0
unfolding elements
count_elements_none p = count_none p 1

-- A count over the elements is at most n.
pub count_elements : (n : ℕ) (p : ℕ → Bool) → count p (elements n) ≤ n
unfolding elements
count_elements n p = count_below p 1 n

-- A count stays the same if the numbers and the test are both shifted by one.
count_shift : (p q : ℕ → Bool) (i k : ℕ) → ((j : ℕ) → i ≤ j → j < i + k → p j ≡ q (suc j)) → count p (range i k) ≡ count q (range (suc i) k)
unfolding count sum range
count_shift p q i zero h = refl
count_shift p q i (suc k) h =
    ap₂ (λ (b : Bool) (r : ℕ). cond b 1 0 + r) (h i (omega arith) (omega arith)) (count_shift p q (suc i) k (λ j lo hi. h j (omega arith) (omega arith)))

-- A count over the places of a list is a count over its entries.
count_places : (p : ℕ → Bool) (l : List ℕ) → count (λ i. p (get_or l i 0)) (range 0 (length l)) ≡ count p l
unfolding count sum range
count_places p [] = refl
count_places p (x ∷ l) =
    ap (λ (r : ℕ). cond (p x) 1 0 + r) (sym (count_shift (λ i. p (get_or l i 0)) (λ i. p (get_or (x ∷ l) i 0)) 0 (length l) (λ j lo hi. refl)) ∙ count_places p l)

-- ---- cells a step apart

module _ (a step : ℕ) (cells : List ℕ) where
  pub occurs_none : occurrences a step 0 cells ≡ 0
  unfolding occurrences
  occurs_none = count_none (λ i. eqb (get_or cells (i * step) 0) a) 0

  pub occurs : (i : ℕ) → get_or cells (i * step) 0 ≡ a → occurrences a step (i + 1) cells ≡ occurrences a step i cells + 1
  unfolding occurrences
  occurs i e = count_hit (λ j. eqb (get_or cells (j * step) 0) a) 0 i i (omega arith) (eq-eqb (get_or cells (i * step) 0) a e)

  pub occurs_not : (i : ℕ) → (get_or cells (i * step) 0 ≡ a → ⊥) → occurrences a step (i + 1) cells ≡ occurrences a step i cells
  unfolding occurrences
  occurs_not i ne = count_miss (λ j. eqb (get_or cells (j * step) 0) a) 0 i i (omega arith) (ne_eqb (get_or cells (i * step) 0) a ne)

  pub occurs_at_most : (k : ℕ) → occurrences a step k cells ≤ k
  unfolding occurrences
  occurs_at_most k = count_below (λ i. eqb (get_or cells (i * step) 0) a) 0 k

-- If cells a step apart are the values of w at the elements, counting these cells is counting those values.
pub counted : (a step k : ℕ) (cells : List ℕ) (w : ℕ → ℕ) → ((i : ℕ) → i < k → get_or cells (i * step) 0 ≡ w (suc i)) → occurrences a step k cells ≡ count (λ i. eqb (w i) a) (elements k)
unfolding occurrences elements
counted a step k cells w h =
    count_shift (λ i. eqb (get_or cells (i * step) 0) a) (λ i. eqb (w i) a) 0 k (λ j lo hi. ap (λ (x : ℕ). eqb x a) (h j (omega arith)))

-- ---- the cells of a table

module _ (n : ℕ) (cells : List ℕ) where
  pub table_counted : length cells ≡ n * n → (a : ℕ) → occurrences a 1 (length cells) cells ≡ frequency n (product n cells) a
  unfolding occurrences
  table_counted size a =
      count_same (λ i. eqb (get_or cells (i * 1) 0) a) (λ i. eqb (get_or cells i 0) a) (range 0 (length cells)) (λ i m. ap (λ (k : ℕ). eqb (get_or cells k 0) a) (let z : i * 1 ≡ i = omega arith in z))
      ∙ count_places (λ x. eqb x a) cells ∙ sym (frequency_cells n cells size a)

  module _ (t : Filled n cells) where
    pub cells_at_most : length cells ≤ 14400
    cells_at_most = let e = t.size in omega (arith, square_small n t.order.1)

    pub frequency_at_most : (a : ℕ) → frequency n (product n cells) a ≤ 14400
    frequency_at_most a = let c = count_at_most (λ x. eqb x a) cells in let e = frequency_cells n cells t.size a in omega (arith, cells_at_most)

    pub table_in_range : InRange (length cells) 1 cells
    table_in_range i u = omega arith
