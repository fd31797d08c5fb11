-- Frequencies of elements and how many elements commute with one: what frequencies sum to, what an isomorphism keeps, and how frequencies are counted
-- over the cells of a table. The idea: a sum over all elements is one over their images. Assumes nothing.
use mathlib.Core.Path.{◌≡◌, sym, ap, ap₂, ◌∙◌, subst}
use mathlib.Core.Bool.{true, cond}
use mathlib.Core.Logic.{◌⊎◌, inl, inr}
use mathlib.Core.List.Memᴰ
use mathlib.Core.List.{List, ◌++◌, map, flat_map, Memᴰ}
use Prim.Native.Nat.{ℕ, zero, suc, ◌+◌, ◌-◌, ◌*◌, ◌≤◌, ◌<◌}
use native.Mathlib.Nat.{le_antisymm, suc-mul, mul-le-mul_right}
use native.Mathlib.Omega.{arith}
use borrow.Author.Tests.{eq-eqb, ne_eqb}
use lib.Dec.{eqb}
use lib.ListN.{length, get_or, take, drop, length-map, length-drop, take-append-drop, drop_of_length-le}
use lib.Seq.{ext_get_or, get_or-take, get_or-drop, length-take-le, drop-drop}
use Rattle.semigroups.specs.Lists.{range, elements, at, sum, count}
use Rattle.semigroups.specs.InnerLists.{NoRepeats}
use Rattle.semigroups.specs.Tables.{Product, product, grid, Element}
use Rattle.semigroups.specs.TablesLaws.{Closed}
use Rattle.semigroups.specs.Invariants.{frequency, diagonal_frequency, row_frequency, column_frequency, commuting, profile, same_profile}
use Rattle.semigroups.specs.InnerMaps.{Embedding}
use Rattle.semigroups.proofs.Booleans.{equal_or_not}
use Rattle.semigroups.proofs.Lists.{length_elements, mem_elements, elements_mem, get_d_map, at_elements, at_suc}
use Rattle.semigroups.proofs.NoRepeats.{sum_inside, map_no_repeats, elements_no_repeats, onto}
use Rattle.semigroups.proofs.Sums.{sum_same, count_same, sum_constant, sum_map, count_map, sum_flat_map, sum_swap, count_element}
use Rattle.semigroups.proofs.IndexPeriod.{index_period_kept}

-- ---- the sums over all elements

-- Each entry of a list is counted for exactly one element, so the counts of all elements sum to the length of the list.
sum_counts : {A : Type 0} (n : ℕ) (g : A → ℕ) (l : List A) → ((x : A) → Memᴰ x l → Element n (g x)) → sum (λ a. count (λ x. eqb (g x) a) l) (elements n) ≡ length l
unfolding count
sum_counts n g l h =
    sum_swap (λ a x. cond (eqb (g x) a) 1 0) (elements n) l ∙ sum_same (λ x. count (eqb (g x)) (elements n)) (λ x. 1) l (λ x m. count_element n (g x) (h x m))
    ∙ sum_constant 1 l ∙ (let z : length l * 1 ≡ length l = omega arith in z)

module _ (n : ℕ) (s : Product) (c : Closed n s) where
  -- The frequencies of all elements sum to n × n.
  pub frequencies_sum : sum (frequency n s) (elements n) ≡ n * n
  unfolding frequency
  frequencies_sum =
      sum_swap (λ a i. count (λ j. eqb (s i j) a) (elements n)) (elements n) (elements n)
      ∙ sum_same (λ i. sum (λ a. count (λ j. eqb (s i j) a) (elements n)) (elements n)) (λ i. n) (elements n)
      (λ i m. sum_counts n (s i) (elements n) (λ j k. c i j (mem_elements n i m) (mem_elements n j k)) ∙ length_elements n)
      ∙ sum_constant n (elements n) ∙ ap (λ (k : ℕ). k * n) (length_elements n)

  -- The frequencies on the diagonal sum to n.
  pub diagonal_frequencies_sum : sum (diagonal_frequency n s) (elements n) ≡ n
  unfolding diagonal_frequency
  diagonal_frequencies_sum = sum_counts n (λ i. s i i) (elements n) (λ i m. c i i (mem_elements n i m) (mem_elements n i m)) ∙ length_elements n

-- ---- an isomorphism keeps the counts

module _ (n : ℕ) (s t : Product) (f : List ℕ) (F : Embedding n s n t f) where
  -- A sum over all elements equals the sum over their images.
  pub sum_images : (w : ℕ → ℕ) → sum (λ i. w (at f i)) (elements n) ≡ sum w (elements n)
  sum_images w = sym (sum_map w (at f) (elements n)) ∙ le_antisymm (sum_inside w images (elements n) apart into) (sum_inside w (elements n) images (elements_no_repeats n) out)
    where
      images : List ℕ
      images = map (at f) (elements n)

      apart : NoRepeats images
      apart = map_no_repeats (at f) (elements n) (elements_no_repeats n) (λ a b p q e. F.one_to_one a b (mem_elements n a p) (mem_elements n b q) e)

      into : (y : ℕ) → Memᴰ y images → Memᴰ y (elements n)
      into y m = let r = Memᴰ.of_map (at f) (elements n) m in elements_mem n y (subst (Element n) r.2 (F.homomorphism.within r.0 (mem_elements n r.0 r.1)))

      out : (y : ℕ) → Memᴰ y (elements n) → Memᴰ y images
      out y m =
          let o = onto n f F.homomorphism.size F.homomorphism.within F.one_to_one y (mem_elements n y m) in
          Memᴰ.cast (sym o.2) (Memᴰ.map (at f) (elements_mem n o.0 o.1))

  -- Two images are equal exactly if the elements are.
  same_image : (x y : ℕ) → Element n x → Element n y → eqb (at f x) (at f y) ≡ eqb x y
  same_image x y hx hy = go (equal_or_not x y)
    where
      go : (x ≡ y) ⊎ (x ≡ y → ⊥) → eqb (at f x) (at f y) ≡ eqb x y
      go (inl e) = eq-eqb (at f x) (at f y) (ap (at f) e) ∙ sym (eq-eqb x y e)
      go (inr ne) = ne_eqb (at f x) (at f y) (λ e. ne (F.one_to_one x y hx hy e)) ∙ sym (ne_eqb x y ne)

  module _ (c : Closed n s) (a : ℕ) (h : Element n a) where
    -- As many x have g x = a as have g' x = f a, if f takes g x to g' of the image of x.
    count_kept : (g g' : ℕ → ℕ) → ((x : ℕ) → Element n x → Element n (g x)) → ((x : ℕ) → Element n x → at f (g x) ≡ g' (at f x))
        → count (λ x. eqb (g' x) (at f a)) (elements n) ≡ count (λ x. eqb (g x) a) (elements n)
    unfolding count
    count_kept g g' w e =
        sym (sum_images (λ x. cond (eqb (g' x) (at f a)) 1 0))
        ∙ count_same (λ x. eqb (g' (at f x)) (at f a)) (λ x. eqb (g x) a) (elements n)
        (λ x m. ap (λ (y : ℕ). eqb y (at f a)) (sym (e x (mem_elements n x m))) ∙ same_image (g x) a (w x (mem_elements n x m)) h)

    pub diagonal_frequency_kept : diagonal_frequency n t (at f a) ≡ diagonal_frequency n s a
    unfolding diagonal_frequency
    diagonal_frequency_kept = count_kept (λ i. s i i) (λ i. t i i) (λ x k. c x x k k) (λ x k. F.homomorphism.keeps_product x x k k)

    pub row_frequency_kept : row_frequency n t (at f a) ≡ row_frequency n s a
    unfolding row_frequency
    row_frequency_kept = count_kept (λ j. s a j) (λ j. t (at f a) j) (λ x k. c a x h k) (λ x k. F.homomorphism.keeps_product a x h k)

    pub column_frequency_kept : column_frequency n t (at f a) ≡ column_frequency n s a
    unfolding column_frequency
    column_frequency_kept = count_kept (λ i. s i a) (λ i. t i (at f a)) (λ x k. c x a k h) (λ x k. F.homomorphism.keeps_product x a k h)

    pub frequency_kept : frequency n t (at f a) ≡ frequency n s a
    unfolding frequency
    frequency_kept =
        sym (sum_images (λ i. count (λ j. eqb (t i j) (at f a)) (elements n)))
        ∙ sum_same (λ i. count (λ j. eqb (t (at f i) j) (at f a)) (elements n)) (λ i. count (λ j. eqb (s i j) a) (elements n)) (elements n)
        (λ i m. count_kept (λ j. s i j) (λ j. t (at f i) j) (λ x k. c i x (mem_elements n i m) k) (λ x k. F.homomorphism.keeps_product i x (mem_elements n i m) k))

    pub commuting_kept : commuting n t (at f a) ≡ commuting n s a
    unfolding commuting count
    commuting_kept =
        let keeps = F.homomorphism.keeps_product in
        sym (sum_images (λ b. cond (eqb (t (at f a) b) (t b (at f a))) 1 0))
        ∙ count_same (λ b. eqb (t (at f a) (at f b)) (t (at f b) (at f a))) (λ b. eqb (s a b) (s b a)) (elements n)
        (λ b m.
        let k = mem_elements n b m in
        ap₂ eqb (sym (keeps a b h k)) (sym (keeps b a k h)) ∙ same_image (s a b) (s b a) (c a b h k) (c b a k h))

    -- An isomorphism keeps what is compared of a profile.
    pub profile_kept : Closed n t → same_profile (profile n s a) (profile n t (at f a)) ≡ true
    unfolding profile same_profile
    profile_kept d = rw (index_period_kept n s n t f F c a h d, same frequency_kept, same diagonal_frequency_kept, same row_frequency_kept, same column_frequency_kept, same commuting_kept)
      where
        same : {x y : ℕ} → y ≡ x → eqb x y ≡ true
        same {x} {y} e = eq-eqb x y (sym e)

-- ---- a table given by its cells

module _ (n : ℕ) (cells : List ℕ) (size : length cells ≡ n * n) where
  row_fits : (a : ℕ) → Element n a → (a - 1) * n + n ≤ length cells
  row_fits a h = let le : suc (a - 1) * n ≤ n * n = mul-le-mul_right n (let z : suc (a - 1) ≤ n = omega arith in z) in omega (arith, suc-mul (a - 1) n)

  -- Row a is the part of n cells that starts at (a - 1) × n.
  pub row_cells : (a : ℕ) → Element n a → take n (drop ((a - 1) * n) cells) ≡ map (product n cells a) (elements n)
  unfolding product
  row_cells a h = ext_get_or 0 row products (long ∙ sym wide) entry
    where
      row : List ℕ
      row = take n (drop ((a - 1) * n) cells)

      products : List ℕ
      products = map (product n cells a) (elements n)

      long : length row ≡ n
      long = length-take-le n (drop ((a - 1) * n) cells) (let e = length-drop ((a - 1) * n) cells in let u = row_fits a h in omega arith)

      wide : length products ≡ n
      wide = length-map (elements n) (product n cells a) ∙ length_elements n

      entry : (j : ℕ) → j < length row → get_or row j 0 ≡ get_or products j 0
      entry j u =
          let below : j < n = omega (arith, long) in
          let column : get_or (elements n) j 0 - 1 ≡ j = (let e = at_suc (elements n) j in let g = at_elements n (suc j) (omega arith, omega arith) in omega arith) in
          get_or-take n (drop ((a - 1) * n) cells) j 0 below ∙ get_or-drop ((a - 1) * n) cells j 0 ∙ ap (λ (k : ℕ). get_or cells ((a - 1) * n + k) 0) (sym column)
          ∙ sym (get_d_map (product n cells a) (elements n) 0 j (omega (arith, length_elements n)))

  -- The cells after i rows are the k rows from row i + 1 on.
  rows : (i k : ℕ) → i + k ≡ n → drop (i * n) cells ≡ flat_map (λ x. map (product n cells x) (elements n)) (range (suc i) k)
  unfolding flat_map range
  rows i zero e = drop_of_length-le cells (let z : length cells ≤ i * n = omega (arith, size, ap (λ (x : ℕ). x * n) (let z : i ≡ n = omega arith in z)) in z)
  rows i (suc k) e =
      sym (take-append-drop n (drop (i * n) cells))
      ∙ ap₂ {C = List ℕ} (λ (x y : List ℕ). x ++ y)
      (ap (λ (x : ℕ). take n (drop (x * n) cells)) (let z : i ≡ suc i - 1 = omega arith in z) ∙ row_cells (suc i) (omega arith, omega arith))
      (drop-drop n (i * n) cells ∙ ap (λ (x : ℕ). drop x cells) (let z : i * n + n ≡ suc i * n = omega (arith, suc-mul i n) in z) ∙ rows (suc i) k (omega arith))

  -- The cells are the products of all pairs, row after row.
  pub cells_grid : cells ≡ grid n n (product n cells)
  unfolding grid elements
  cells_grid = ap (λ (x : ℕ). drop x cells) (let z : 0 ≡ 0 * n = omega arith in z) ∙ rows 0 n (omega arith)

  -- How often a stands in the whole table is how many cells are a.
  pub frequency_cells : (a : ℕ) → frequency n (product n cells) a ≡ count (λ x. eqb x a) cells
  unfolding frequency count grid
  frequency_cells a =
      sum_same (λ i. count (λ j. eqb (product n cells i j) a) (elements n)) (λ i. count (λ x. eqb x a) (map (product n cells i) (elements n))) (elements n)
      (λ i m. sym (count_map (λ x. eqb x a) (product n cells i) (elements n)))
      ∙ sym (sum_flat_map (λ x. cond (eqb x a) 1 0) (λ i. map (product n cells i) (elements n)) (elements n)) ∙ ap (sum (λ x. cond (eqb x a) 1 0)) (sym cells_grid)
