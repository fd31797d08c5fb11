-- A product t' that turns t: it gives t's product with the factors exchanged. It is closed and associative with t and has the same powers, so the same
-- index, period and idempotent power; its profiles have row and column counts exchanged. The table with rows and columns exchanged is one, and is
-- accepted with the table. The idea: an element commutes with its powers. Assumes nothing.
use mathlib.Core.Path.{◌≡◌, refl, sym, ap, ap₂, ◌∙◌, subst}
use mathlib.Core.Bool.{cond}
use mathlib.Core.List.{List}
use Prim.Native.Nat.{ℕ, zero, suc, ◌+◌, ◌*◌}
use borrow.Author.Tests.{eq-eqb, eqb-true}
use lib.Dec.{eqb}
use lib.ListN.{length, take, drop}
use lib.Seq.{take_at}
use Rattle.semigroups.specs.Lists.{elements, count}
use Rattle.semigroups.specs.Tables.{Product, product, turned, Element, Associative, Accepted}
use Rattle.semigroups.specs.TablesLaws.{Closed}
use Rattle.semigroups.specs.InnerTables.{turned_cells}
use Rattle.semigroups.specs.Calls.{overwritten}
use Rattle.semigroups.specs.Invariants.{power, index, period, idempotent_power, index_period, frequency, diagonal_frequency, row_frequency, column_frequency, commuting, profile, exchanged}
use Rattle.semigroups.specs.InvariantsLaws.{IsIndexPeriod}
use Rattle.semigroups.proofs.Booleans.{same_truth}
use Rattle.semigroups.proofs.Lists.{mem_elements}
use Rattle.semigroups.proofs.Sums.{sum_same, count_same, sum_swap}
use Rattle.semigroups.proofs.Tables.{length_grid, product_grid, grid_accepted, accepted_closed}
use Rattle.semigroups.proofs.IndexPeriod.{power_element, index_period_law, index_period_unique}
use Rattle.semigroups.proofs.Idempotents.{the_idempotent_power}

eqb_swap : (x y : ℕ) → eqb x y ≡ eqb y x
eqb_swap x y = same_truth (eqb x y) (eqb y x) (λ e. eq-eqb y x (sym (eqb-true x y e))) (λ e. eq-eqb x y (sym (eqb-true y x e)))

abbrev pub Turns : ℕ → Product → Product → Type 0
Turns n t t' = (i j : ℕ) → Element n i → Element n j → t' i j ≡ t j i

module _ (n : ℕ) (t t' : Product) (turns : Turns n t t') where
  pub turned_closed : Closed n t → Closed n t'
  turned_closed c i j hi hj = subst (Element n) (sym (turns i j hi hj)) (c j i hj hi)

  pub turned_associative : Closed n t → Associative n t → Associative n t'
  turned_associative c a i j k hi hj hk =
      let d = turned_closed c in
      turns (t' i j) k (d i j hi hj) hk ∙ ap (t k) (turns i j hi hj) ∙ sym (a k j i hk hj hi)
      ∙ ap (λ (x : ℕ). t x i) (sym (turns j k hj hk)) ∙ sym (turns i (t' j k) hi (d j k hj hk))

  -- ---- powers

  module _ (closed : Closed n t) (assoc : Associative n t) (a : ℕ) (ha : Element n a) where
    -- An element commutes with its powers.
    power_commutes : (k : ℕ) → t a (power t a k) ≡ t (power t a k) a
    unfolding power
    power_commutes zero = refl
    power_commutes (suc zero) = refl
    power_commutes (suc (suc k)) =
        sym (assoc a (power t a (suc k)) a ha (power_element t a n closed ha (suc k)) ha) ∙ ap (λ (x : ℕ). t x a) (power_commutes (suc k))

    pub power_turned : (k : ℕ) → power t' a k ≡ power t a k
    unfolding power
    power_turned zero = refl
    power_turned (suc zero) = refl
    power_turned (suc (suc k)) =
        ap (λ (x : ℕ). t' x a) (power_turned (suc k)) ∙ turns (power t a (suc k)) a (power_element t a n closed ha (suc k)) ha ∙ power_commutes (suc k)

    same_index_period_law : (index n t' a ≡ index n t a) × (period n t' a ≡ period n t a)
    same_index_period_law =
        let x = index_period_law n t' a (turned_closed closed) ha in
        let p = index n t' a in
        let r = period n t' a in
        let y : IsIndexPeriod t a p r =
        record {
          index_from_one = x.index_from_one;
          period_from_one = x.period_from_one;
          repeats = sym (power_turned (p + r)) ∙ x.repeats ∙ power_turned p;
          least_index = λ p' r' hp hr e. x.least_index p' r' hp hr (power_turned (p' + r') ∙ e ∙ sym (power_turned p'));
          least_period = λ p' r' hp hr e. x.least_period p' r' hp hr (power_turned (p' + r') ∙ e ∙ sym (power_turned p'));
        } in
        index_period_unique t a p r (index n t a) (period n t a) y (index_period_law n t a closed ha)

    same_idempotent_power : idempotent_power n t' a ≡ idempotent_power n t a
    same_idempotent_power =
        let x = (the_idempotent_power n t' (turned_closed closed) (turned_associative closed assoc) a ha).is_one in
        let e = idempotent_power n t' a in
        let he = subst (Element n) x.is_power (power_element t' a n (turned_closed closed) ha x.exponent) in
        (the_idempotent_power n t closed assoc a ha).only e
        (record { exponent = x.exponent; from_one = x.from_one; is_power = sym (power_turned x.exponent) ∙ x.is_power; idempotent = sym (turns e e he he) ∙ x.idempotent })

  -- ---- counts

  module _ (a : ℕ) where
    frequency_turned : frequency n t' a ≡ frequency n t a
    unfolding frequency count
    frequency_turned =
        sum_same (λ i. count (λ j. eqb (t' i j) a) (elements n)) (λ i. count (λ j. eqb (t j i) a) (elements n)) (elements n)
        (λ i hi. count_same (λ j. eqb (t' i j) a) (λ j. eqb (t j i) a) (elements n) (λ j hj. ap (λ (x : ℕ). eqb x a) (turns i j (mem_elements n i hi) (mem_elements n j hj))))
        ∙ sum_swap (λ i j. cond (eqb (t j i) a) 1 0) (elements n) (elements n)

    diagonal_turned : diagonal_frequency n t' a ≡ diagonal_frequency n t a
    unfolding diagonal_frequency
    diagonal_turned =
        count_same (λ i. eqb (t' i i) a) (λ i. eqb (t i i) a) (elements n) (λ i m. let h = mem_elements n i m in ap (λ (x : ℕ). eqb x a) (turns i i h h))

    module _ (ha : Element n a) where
      row_turned : row_frequency n t' a ≡ column_frequency n t a
      unfolding row_frequency column_frequency
      row_turned = count_same (λ j. eqb (t' a j) a) (λ j. eqb (t j a) a) (elements n) (λ j m. ap (λ (x : ℕ). eqb x a) (turns a j ha (mem_elements n j m)))

      column_turned : column_frequency n t' a ≡ row_frequency n t a
      unfolding row_frequency column_frequency
      column_turned = count_same (λ i. eqb (t' i a) a) (λ i. eqb (t a i) a) (elements n) (λ i m. ap (λ (x : ℕ). eqb x a) (turns i a (mem_elements n i m) ha))

      commuting_turned : commuting n t' a ≡ commuting n t a
      unfolding commuting
      commuting_turned =
          count_same (λ b. eqb (t' a b) (t' b a)) (λ b. eqb (t a b) (t b a)) (elements n)
          (λ b m. let hb = mem_elements n b m in ap₂ eqb (turns a b ha hb) (turns b a hb ha) ∙ eqb_swap (t b a) (t a b))

  -- ---- the profile

  pub profile_turned : Closed n t → Associative n t → (a : ℕ) → Element n a → profile n t' a ≡ exchanged (profile n t a)
  unfolding profile index_period
  profile_turned closed assoc a ha =
      let e = same_index_period_law closed assoc a ha in
      let e0 = e.0 in
      let e1 = e.1 in
      let e2 = same_idempotent_power closed assoc a ha in
      let e3 = frequency_turned a in
      let e4 = diagonal_turned a in
      let e5 = row_turned a ha in
      let e6 = column_turned a ha in
      let e7 = commuting_turned a ha in
      cc

-- ---- the table with rows and columns exchanged

pub turned_turns : (n : ℕ) (t : Product) → Turns n t (turned t)
turned_turns n t i j hi hj = refl

module _ (n : ℕ) (cells : List ℕ) where
  pub cells_turn : Turns n (product n cells) (product n (turned_cells n cells))
  unfolding turned_cells
  cells_turn i j hi hj = product_grid n (turned (product n cells)) i j hi hj

  pub length_turned_cells : length (turned_cells n cells) ≡ n * n
  unfolding turned_cells
  length_turned_cells = length_grid n n (turned (product n cells))

  -- A buffer to which these cells are written begins with them.
  pub turned_front : (b : List ℕ) → take (n * n) (overwritten (turned_cells n cells) b) ≡ turned_cells n cells
  turned_front b = take_at (turned_cells n cells) (drop (length (turned_cells n cells)) b) (n * n) length_turned_cells

  pub turned_accepted : Accepted n cells → Accepted n (turned_cells n cells)
  unfolding turned_cells
  turned_accepted a =
      let s = product n cells in
      let closed = accepted_closed n cells a in
      grid_accepted n (turned s) a.filled.order (turned_closed n s (turned s) (turned_turns n s) closed) (turned_associative n s (turned s) (turned_turns n s) closed a.associative)
