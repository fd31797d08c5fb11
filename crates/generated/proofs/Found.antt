-- Elements found one by one: the list after additions in turn; and a list in which every entry was multiplied with all before it holds all that is
-- generated. Assumes nothing.
use mathlib.Core.Path.{◌≡◌, refl, sym, ap, ap₂, ◌∙◌, subst}
use mathlib.Core.Logic.{◌⊎◌, inl, inr, ⊎_elim}
use mathlib.Core.List.Memᴰ
use mathlib.Core.List.{List, [], ◌∷◌, ◌++◌, flat_map, Memᴰ}
use Prim.Native.Nat.{ℕ, ◌+◌, ◌≤◌, ◌<◌}
use native.Mathlib.Numerals.{add-one}
use native.Mathlib.Omega.{arith}
use lib.ListN.{length, take, get_or}
use lib.Seq.{take-suc, take_all, get_or-take, length-take-le}
use Rattle.semigroups.specs.InnerLists.{NoRepeats}
use Rattle.semigroups.specs.Tables.{Product, Element}
use Rattle.semigroups.specs.TablesLaws.{Closed}
use Rattle.semigroups.specs.InnerGenerated.{Inside}
use Rattle.semigroups.specs.Generated.{generated}
use Rattle.semigroups.proofs.Booleans.{equal_or_not}
use Rattle.semigroups.proofs.Lists.{mem_take}
use Rattle.semigroups.proofs.FlatMap.{mem_flat_map, flat_map_mem}
use Rattle.semigroups.proofs.NoRepeats.{mem_place, place_mem}
use Rattle.semigroups.proofs.Generated.{same_length, generated_inside, generated_no_repeats, generated_closed, generated_holds, generated_smallest}
use Rattle.light.specs.InnerFound.{indicator, adding, adding_all}
use Rattle.light.proofs.Indicators.{indicator_same}
use Rattle.light.proofs.Found.{adding_last, all_keeps, all_longer, all_place, all_holds, mem_all}
use Rattle.generated.specs.InnerFound.{products_with, products_up_to}

-- ---- products of one entry

-- The products with a list that has one more entry.
products_last_law : (s : Product) (x : ℕ) (l : List ℕ) (y : ℕ) → products_with s x (l ++ y ∷ []) ≡ (products_with s x l ++ s x y ∷ []) ++ s y x ∷ []
unfolding products_with flat_map
products_last_law s x [] y = refl
products_last_law s x (z ∷ l) y = ap {B = List ℕ} (λ (a : List ℕ). s x z ∷ s z x ∷ a) (products_last_law s x l y)

mem_with : (s : Product) (x : ℕ) (l : List ℕ) (z : ℕ) → Memᴰ z (products_with s x l) → (y : ℕ) × Memᴰ y l × ((z ≡ s x y) ⊎ (z ≡ s y x))
unfolding products_with
mem_with s x l z m =
    let w = mem_flat_map (λ y. s x y ∷ s y x ∷ []) l z m in
    (w.0, w.1, ⊎_elim (λ e. inl e) (λ k. inr (Memᴰ.eq_of_singleton k)) (Memᴰ.cases_cons w.2))

module _ (s : Product) (x : ℕ) (l : List ℕ) (y : ℕ) (m : Memᴰ y l) where
  with_left : Memᴰ (s x y) (products_with s x l)
  unfolding products_with
  with_left = flat_map_mem (λ y. s x y ∷ s y x ∷ []) l y (s x y) m (Memᴰ.head refl)

  with_right : Memᴰ (s y x) (products_with s x l)
  unfolding products_with
  with_right = flat_map_mem (λ y. s x y ∷ s y x ∷ []) l y (s y x) m (Memᴰ.tail (Memᴰ.head refl))

-- The loop over the entries up to a place, once i of them are done.
module _ (s : Product) (r : List ℕ) (x : ℕ) where
  unfoldable pub multiplied_to : ℕ → List ℕ
  multiplied_to i = adding_all r (products_with s x (take i r))

  pub multiplied_none : multiplied_to 0 ≡ r
  unfolding multiplied_to adding_all products_with flat_map
  multiplied_none = refl

  pub multiplied_next : (i y : ℕ) → i < length r → y ≡ get_or r i 0 → adding (adding (multiplied_to i) (s x y)) (s y x) ≡ multiplied_to (i + 1)
  unfolding multiplied_to
  multiplied_next i y h e =
      let p = products_with s x (take i r) in
      ap (λ (a : List ℕ). adding a (s y x)) (sym (adding_last r p (s x y))) ∙ sym (adding_last r (p ++ s x y ∷ []) (s y x))
      ∙ ap (adding_all r) (sym (ap (products_with s x) (ap (λ (k : ℕ). take k r) (add-one i) ∙ take-suc r i 0 h ∙ ap (λ (z : ℕ). take i r ++ z ∷ []) (sym e)) ∙ products_last_law s x (take i r) y))

  pub multiplied_place : (i j : ℕ) → j < length r → get_or (multiplied_to i) j 0 ≡ get_or r j 0
  unfolding multiplied_to
  multiplied_place i j h = all_place r (products_with s x (take i r)) j h

  pub multiplied_longer : (i : ℕ) → length r ≤ length (multiplied_to i)
  unfolding multiplied_to
  multiplied_longer i = all_longer r (products_with s x (take i r))

  pub multiplied_element : (n i : ℕ) → Inside n r → (j : ℕ) → j < length r → Element n (get_or (multiplied_to i) j 0)
  multiplied_element n i inside j h = subst (Element n) (sym (multiplied_place i j h)) (inside (get_or r j 0) (place_mem 0 r j h))

pub multiplied_all : (s : Product) (r : List ℕ) (place : ℕ) → multiplied_to s r (get_or r place 0) (place + 1) ≡ adding_all r (products_up_to s r place)
unfolding multiplied_to products_up_to
multiplied_all s r place = refl

-- ---- until nothing is new

module _ (n : ℕ) (s : Product) (l : List ℕ) where
  -- The list r holds l and nothing that l does not generate, and the products of its first entries.
  pub record Growing (first : ℕ) (r : List ℕ) : Type 0 where
    pub holds_list : (x : ℕ) → Memᴰ x l → Memᴰ x r
    pub needed : (x : ℕ) → Memᴰ x r → Memᴰ x (generated n s l)
    pub multiplied : (i j : ℕ) → i < first → j < first → Memᴰ (s (get_or r i 0) (get_or r j 0)) r

  pub growing_inside : {first : ℕ} {r : List ℕ} → Growing first r → Inside n r
  growing_inside g x m = generated_inside n s l x (g.needed x m)

  module _ (closed : Closed n s) (inside : Inside n l) where
    start : Growing 0 (adding_all [] l)
    start =
        record {
          holds_list = λ x m. all_holds [] l x m;
          needed = λ x m. ⊎_elim (λ k. absurd (Memᴰ.not-nil k)) (λ k. (generated_holds n s l closed inside).holds_list x k) (mem_all [] l x m);
          multiplied = λ i j h k. absurd (let z : ⊥ = omega arith in z);
        }

    pub growing_start : (i : ℕ) (r : List ℕ) → length l ≤ i → r ≡ adding_all [] (take i l) → Growing 0 r
    growing_start i r h e = subst (Growing 0) (sym (e ∙ ap (adding_all []) (take_all i l h))) start

    module _ (place : ℕ) (r : List ℕ) (g : Growing place r) (h : place < length r) where
      abbrev more : List ℕ
      more = products_up_to s r place

      up_to : (i : ℕ) → i ≤ place → Memᴰ (get_or r i 0) (take (place + 1) r)
      up_to i u =
          Memᴰ.cast (sym (get_or-take (place + 1) r i 0 (omega arith)))
          (place_mem 0 (take (place + 1) r) i (omega (arith, length-take-le (place + 1) r (omega arith))))

      new_needed : (z : ℕ) → Memᴰ z more → Memᴰ z (generated n s l)
      unfolding products_up_to
      new_needed z m =
          let x = get_or r place 0 in
          let w = mem_with s x (take (place + 1) r) z m in
          let p = g.needed x (place_mem 0 r place h) in
          let q = g.needed w.0 (mem_take (place + 1) r w.0 w.1) in
          ⊎_elim (λ e. Memᴰ.cast e (generated_closed n s l closed x w.0 p q)) (λ e. Memᴰ.cast e (generated_closed n s l closed w.0 x q p)) w.2

      -- The products of the entries up to the place are there.
      new_products : (i j : ℕ) → i < place + 1 → j < place + 1 → Memᴰ (s (get_or r i 0) (get_or r j 0)) (adding_all r more)
      unfolding products_up_to
      new_products i j hi hj = go (equal_or_not i place) (equal_or_not j place)
        where
          go : (i ≡ place) ⊎ (i ≡ place → ⊥) → (j ≡ place) ⊎ (j ≡ place → ⊥) → Memᴰ (s (get_or r i 0) (get_or r j 0)) (adding_all r more)
          go (inl e) d =
              all_holds r more (s (get_or r i 0) (get_or r j 0))
              (Memᴰ.cast (ap (λ (k : ℕ). s (get_or r k 0) (get_or r j 0)) e) (with_left s (get_or r place 0) (take (place + 1) r) (get_or r j 0) (up_to j (omega arith))))
          go (inr ne) (inl e) =
              all_holds r more (s (get_or r i 0) (get_or r j 0))
              (Memᴰ.cast (ap (λ (k : ℕ). s (get_or r i 0) (get_or r k 0)) e) (with_right s (get_or r place 0) (take (place + 1) r) (get_or r i 0) (up_to i (omega arith))))
          go (inr ne) (inr me) = all_keeps r more (s (get_or r i 0) (get_or r j 0)) (g.multiplied i j (omega arith) (omega arith))

      next : Growing (place + 1) (adding_all r more)
      next =
          record {
            holds_list = λ x m. all_keeps r more x (g.holds_list x m);
            needed = λ x m. ⊎_elim (λ k. g.needed x k) (λ k. new_needed x k) (mem_all r more x m);
            multiplied = λ i j hi hj. Memᴰ.cast (ap₂ s (all_place r more i (omega arith)) (all_place r more j (omega arith))) (new_products i j hi hj);
          }

      pub growing_next : (q : List ℕ) → q ≡ adding_all r more → (place + 1 ≤ length q) × Growing (place + 1) q
      growing_next q e = (omega (arith, ap length e, all_longer r more), subst (Growing (place + 1)) (sym e) next)

    module _ (place : ℕ) (r : List ℕ) (g : Growing place r) (h : length r ≤ place) where
      all_found : (x : ℕ) → Memᴰ x (generated n s l) → Memᴰ x r
      all_found =
          (generated_smallest n s l closed inside).inside_others (λ x. Memᴰ x r)
          (record {
            holds_list = g.holds_list;
            holds_products = λ x y p q.
                let u = mem_place 0 r p in
                let v = mem_place 0 r q in
                let u1 = u.1 in
                let v1 = v.1 in
                Memᴰ.cast (sym (ap₂ s u.2 v.2)) (g.multiplied u.0 v.0 (omega arith) (omega arith));
          })

      pub growing_marks : indicator r ≡ indicator (generated n s l)
      growing_marks = indicator_same r (generated n s l) g.needed all_found

      pub growing_count : NoRepeats r → length r ≡ length (generated n s l)
      growing_count u = same_length r (generated n s l) u (generated_no_repeats n s l) g.needed all_found
