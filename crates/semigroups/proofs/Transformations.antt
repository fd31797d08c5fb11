-- The table of all transformations of d points, for any d: a number and its image list belong to each other, the product is composition, s first,
-- then t; it is associative and its cells are in range, so the tables of degree 1 to 3 are accepted. Assumes nothing.
use mathlib.Core.Path.{◌≡◌, refl, sym, ap, ◌∙◌, subst}
use mathlib.Core.Bool.{true, cond}
use mathlib.Core.List.Memᴰ
use mathlib.Core.List.{List, [], ◌∷◌, map, Memᴰ}
use Prim.Native.Nat.{ℕ, zero, suc, ◌+◌, ◌-◌, ◌*◌, ◌^◌, ◌≤◌, ◌<◌}
use native.Mathlib.Nat.{pow-le-pow_left, pow-le-pow_right, one-le-pow}
use native.Mathlib.Omega.{arith}
use lib.ListN.{length, get_or}
use Rattle.semigroups.specs.Lists.{elements, at, sum, count, earlier, lists}
use Rattle.semigroups.specs.ListsLaws.{Increasing}
use Rattle.semigroups.specs.Tables.{product, grid, Element, Associative, Accepted}
use Rattle.semigroups.specs.TablesLaws.{Closed}
use Rattle.semigroups.specs.InnerTables.{IsList}
use Rattle.semigroups.specs.Maps.{after}
use Rattle.semigroups.specs.Transformations.{transformations, transformation_order, transformation, number_of, transformation_product, transformation_cells}
use Rattle.semigroups.proofs.Lists.{mem_elements}
use Rattle.semigroups.proofs.NoRepeats.{mem_place, place_mem}
use Rattle.semigroups.proofs.FlatMap.{mem_flat_map}
use Rattle.semigroups.proofs.ListOrder.{earlier_irreflexive, earlier_asymmetric, lists_increasing, mem_lists, lists_mem, length_lists}
use Rattle.semigroups.proofs.Tables.{length_grid, product_grid, list_at}
use Rattle.semigroups.proofs.Composition.{at_after, length_after, after_assoc}

-- ---- numbers

-- In an increasing list, k entries are earlier than the one at place k.
count_earlier : (l : List (List ℕ)) → Increasing l → (k : ℕ) → k < length l → count (λ g. earlier g (get_or l k [])) l ≡ k
unfolding count sum
count_earlier [] s k h = absurd (let z : ⊥ = omega arith in z)
count_earlier (f ∷ l) s zero h = rw (earlier_irreflexive f) (none_before l s.0)
  where
    none_before : (r : List (List ℕ)) → ((g : List ℕ) → Memᴰ g r → earlier f g ≡ true) → 0 + sum (λ g. cond (earlier g f) 1 0) r ≡ 0
    none_before [] u = refl
    none_before (g ∷ r) u = rw (earlier_asymmetric f g (u g (Memᴰ.head refl))) (let e = none_before r (λ x m. u x (Memᴰ.tail m)) in omega arith)
count_earlier (f ∷ l) s (suc k) h =
    let e = count_earlier l s.1 k (omega arith) in
    rw (s.0 (get_or l k []) (place_mem [] l k (let z : k < length l = omega arith in z))) (omega arith)

module _ (d : ℕ) where
  pub length_transformations : length (transformations d) ≡ transformation_order d
  unfolding transformations transformation_order
  length_transformations = length_lists d d

  pub transformation_list : (i : ℕ) → Element (transformation_order d) i → IsList d d (transformation d i)
  unfolding transformation transformations
  transformation_list i h = mem_lists d d (get_or (lists d d) (i - 1) []) (place_mem [] (lists d d) (i - 1) (let e = length_transformations in omega arith))

  -- The number of transformation i is i.
  pub number_transformation : (i : ℕ) → Element (transformation_order d) i → number_of d (transformation d i) ≡ i
  unfolding number_of transformation transformations
  number_transformation i h =
      let e = count_earlier (lists d d) (lists_increasing d d) (i - 1) (let e = length_transformations in omega arith) in
      omega arith

  -- Every image list has a number, and is the transformation with that number.
  pub transformation_number : (f : List ℕ) → IsList d d f → Element (transformation_order d) (number_of d f) × (transformation d (number_of d f) ≡ f)
  unfolding number_of transformation transformations
  transformation_number f h =
      let r = mem_place [] (lists d d) (lists_mem d d f h) in
      let r1 = r.1 in
      let e : count (λ g. earlier g f) (lists d d) ≡ r.0 = sym (ap (λ (x : List ℕ). count (λ g. earlier g x) (lists d d)) r.2) ∙ count_earlier (lists d d) (lists_increasing d d) r.0 r1 in
      ((let l = length_transformations in omega arith), ap (λ (k : ℕ). get_or (lists d d) k []) (let z : count (λ g. earlier g f) (lists d d) + 1 - 1 ≡ r.0 = omega arith in z) ∙ r.2)

  -- ---- the product

  composite_list : (a b : List ℕ) → IsList d d a → IsList d d b → IsList d d (after a b)
  unfolding after
  composite_list a b A B =
      record {
        size = length_after a b ∙ B.size;
        entries = λ x k. let r = Memᴰ.of_map (at a) b k in subst (Element d) r.2 (list_at d d a A r.0 (B.entries r.0 r.1));
      }

  module _ (s t : ℕ) (hs : Element (transformation_order d) s) (ht : Element (transformation_order d) t) where
    numbered : Element (transformation_order d) (transformation_product d s t) × (transformation d (transformation_product d s t) ≡ after (transformation d t) (transformation d s))
    unfolding transformation_product
    numbered = transformation_number (after (transformation d t) (transformation d s)) (composite_list (transformation d t) (transformation d s) (transformation_list t ht) (transformation_list s hs))

    -- The product is composition, s first, then t.
    pub product_composite : transformation d (transformation_product d s t) ≡ after (transformation d t) (transformation d s)
    product_composite = numbered.1

    -- It takes each point where t takes its image under s.
    pub product_point : (x : ℕ) → Element d x → at (transformation d (transformation_product d s t)) x ≡ at (transformation d t) (at (transformation d s) x)
    product_point x h =
        let e = (transformation_list s hs).size in
        ap (λ (f : List ℕ). at f x) product_composite ∙ at_after (transformation d t) (transformation d s) x (omega arith)

  pub transformations_closed : Closed (transformation_order d) (transformation_product d)
  transformations_closed s t hs ht = (numbered s t hs ht).0

  pub transformations_associative : Associative (transformation_order d) (transformation_product d)
  unfolding transformation_product
  transformations_associative s t u hs ht hu =
      let S = transformation d s in
      let T = transformation d t in
      let U = transformation d u in
      let es = (transformation_list s hs).size in
      let et = (transformation_list t ht).size in
      ap (λ (f : List ℕ). number_of d (after U f)) (product_composite s t hs ht)
      ∙ ap (number_of d) (sym (after_assoc U T S (λ x h. let e = list_at d d S (transformation_list s hs) x (omega arith) in omega arith)))
      ∙ ap (λ (f : List ℕ). number_of d (after f S)) (sym (product_composite t u ht hu))

  -- ---- the table

  -- Its product is the product of transformations.
  pub table_product : (s t : ℕ) → Element (transformation_order d) s → Element (transformation_order d) t → product (transformation_order d) (transformation_cells d) s t ≡ transformation_product d s t
  unfolding transformation_cells
  table_product s t hs ht = product_grid (transformation_order d) (transformation_product d) s t hs ht

  pub length_cells : length (transformation_cells d) ≡ transformation_order d * transformation_order d
  unfolding transformation_cells
  length_cells = length_grid (transformation_order d) (transformation_order d) (transformation_product d)

  cell_in_range : (x : ℕ) → Memᴰ x (transformation_cells d) → Element (transformation_order d) x
  unfolding transformation_cells grid
  cell_in_range x m =
      let n = transformation_order d in
      let w = mem_flat_map (λ i. map (transformation_product d i) (elements n)) (elements n) x m in
      let v = Memᴰ.of_map (transformation_product d w.0) (elements n) w.2 in
      subst (Element n) v.2 (transformations_closed w.0 v.0 (mem_elements n w.0 w.1) (mem_elements n v.0 v.1))

  -- The table is accepted if its order is 1 to 120.
  pub table_accepted : Element 120 (transformation_order d) → Accepted (transformation_order d) (transformation_cells d)
  table_accepted h =
      let n = transformation_order d in
      let p = transformation_product d in
      let table : (i j : ℕ) → Element n i → Element n j → product n (transformation_cells d) i j ≡ p i j = table_product in
      record {
        filled = record { order = h; size = length_cells; in_range = λ k u. cell_in_range (get_or (transformation_cells d) k 0) (place_mem 0 (transformation_cells d) k u) };
        associative = λ i j k hi hj hk.
            ap (λ (x : ℕ). product n (transformation_cells d) x k) (table i j hi hj) ∙ table (p i j) k (transformations_closed i j hi hj) hk ∙ transformations_associative i j k hi hj hk
            ∙ sym (table i (p j k) hi (transformations_closed j k hj hk)) ∙ ap (product n (transformation_cells d) i) (sym (table j k hj hk));
      }

-- The tables of degree 1 to 3 are accepted.
pub degrees_accepted : (d : ℕ) → Element 3 d → Accepted (transformation_order d) (transformation_cells d)
unfolding transformation_order
degrees_accepted d h =
    let a : d ^ d ≤ 3 ^ d = pow-le-pow_left h.1 d in
    let b : 3 ^ d ≤ 3 ^ 3 = pow-le-pow_right (let z : 0 < 3 = omega arith in z) h.1 in
    let c : 1 ≤ d ^ d = one-le-pow d d (let z : 0 < d = omega arith in z) in
    table_accepted d (c, omega arith)
