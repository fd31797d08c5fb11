-- The idempotent power of an element: there is one, it is the only one, and it is the power of any exponent that is a multiple of the period and at least
-- the index. An embedding takes it to that of the image. The idea: a power that is its own square equals all its powers, so two such powers equal a
-- common one. Assumes nothing.
use mathlib.Core.Path.{◌≡◌, refl, sym, ap, ◌∙◌, subst}
use mathlib.Core.Bool.{Bool}
use mathlib.Core.List.Memᴰ
use mathlib.Core.List.{List, [], ◌∷◌, flat_map}
use Prim.Native.Nat.{ℕ, zero, suc, ◌+◌, ◌-◌, ◌*◌, ◌/◌, ◌%◌, ◌≤◌, ◌<◌}
use native.Mathlib.Nat.{suc-mul, mul_comm, div-add-mod', mod-lt}
use native.Mathlib.Omega.{arith}
use borrow.Author.Tests.{eq-eqb, eqb-true}
use lib.Dec.{eqb}
use Rattle.semigroups.specs.Lists.{range, elements, at, all, sum, count, least, member, distinct, earlier, lists}
use Rattle.semigroups.specs.Tables.{Product, product, grid, Element, Associative, is_element, Accepted}
use Rattle.semigroups.specs.TablesLaws.{Closed}
use Rattle.semigroups.specs.Invariants.{power, index, period, idempotent_power}
use Rattle.semigroups.specs.InvariantsLaws.{IsIdempotentPower, TheIdempotentPower}
use Rattle.semigroups.specs.InnerMaps.{Embedding}
use Rattle.semigroups.specs.Maps.{is_homomorphism, is_embedding, after}
use Rattle.semigroups.specs.Transformations.{transformations, transformation_order, transformation, number_of, transformation_product, transformation_cells}
use Rattle.semigroups.specs.Cases.{swap, two}
use Rattle.semigroups.proofs.Lists.{least_first}
use Rattle.semigroups.proofs.Tables.{accepted_closed}
use Rattle.semigroups.proofs.Maps.{is_embedding_law}
use Rattle.semigroups.proofs.Cases.{worked}
use Rattle.semigroups.proofs.IndexPeriod.{power_one, power_next, power_element, shift, turns, index_period_law, index_period_bound, power_kept}

-- The least multiple of r that is at least p is below p + r.
pub multiple_between : (p r : ℕ) → 1 ≤ p → 1 ≤ r → (p ≤ (p + r - 1) / r * r) × ((p + r - 1) / r * r < p + r)
multiple_between p r hp hr =
    let x = p + r - 1 in
    let e : x / r * r + x % r ≡ x = div-add-mod' x r in
    let h : x % r < r = mod-lt x (omega arith) in
    (omega arith, omega arith)

module _ (n : ℕ) (s : Product) (closed : Closed n s) (assoc : Associative n s) (a : ℕ) (ha : Element n a) where
  -- The product of two powers is the power whose exponent is the sum of theirs.
  pub power_add : (i j : ℕ) → 1 ≤ i → 1 ≤ j → s (power s a i) (power s a j) ≡ power s a (i + j)
  power_add i zero hi hj = absurd (let z : ⊥ = omega arith in z)
  power_add i (suc zero) hi hj =
      ap (s (power s a i)) (power_one s a) ∙ sym (power_next s a i hi) ∙ ap (power s a) (let z : suc i ≡ i + 1 = omega arith in z)
  power_add i (suc (suc j)) hi hj =
      let el = power_element s a n closed ha in
      ap (s (power s a i)) (power_next s a (suc j) (omega arith)) ∙ sym (assoc (power s a i) (power s a (suc j)) a (el i) (el (suc j)) ha)
      ∙ ap (λ (x : ℕ). s x a) (power_add i (suc j) hi (omega arith)) ∙ sym (power_next s a (i + suc j) (omega arith))
      ∙ ap (power s a) (let z : suc (i + suc j) ≡ i + suc (suc j) = omega arith in z)

  -- ---- there is only one

  -- A power that is its own square equals each of its powers.
  all_powers : (i : ℕ) → 1 ≤ i → s (power s a i) (power s a i) ≡ power s a i → (j : ℕ) → 1 ≤ j → power s a (j * i) ≡ power s a i
  all_powers i hi e j hj =
      ap (power s a) (let z : j * i ≡ i + (j - 1) * i = (ap (λ (x : ℕ). x * i) (let w : j ≡ suc (j - 1) = omega arith in w) ∙ omega (arith, suc-mul (j - 1) i)) in z)
      ∙ turns s a i i hi (sym (power_add i i hi hi) ∙ e) (j - 1)

  idempotent_powers_equal : (d e : ℕ) → IsIdempotentPower s a d → IsIdempotentPower s a e → d ≡ e
  idempotent_powers_equal d e x y =
      let i = x.exponent in
      let j = y.exponent in
      sym x.is_power ∙ sym (all_powers i x.from_one (square x) j y.from_one) ∙ ap (power s a) (mul_comm j i) ∙ all_powers j y.from_one (square y) i x.from_one ∙ y.is_power
    where
      square : {c : ℕ} (z : IsIdempotentPower s a c) → let p = power s a z.exponent in s p p ≡ p
      square z = subst (λ (w : ℕ). s w w ≡ w) (sym z.is_power) z.idempotent

  -- ---- there is one

  -- A power whose exponent is a multiple of the period and at least the index is its own square.
  multiple_idempotent : (k t : ℕ) → index n s a ≤ k → k ≡ t * period n s a → IsIdempotentPower s a (power s a k)
  multiple_idempotent k t h e =
      let x = index_period_law n s a closed ha in
      let p = index n s a in
      let r = period n s a in
      let hp = x.index_from_one in
      let here : power s a (k + r) ≡ power s a k =
      ap (power s a) (let z : k + r ≡ p + r + (k - p) = omega arith in z) ∙ shift s a (p + r) p (k - p) (omega arith) hp x.repeats
      ∙ ap (power s a) (let z : p + (k - p) ≡ k = omega arith in z) in
      record {
        exponent = k;
        from_one = omega arith;
        is_power = refl;
        idempotent = power_add k k (omega arith) (omega arith) ∙ ap (λ (y : ℕ). power s a (k + y)) e ∙ turns s a k r (omega arith) here t;
      }

  is_idempotent_power : IsIdempotentPower s a (idempotent_power n s a)
  unfolding idempotent_power
  is_idempotent_power =
      let x = index_period_law n s a closed ha in
      let p = index n s a in
      let r = period n s a in
      let k = (p + r - 1) / r * r in
      let b = multiple_between p r x.index_from_one x.period_from_one in
      let b0 = b.0 in
      let b1 = b.1 in
      let hp = x.index_from_one in
      let w = index_period_bound n s a closed ha in
      let test : ℕ → Bool = (λ i. eqb (s (power s a i) (power s a i)) (power s a i)) in
      let m = multiple_idempotent k ((p + r - 1) / r) b0 refl in
      let f = least_first n test k (omega arith, omega arith) (eq-eqb (s (power s a k) (power s a k)) (power s a k) m.idempotent) in
      let l = least n test in
      record { exponent = l; from_one = f.0.0; is_power = refl; idempotent = eqb-true (s (power s a l) (power s a l)) (power s a l) f.2 }

  -- The one power e of a with e·e = e.
  pub the_idempotent_power : TheIdempotentPower s a (idempotent_power n s a)
  the_idempotent_power = record { is_one = is_idempotent_power; only = λ d x. idempotent_powers_equal d (idempotent_power n s a) x is_idempotent_power }

  -- The idempotent power is the power of any exponent that is a multiple of the period and at least the index.
  pub idempotent_power_at : (k t : ℕ) → index n s a ≤ k → k ≡ t * period n s a → idempotent_power n s a ≡ power s a k
  idempotent_power_at k t h e = sym (the_idempotent_power.only (power s a k) (multiple_idempotent k t h e))

  pub idempotent_power_element : Element n (idempotent_power n s a)
  unfolding idempotent_power
  idempotent_power_element = power_element s a n closed ha (least n (λ k. eqb (s (power s a k) (power s a k)) (power s a k)))

-- ---- an embedding takes it to that of the image

pub idempotent_power_kept : (m : ℕ) (s : Product) (n : ℕ) (t : Product) (f : List ℕ) → Embedding m s n t f → Closed m s → Associative m s → Closed n t → Associative n t → (a : ℕ) → Element m a
    → at f (idempotent_power m s a) ≡ idempotent_power n t (at f a)
idempotent_power_kept m s n t f F c ac d ad a h =
    let x = (the_idempotent_power m s c ac a h).is_one in
    let e = idempotent_power m s a in
    let he = idempotent_power_element m s c ac a h in
    (the_idempotent_power n t d ad (at f a) (F.homomorphism.within a h)).only (at f e)
    (record {
      exponent = x.exponent;
      from_one = x.from_one;
      is_power = sym (power_kept m s n t f F c a h x.exponent) ∙ ap (at f) x.is_power;
      idempotent = sym (F.homomorphism.keeps_product e e he he) ∙ ap (at f) x.idempotent;
    })

-- An instance: the embedding (2,3) of swap in the degree 2 table, at element 2, whose idempotent power is 1.
swap_embeds : Embedding 2 (product 2 swap.cells) two.order (product two.order two.cells) (2 ∷ 3 ∷ [])
unfolding two range elements at all sum count member distinct earlier lists product grid is_element is_homomorphism is_embedding after transformations transformation_order transformation number_of transformation_product transformation_cells flat_map
swap_embeds = is_embedding_law 2 (product 2 swap.cells) two.order (product two.order two.cells) (2 ∷ 3 ∷ []) refl

swap_kept : at (2 ∷ 3 ∷ []) (idempotent_power 2 (product 2 swap.cells) 2) ≡ idempotent_power two.order (product two.order two.cells) (at (2 ∷ 3 ∷ []) 2)
swap_kept =
    let a : Accepted 2 swap.cells = worked.accepted swap (Memᴰ.tail (Memᴰ.head refl)) in
    let b : Accepted two.order two.cells = worked.accepted two (Memᴰ.tail (Memᴰ.tail (Memᴰ.tail (Memᴰ.tail (Memᴰ.tail (Memᴰ.head refl)))))) in
    idempotent_power_kept 2 (product 2 swap.cells) two.order (product two.order two.cells) (2 ∷ 3 ∷ []) swap_embeds
    (accepted_closed 2 swap.cells a) a.associative (accepted_closed two.order two.cells b) b.associative 2 (omega arith, omega arith)
