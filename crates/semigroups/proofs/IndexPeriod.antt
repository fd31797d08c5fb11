-- Powers of an element; its index and period: they exist, are the least and the only such pair, and add up to at most n + 1. An embedding keeps
-- them. The idea: of n + 1 powers two are equal, and where powers repeat at all they repeat with a period of at most n. Assumes nothing.
use mathlib.Core.Path.{◌≡◌, refl, sym, ap, ◌∙◌, subst}
use mathlib.Core.Bool.{true}
use mathlib.Core.Logic.{⊎_elim}
use mathlib.Core.List.{List}
use Prim.Native.Nat.{ℕ, zero, suc, ◌+◌, ◌-◌, ◌*◌, ◌≤◌, ◌<◌}
use native.Mathlib.Nat.{add-suc, add-zero, le_antisymm, suc-mul, mul-le-mul_left}
use native.Mathlib.Omega.{arith}
use borrow.Author.Tests.{eq-eqb, eqb-true, leb-true, le-leb}
use lib.Dec.{eqb, leb}
use Rattle.semigroups.specs.Lists.{at}
use Rattle.semigroups.specs.Tables.{Product, Element}
use Rattle.semigroups.specs.TablesLaws.{Closed}
use Rattle.semigroups.specs.Invariants.{power, period_from, index, period, index_period, same_index_period}
use Rattle.semigroups.specs.InvariantsLaws.{IsIndexPeriod}
use Rattle.semigroups.specs.InnerMaps.{Embedding}
use Rattle.semigroups.proofs.Booleans.{both, at_most_or_above}
use Rattle.semigroups.proofs.Lists.{least_first, least_passes}
use Rattle.semigroups.proofs.NoRepeats.{collide}

-- Power p + r equals power p.
abbrev Repeats : Product → ℕ → ℕ → ℕ → Type 0
Repeats s a p r = power s a (p + r) ≡ power s a p

-- ---- powers

module _ (s : Product) (a : ℕ) where
  pub power_one : power s a 1 ≡ a
  unfolding power
  power_one = refl

  pub power_next : (k : ℕ) → 1 ≤ k → power s a (suc k) ≡ s (power s a k) a
  unfolding power
  power_next zero h = absurd (let z : ⊥ = omega arith in z)
  power_next (suc k) h = refl

  -- Powers of elements are elements.
  pub power_element : (n : ℕ) → Closed n s → Element n a → (k : ℕ) → Element n (power s a k)
  unfolding power
  power_element n c h zero = h
  power_element n c h (suc zero) = h
  power_element n c h (suc (suc k)) = c (power s a (suc k)) a (power_element n c h (suc k)) h

  -- If two powers are equal, so are those of exponents larger by d.
  pub shift : (u v d : ℕ) → 1 ≤ u → 1 ≤ v → power s a u ≡ power s a v → power s a (u + d) ≡ power s a (v + d)
  shift u v zero hu hv e = ap (power s a) (add-zero u) ∙ e ∙ sym (ap (power s a) (add-zero v))
  shift u v (suc d) hu hv e =
      ap (power s a) (add-suc u d) ∙ power_next (u + d) (omega arith) ∙ ap (λ (x : ℕ). s x a) (shift u v d hu hv e)
      ∙ sym (power_next (v + d) (omega arith)) ∙ sym (ap (power s a) (add-suc v d))

  -- If powers repeat after r, they repeat after any multiple of r.
  pub turns : (u r : ℕ) → 1 ≤ u → Repeats s a u r → (t : ℕ) → power s a (u + t * r) ≡ power s a u
  turns u r hu e zero = ap (power s a) (let z : u + 0 * r ≡ u = omega arith in z)
  turns u r hu e (suc t) =
      ap (power s a) (let z : u + suc t * r ≡ u + r + t * r = omega (arith, suc-mul t r) in z) ∙ shift (u + r) u (t * r) (omega arith) hu e ∙ turns u r hu e t

  -- If powers repeat from u on, then a distance at which they repeat further on is one at which they repeat from u.
  back : (u r i w : ℕ) → 1 ≤ u → 1 ≤ r → Repeats s a u r → Repeats s a (u + i) w → Repeats s a u w
  back u r i w hu hr e f =
      let le : i * 1 ≤ i * r = mul-le-mul_left i hr in
      let d = i * r - i in
      let ahead : power s a (u + i * r + w) ≡ power s a (u + i * r) =
      ap (power s a) (let z : u + i * r + w ≡ u + i + w + d = omega arith in z) ∙ shift (u + i + w) (u + i) d (omega arith) (omega arith) f
      ∙ ap (power s a) (let z : u + i + d ≡ u + i * r = omega arith in z) in
      sym (shift (u + i * r) u w (omega arith) hu (turns u r hu e i)) ∙ ahead ∙ turns u r hu e i

-- There is only one index and one period.
pub index_period_unique : (s : Product) (a p r p' r' : ℕ) → IsIndexPeriod s a p r → IsIndexPeriod s a p' r' → (p ≡ p') × (r ≡ r')
index_period_unique s a p r p' r' x y = (
  le_antisymm (x.least_index p' r' y.index_from_one y.period_from_one y.repeats) (y.least_index p r x.index_from_one x.period_from_one x.repeats),
  le_antisymm (x.least_period p' r' y.index_from_one y.period_from_one y.repeats) (y.least_period p r x.index_from_one x.period_from_one x.repeats),
)

-- ---- index and period of an element

module _ (n : ℕ) (s : Product) (a : ℕ) where
  -- The period found from p on is at most any other distance, up to n, after which the powers repeat.
  period_first : (p r : ℕ) → 1 ≤ r → r ≤ n → Repeats s a p r → period_from n s a p ≤ r
  unfolding period_from
  period_first p r h u e = (least_first n (λ (w : ℕ). eqb (power s a (p + w)) (power s a p)) r (h, u) (eq-eqb (power s a (p + r)) (power s a p) e)).1

  period_holds : (p : ℕ) → period_from n s a p ≤ n → (1 ≤ period_from n s a p) × Repeats s a p (period_from n s a p)
  unfolding period_from
  period_holds p h =
      let r = least_passes n (λ (w : ℕ). eqb (power s a (p + w)) (power s a p)) h in
      (r.0.0, eqb-true (power s a (p + period_from n s a p)) (power s a p) r.1)

  module _ (c : Closed n s) (ha : Element n a) where
    -- Where the powers repeat at all, they repeat with a period of at most n.
    short : (u r : ℕ) → 1 ≤ u → 1 ≤ r → Repeats s a u r → (w : ℕ) × (1 ≤ w) × (w ≤ n) × Repeats s a u w
    short u r hu hr e =
        let k = collide n (λ (i : ℕ). power s a (u + i)) (λ i. power_element s a n c ha (u + i)) in
        let h1 = k.2 in
        let h2 = k.3 in
        let w = k.1 - k.0 in
        (w, omega arith, omega arith, back s a u r k.0 w hu hr e (ap (power s a) (let z : u + k.0 + w ≡ u + k.1 = omega arith in z) ∙ sym k.4))

    -- The index found is at most any other exponent from which the powers repeat.
    index_first : (p r : ℕ) → Element n p → 1 ≤ r → Repeats s a p r → (1 ≤ index n s a) × (index n s a ≤ p) × (period n s a ≤ n)
    unfolding index period
    index_first p r hp hr e =
        let w = short p r hp.0 hr e in
        let w1 = w.1 in
        let w2 = w.2 in
        let m = period_first p w.0 w1 w2 w.3 in
        let f = least_first n (λ (x : ℕ). leb (period_from n s a x) n) p hp (le-leb (period_from n s a p) n (omega arith)) in
        (f.0.0, f.1, leb-true (period_from n s a (index n s a)) n f.2)

    -- Among the first n + 1 powers two are equal.
    pub repeat_early : (p : ℕ) × (r : ℕ) × (1 ≤ p) × (1 ≤ r) × (p + r ≤ n + 1) × (power s a (p + r) ≡ power s a p)
    repeat_early =
        let k = collide n (λ (i : ℕ). power s a (suc i)) (λ i. power_element s a n c ha (suc i)) in
        let h1 = k.2 in
        let h2 = k.3 in
        (suc k.0, k.1 - k.0, omega arith, omega arith, omega arith, ap (power s a) (let z : suc k.0 + (k.1 - k.0) ≡ suc k.1 = omega arith in z) ∙ sym k.4)

    -- Index and period are those of definition 3.2.
    pub index_period_law : IsIndexPeriod s a (index n s a) (period n s a)
    unfolding period
    index_period_law =
        let k = repeat_early in
        let k2 = k.2 in
        let k3 = k.3 in
        let k4 = k.4 in
        let f = index_first k.0 k.1 (k2, omega arith) k3 k.5 in
        let f0 = f.0 in
        let f1 = f.1 in
        let h = period_holds (index n s a) f.2 in
        let below : (p' r' : ℕ) → 1 ≤ p' → 1 ≤ r' → Repeats s a p' r' → index n s a ≤ p' =
        (λ p' r' hp hr e. ⊎_elim (λ (u : p' ≤ n). (index_first p' r' (hp, u) hr e).1) (λ (u : n < p'). omega arith) (at_most_or_above p' n)) in
        record {
          index_from_one = f0;
          period_from_one = h.0;
          repeats = h.1;
          least_index = below;
          least_period = λ p' r' hp hr e.
              let p = index n s a in
              let l = below p' r' hp hr e in
              let f2 = f.2 in
              let here : Repeats s a p r' =
              back s a p (period_from n s a p) (p' - p) r' f0 h.0 h.1 (subst (λ (q : ℕ). Repeats s a q r') (let z : p' ≡ p + (p' - p) = omega arith in z) e) in
              ⊎_elim (λ (u : r' ≤ n). period_first p r' hr u here) (λ (u : n < r'). omega arith) (at_most_or_above r' n);
        }

    -- Always p + r ≤ n + 1.
    pub index_period_bound : index n s a + period n s a ≤ n + 1
    index_period_bound =
        let k = repeat_early in
        let k4 = k.4 in
        omega (arith, index_period_law.least_index k.0 k.1 k.2 k.3 k.5, index_period_law.least_period k.0 k.1 k.2 k.3 k.5)

    -- The first power that equals an earlier one gives both index and period.
    pub index_period_of_first_repeat : (p q : ℕ) → 1 ≤ p → p < q → ((i j : ℕ) → 1 ≤ i → i < j → j < q → power s a i ≡ power s a j → ⊥) → power s a q ≡ power s a p
        → (index n s a ≡ p) × (period n s a ≡ q - p)
    index_period_of_first_repeat p q hp hq apart e =
        let x = index_period_law in
        let x0 = x.index_from_one in
        let x1 = x.period_from_one in
        let again : Repeats s a p (q - p) = ap (power s a) (let z : p + (q - p) ≡ q = omega arith in z) ∙ e in
        let l = x.least_index p (q - p) hp (omega arith) again in
        let m = x.least_period p (q - p) hp (omega arith) again in
        let reached : q ≤ index n s a + period n s a =
        ⊎_elim (λ (u : q ≤ index n s a + period n s a). u)
        (λ (u : index n s a + period n s a < q). absurd (apart (index n s a) (index n s a + period n s a) x0 (omega arith) u (sym x.repeats)))
        (at_most_or_above q (index n s a + period n s a)) in
        (omega arith, omega arith)

-- ---- an embedding keeps powers, index and period

module _ (m : ℕ) (s : Product) (n : ℕ) (t : Product) (f : List ℕ) (F : Embedding m s n t f) (c : Closed m s) (a : ℕ) (h : Element m a) where
  pub power_kept : (k : ℕ) → at f (power s a k) ≡ power t (at f a) k
  unfolding power
  power_kept zero = refl
  power_kept (suc zero) = refl
  power_kept (suc (suc k)) = F.homomorphism.keeps_product (power s a (suc k)) a (power_element s a m c h (suc k)) h ∙ ap (λ (x : ℕ). t x (at f a)) (power_kept (suc k))

  repeats_back : (p r : ℕ) → Repeats t (at f a) p r → Repeats s a p r
  repeats_back p r e =
      F.one_to_one (power s a (p + r)) (power s a p) (power_element s a m c h (p + r)) (power_element s a m c h p) (power_kept (p + r) ∙ e ∙ sym (power_kept p))

  kept : Closed n t → (index n t (at f a) ≡ index m s a) × (period n t (at f a) ≡ period m s a)
  kept d =
      let x = index_period_law m s a c h in
      index_period_unique t (at f a) (index n t (at f a)) (period n t (at f a)) (index m s a) (period m s a) (index_period_law n t (at f a) d (F.homomorphism.within a h))
      (record {
        index_from_one = x.index_from_one;
        period_from_one = x.period_from_one;
        repeats = sym (power_kept (index m s a + period m s a)) ∙ ap (at f) x.repeats ∙ power_kept (index m s a);
        least_index = λ p' r' hp hr e. x.least_index p' r' hp hr (repeats_back p' r' e);
        least_period = λ p' r' hp hr e. x.least_period p' r' hp hr (repeats_back p' r' e);
      })

  pub index_kept : Closed n t → index n t (at f a) ≡ index m s a
  index_kept d = (kept d).0

  pub period_kept : Closed n t → period n t (at f a) ≡ period m s a
  period_kept d = (kept d).1

  -- So the index-periods of an element and of its image are equal.
  pub index_period_kept : Closed n t → same_index_period (index_period m s a) (index_period n t (at f a)) ≡ true
  unfolding index_period same_index_period
  index_period_kept d =
      both (eqb (index m s a) (index n t (at f a))) (eqb (period m s a) (period n t (at f a)))
      (eq-eqb (index m s a) (index n t (at f a)) (sym (index_kept d))) (eq-eqb (period m s a) (period n t (at f a)) (sym (period_kept d)))
