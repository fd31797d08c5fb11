-- Walking through the powers of an element while noting when each was met first: the first power that was met before gives index and period, the walk is
-- over after at most n steps, and among its powers is the idempotent one. Assumes nothing.
use mathlib.Core.Path.{◌≡◌, refl, sym, ap, ◌∙◌, subst}
use mathlib.Core.Logic.{⊎_elim}
use mathlib.Core.List.{List}
use Prim.Native.Nat.{ℕ, ◌+◌, ◌-◌, ◌*◌, ◌/◌, ◌≤◌, ◌<◌}
use native.Mathlib.Numerals.{add-one}
use native.Mathlib.Omega.{arith}
use lib.ListN.{length, get_or, set, replicate, length-set, length-replicate}
use lib.Seq.{get_or-set_same, get_or-set_other}
use Rattle.semigroups.specs.Tables.{Product, product, Element, Associative, Filled}
use Rattle.semigroups.specs.TablesLaws.{Closed}
use Rattle.semigroups.specs.Invariants.{power, index, period, index_period}
use Rattle.semigroups.proofs.Booleans.{equal_or_not, at_most_or_above}
use Rattle.semigroups.proofs.Tables.{product_element}
use Rattle.semigroups.proofs.IndexPeriod.{power_one, power_next, power_element, repeat_early, index_period_law, index_period_bound, index_period_of_first_repeat}
use Rattle.semigroups.proofs.Idempotents.{multiple_between, idempotent_power_at}
use Rattle.products.specs.InnerPerElement.{per_element}
use Rattle.invariants.specs.InnerPowers.{settling, settled}
use Rattle.products.proofs.Values.{get_d_zeros}
use Rattle.products.proofs.PerElement.{per_element_at, fill_start, fill_step}

-- The powers before k were noted, each at its own place, and nothing else was.
pub record Noted (s : Product) (a k : ℕ) (met : List ℕ) : Type 0 where
  pub each : (i : ℕ) → 1 ≤ i → i < k → get_or met (power s a i) 0 ≡ i
  pub only : (x : ℕ) → (get_or met x 0 ≡ 0 → ⊥) → (get_or met x 0 < k) × (power s a (get_or met x 0) ≡ x)

-- The walk has reached power k, which is x; the powers before k stand at places given by their exponents.
pub record Walked (n : ℕ) (s : Product) (a : ℕ) (met walk : List ℕ) (x k : ℕ) : Type 0 where
  pub size : length met ≡ 121
  pub from_one : 1 ≤ k
  pub to_end : k ≤ n + 1
  pub element : Element n x
  pub reached : x ≡ power s a k
  pub noted : Noted s a k met
  pub by_exponent : walk ≡ per_element (k - 1) (power s a)

pub walk_start : (n : ℕ) (s : Product) (a : ℕ) → Element n a → Walked n s a (replicate 121 0) (replicate 120 0) a 1
walk_start n s a h =
    record {
      size = length-replicate {A = ℕ} 121 0;
      from_one = omega arith;
      to_end = omega arith;
      element = h;
      reached = sym (power_one s a);
      noted = record { each = λ i lo hi. absurd (let z : ⊥ = omega arith in z); only = λ x ne. absurd (ne (get_d_zeros 121 x)) };
      by_exponent = fill_start (power s a);
    }

module _ (n : ℕ) (s : Product) (a : ℕ) (c : Closed n s) (ha : Element n a) (met walk : List ℕ) (x k : ℕ) (w : Walked n s a met walk x k) where
  apart : (i j : ℕ) → 1 ≤ i → i < j → j < k → power s a i ≡ power s a j → ⊥
  apart i j lo h hi e =
      let p = w.noted.each i lo (omega arith) in
      let q = w.noted.each j (omega arith) hi in
      let r = ap (λ (y : ℕ). get_or met y 0) e in
      let z : ⊥ = omega arith in z

  -- A power that was not met yet is one of the first n.
  pub walk_short : get_or met x 0 ≡ 0 → k ≤ n
  walk_short fresh = ⊎_elim (λ (u : k ≤ n). u) (λ (u : n < k). absurd (late u)) (at_most_or_above k n)
    where
      late : n < k → ⊥
      late u =
          let e = repeat_early n s a c ha in
          let p = e.0 in
          let r = e.1 in
          let e2 = e.2 in
          let e3 = e.3 in
          let e4 = e.4 in
          let again = e.5 in
          ⊎_elim
          (λ (q : p + r ≡ k).
          let met-at-p = w.noted.each p e2 (omega arith) in
          let same : get_or met (power s a p) 0 ≡ get_or met x 0 = ap (λ (y : ℕ). get_or met y 0) (sym again ∙ ap (power s a) q ∙ sym w.reached) in
          let z : ⊥ = omega arith in z)
          (λ (q : p + r ≡ k → ⊥). apart p (p + r) e2 (omega arith) (omega arith) (sym again)) (equal_or_not (p + r) k)

  -- The walk takes one more step.
  module _ (limit : n ≤ 120) (fresh : get_or met x 0 ≡ 0) where
    noted_here : get_or (set met x k) x 0 ≡ k
    noted_here = let size = w.size in let e = w.element in get_or-set_same met x k 0 (omega arith)

    each_next : (i : ℕ) → 1 ≤ i → i < k + 1 → get_or (set met x k) (power s a i) 0 ≡ i
    each_next i lo hi = ⊎_elim here before (equal_or_not i k)
      where
        here : i ≡ k → get_or (set met x k) (power s a i) 0 ≡ i
        here q = ap (λ (v : ℕ). get_or (set met x k) v 0) (ap (power s a) q ∙ sym w.reached) ∙ noted_here ∙ sym q

        before : (i ≡ k → ⊥) → get_or (set met x k) (power s a i) 0 ≡ i
        before q =
            let old = w.noted.each i lo (omega arith) in
            let other : power s a i ≡ x → ⊥ = (λ r. let same = ap (λ (v : ℕ). get_or met v 0) r in let z : ⊥ = omega arith in z) in
            get_or-set_other met x (power s a i) k 0 other ∙ old

    only_next : (v : ℕ) → (get_or (set met x k) v 0 ≡ 0 → ⊥) → (get_or (set met x k) v 0 < k + 1) × (power s a (get_or (set met x k) v 0) ≡ v)
    only_next v ne = ⊎_elim here before (equal_or_not v x)
      where
        here : v ≡ x → (get_or (set met x k) v 0 < k + 1) × (power s a (get_or (set met x k) v 0) ≡ v)
        here q =
            let e : get_or (set met x k) v 0 ≡ k = ap (λ (u : ℕ). get_or (set met x k) u 0) q ∙ noted_here in
            (let z : get_or (set met x k) v 0 < k + 1 = omega arith in z, ap (power s a) e ∙ sym w.reached ∙ sym q)

        before : (v ≡ x → ⊥) → (get_or (set met x k) v 0 < k + 1) × (power s a (get_or (set met x k) v 0) ≡ v)
        before q =
            let e = get_or-set_other met x v k 0 q in
            let old = w.noted.only v (λ z. ne (e ∙ z)) in
            let below = old.0 in
            (let z : get_or (set met x k) v 0 < k + 1 = omega arith in z, ap (power s a) e ∙ old.1)

    pub walk_step : (y : ℕ) → y ≡ s x a → Walked n s a (set met x k) (set walk (k - 1) x) y (k + 1)
    walk_step y e =
        let short = walk_short fresh in
        let next : y ≡ power s a (k + 1) = e ∙ ap (λ (v : ℕ). s v a) w.reached ∙ sym (power_next s a k w.from_one) ∙ ap (power s a) (sym (add-one k)) in
        record {
          size = length-set met x k ∙ w.size;
          from_one = omega arith;
          to_end = omega arith;
          element = subst (Element n) (sym next) (power_element s a n c ha (k + 1));
          reached = next;
          noted = record { each = each_next; only = only_next };
          by_exponent = fill_step (power s a) k x walk w.by_exponent (w.from_one, omega arith) w.reached;
        }

  -- At a power that was met before, the walk gives the index, and the distance to that meeting is the period.
  pub walk_end : (get_or met x 0 ≡ 0 → ⊥) → (1 ≤ get_or met x 0) × (get_or met x 0 < k) × (get_or met x 0 ≡ index n s a) × (k - get_or met x 0 ≡ period n s a)
  walk_end old =
      let r = w.noted.only x old in
      let r0 = r.0 in
      let first : 1 ≤ get_or met x 0 = omega arith in
      let both = index_period_of_first_repeat n s a c ha (get_or met x 0) k first r0 apart (sym w.reached ∙ sym r.1) in
      (first, r0, sym both.0, sym both.1)

  -- What the walk finds then: the first multiple of the period from the index on is the last one in the walk.
  module _ (old : get_or met x 0 ≡ 0 → ⊥) where
    abbrev p : ℕ
    p = get_or met x 0

    abbrev exponent : ℕ
    exponent = (k - 1) / (k - p) * (k - p)

    ahead : (y : ℕ) → y ≡ k - 1 → y / (k - p) * (k - p) ≡ exponent
    ahead y e = ap (λ (z : ℕ). z / (k - p) * (k - p)) e

    pub exponent_within : (1 ≤ p) × (p < k) × Element (k - 1) exponent
    exponent_within =
        let e = walk_end old in
        let e0 = e.0 in
        let e1 = e.1 in
        let b = multiple_between p (k - p) e0 (omega arith) in
        let b0 = b.0 in
        let b1 = b.1 in
        let q = ahead (p + (k - p) - 1) (omega arith) in
        (e0, e1, (omega arith, omega arith))

    -- That power is read from the walk.
    pub exponent_read : get_or walk (exponent - 1) 0 ≡ power s a exponent
    exponent_read = ap (λ (l : List ℕ). get_or l (exponent - 1) 0) w.by_exponent ∙ per_element_at (k - 1) (power s a) exponent exponent_within.2

    pub walk_settled : record { index = p; period = k - p; idempotent = get_or walk (exponent - 1) 0 } ≡ settled n s a
    unfolding settled settling
    walk_settled =
        let e = walk_end old in
        let e0 = e.0 in
        let e1 = e.1 in
        let i = e.2 in
        let r = e.3 in
        let q = exponent_read ∙ ap (power s a) (sym (ahead (p + (k - p) - 1) (omega arith))) in
        cc

-- If the table is associative, that power is the idempotent one.
pub settled_idempotent : (n : ℕ) (cells : List ℕ) (a : ℕ) → Filled n cells → Associative n (product n cells) → Element n a → settled n (product n cells) a ≡ index_period n (product n cells) a
unfolding settled settling index_period
settled_idempotent n cells a t assoc h =
    let s = product n cells in
    let c = product_element n cells t.size t.in_range in
    let x = index_period_law n s a c h in
    let p = index n s a in
    let r = period n s a in
    let e = idempotent_power_at n s c assoc a h ((p + r - 1) / r * r) ((p + r - 1) / r) (multiple_between p r x.index_from_one x.period_from_one).0 refl in
    cc

pub index_at_most : (n : ℕ) (s : Product) (a : ℕ) → Closed n s → Element n a → index n s a ≤ n
index_at_most n s a c h = let r = (index_period_law n s a c h).period_from_one in omega (arith, index_period_bound n s a c h)

pub period_at_most : (n : ℕ) (s : Product) (a : ℕ) → Closed n s → Element n a → period n s a ≤ n
period_at_most n s a c h = let p = (index_period_law n s a c h).index_from_one in omega (arith, index_period_bound n s a c h)
