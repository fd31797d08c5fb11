-- Classes of numbers under a test that is an equivalence on those that are let in, each named by its lowest number. Assumes nothing.
use mathlib.Core.Path.{◌≡◌, refl, ap, ◌∙◌}
use mathlib.Core.Bool.{Bool, true, false, ◌&&◌, cond}
use mathlib.Core.Logic.{◌↔◌, ⊎_elim}
use mathlib.Core.List.{List, Memᴰ}
use Prim.Native.Nat.{ℕ, ◌≤◌, ◌<◌}
use native.Mathlib.Nat.{le_antisymm, le_refl}
use native.Mathlib.Omega.{arith}
use borrow.Author.Tests.{eq-eqb, eqb-true}
use lib.Dec.{eqb}
use Rattle.semigroups.specs.Lists.{range, elements, keep, sum, count, least}
use Rattle.semigroups.specs.InnerLists.{Sorted, NoRepeats}
use Rattle.semigroups.specs.Tables.{Element}
use Rattle.semigroups.proofs.Booleans.{both, and_left, and_right, at_most_or_above}
use Rattle.semigroups.proofs.Lists.{mem_elements, elements_mem, mem_keep, keep_mem, sorted_keep, sorted_range, sorted_weaken, least_first}
use Rattle.semigroups.proofs.Sums.{sum_same, sum_constant, sum_swap, count_once}

-- A test that is an equivalence on the numbers that are let in.
pub record Equivalence (ok : ℕ → Bool) (R : ℕ → ℕ → Bool) : Type 0 where
  pub reflexive : (k : ℕ) → ok k ≡ true → R k k ≡ true
  pub symmetric : (j k : ℕ) → R j k ≡ true → R k j ≡ true
  pub transitive : (i j k : ℕ) → R i j ≡ true → R j k ≡ true → R i k ≡ true
  pub let_in : (j k : ℕ) → R j k ≡ true → ok j ≡ true

module _ (ok : ℕ → Bool) (R : ℕ → ℕ → Bool) (E : Equivalence ok R) where
  -- The lowest number that is like k.
  abbrev low : ℕ → ℕ
  low k = least k (λ j. R j k)

  lowest_below : (j k : ℕ) → Element k j → R j k ≡ true → low k ≤ j
  lowest_below j k h e = (least_first k (λ i. R i k) j h e).1

  pub lowest_like : (k : ℕ) → 1 ≤ k → ok k ≡ true → Element k (low k) × (R (low k) k ≡ true)
  lowest_like k h e = let r = least_first k (λ i. R i k) k (h, le_refl k) (E.reflexive k e) in (r.0, r.2)

  lowest_le : (j k : ℕ) → 1 ≤ j → 1 ≤ k → R j k ≡ true → low k ≤ low j
  lowest_le j k hj hk e =
      let a = low j in
      let r = lowest_like j hj (E.let_in j k e) in
      let r0 = r.0 in
      let q = E.transitive a j k r.1 e in
      ⊎_elim (λ (h : j ≤ k). lowest_below a k (omega arith) q)
      (λ (h : k < j). let u = lowest_below k j (omega arith) (E.symmetric j k e) in lowest_below a k (omega arith) q) (at_most_or_above j k)

  -- Two numbers that are let in have the same lowest number exactly if they are alike.
  pub one_class : (j k : ℕ) → 1 ≤ j → 1 ≤ k → ok j ≡ true → ok k ≡ true → (low j ≡ low k) ↔ (R j k ≡ true)
  one_class j k hj hk oj ok' = (
    (λ e.
        let a = lowest_like j hj oj in
        let b = lowest_like k hk ok' in
        E.transitive j (low j) k (E.symmetric (low j) j a.1) (ap (λ (x : ℕ). R x k) e ∙ b.1)),
    λ e. le_antisymm (lowest_le k j hk hj (E.symmetric j k e)) (lowest_le j k hj hk e),
  )

  -- The lowest is let in and is its own lowest.
  pub lowest_own : (k : ℕ) → 1 ≤ k → ok k ≡ true → (ok (low k) ≡ true) × (low (low k) ≡ low k)
  lowest_own k h e =
      let r = lowest_like k h e in
      let oa = E.let_in (low k) k r.1 in
      (oa, (one_class (low k) k r.0.0 h oa e).1 r.1)

  -- The lowest number like k is one that is like k, if no lower number that is its own lowest is like k.
  pub lowest_is : (k a : ℕ) → Element k a → R a k ≡ true → ((i : ℕ) → Element k i → i < a → ok i ≡ true → low i ≡ i → R i k ≡ true → ⊥) → low k ≡ a
  lowest_is k a h e none =
      let ok' = E.let_in k a (E.symmetric a k e) in
      let r = lowest_like k (omega arith) ok' in
      let own = lowest_own k (omega arith) ok' in
      let r0 = r.0 in
      le_antisymm (lowest_below a k h e) (⊎_elim (λ (u : a ≤ low k). u) (λ (u : low k < a). absurd (none (low k) r0 u own.0 own.1 r.1)) (at_most_or_above a (low k)))

  -- ---- totals over 1 to n

  -- The numbers that are their own lowest, in rising order.
  abbrev firsts : ℕ → List ℕ
  firsts n = keep (λ k. ok k && eqb (low k) k) (elements n)

  pub firsts_rise : (n : ℕ) → Sorted ◌<◌ (firsts n)
  unfolding elements
  firsts_rise n = sorted_keep ◌<◌ (λ k. ok k && eqb (low k) k) (range 1 n) (sorted_range 1 n)

  firsts_apart : (n : ℕ) → NoRepeats (firsts n)
  firsts_apart n = sorted_weaken ◌<◌ (λ (x y : ℕ). x ≡ y → ⊥) (λ x y h e. let z : ⊥ = omega arith in z) (firsts n) (firsts_rise n)

  pub first_exactly : (n a : ℕ) → Memᴰ a (firsts n) ↔ ((Element n a × (ok a ≡ true)) × (low a ≡ a))
  first_exactly n a = (
    (λ m.
        let r = mem_keep (λ k. ok k && eqb (low k) k) (elements n) a m in
        ((mem_elements n a r.0, and_left (ok a) (eqb (low a) a) r.1), eqb-true (low a) a (and_right (ok a) (eqb (low a) a) r.1))),
    λ p. keep_mem (λ k. ok k && eqb (low k) k) (elements n) a (elements_mem n a p.0.0) (both (ok a) (eqb (low a) a) p.0.1 (eq-eqb (low a) a p.1)),
  )

  -- The lowest number of each number that is let in stands among them once.
  pub counted_once : (n k : ℕ) → Element n k → ok k ≡ true → count (eqb (low k)) (firsts n) ≡ 1
  counted_once n k h e =
      let r = lowest_like k h.0 e in
      let r0 = r.0 in
      let own = lowest_own k h.0 e in
      count_once (low k) (firsts n) (firsts_apart n) ((first_exactly n (low k)).1 ((omega arith, own.0), own.1))

  -- All classes together have as many members as numbers are let in.
  pub totals_sum : (n : ℕ) → sum (λ a. count (λ k. ok k && eqb (low k) a) (elements n)) (firsts n) ≡ count ok (elements n)
  unfolding count
  totals_sum n =
      sum_swap (λ a k. cond (ok k && eqb (low k) a) 1 0) (firsts n) (elements n)
      ∙ sum_same (λ k. sum (λ a. cond (ok k && eqb (low k) a) 1 0) (firsts n)) (λ k. cond (ok k) 1 0) (elements n) (λ k m. go k (mem_elements n k m) (ok k) refl)
    where
      go : (k : ℕ) → Element n k → (b : Bool) → ok k ≡ b → sum (λ a. cond (b && eqb (low k) a) 1 0) (firsts n) ≡ cond b 1 0
      go k h true e = counted_once n k h e
      go k h false e = let z = sum_constant {A = ℕ} 0 (firsts n) in omega arith
