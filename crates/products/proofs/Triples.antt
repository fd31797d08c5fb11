-- The search for a triple, tried as three nested loops do: what is left of it from the first entry i on, from the pair i, j on, and from the triple
-- i, j, k on. This is for any test of triples, and then for the test of whether one associates. Assumes nothing.
use mathlib.Core.Path.{◌≡◌, ap, ◌∙◌}
use mathlib.Core.Bool.{Bool, true, false, not, cond}
use mathlib.Core.Logic.{⊎_elim}
use mathlib.Core.List.{List, [], ◌∷◌}
use mathlib.Core.Option.{Option, none, some}
use Prim.Native.Nat.{ℕ, ◌+◌, ◌-◌, ◌≤◌, ◌<◌}
use native.Mathlib.Omega.{arith}
use borrow.Author.Tests.{eq-eqb, ne_eqb, not-true, not-false}
use Rattle.semigroups.specs.Lists.{range, elements, at, find, lists}
use Rattle.semigroups.specs.Tables.{Product, product, Element, associates}
use Rattle.semigroups.proofs.Booleans.{unfalse, not_of_true, not_of_false}
use Rattle.semigroups.proofs.Lists.{mem_elements, elements_mem, find_some, find_none, find_first, sorted_range}
use Rattle.semigroups.proofs.Completions.{find_first_of, first_from, first_start, first_skip, first_hit, first_end}
use Rattle.products.proofs.Remaining.{remaining, begin, enter, pass, hit, skip, leave}

module _ (test : List ℕ → Bool) (n : ℕ) where
  unfoldable pub from_first : ℕ → Option (List ℕ)
  from_first i = remaining test n 2 [] i none

  unfoldable pub from_pair : ℕ → ℕ → Option (List ℕ)
  from_pair i j = remaining test n 1 (i ∷ []) j (from_first (i + 1))

  unfoldable pub from_triple : ℕ → ℕ → ℕ → Option (List ℕ)
  from_triple i j k = remaining test n 0 (i ∷ j ∷ []) k (from_pair i (j + 1))

  pub triples_begin : find test (lists 3 n) ≡ from_first 1
  unfolding from_first
  triples_begin = begin test n 2

  pub first_enter : (i : ℕ) → i ≤ n → from_first i ≡ from_pair i 1
  unfolding from_first from_pair
  first_enter i h = enter test n 1 [] i none h

  pub pair_enter : (i j : ℕ) → j ≤ n → from_pair i j ≡ from_triple i j 1
  unfolding from_pair from_triple
  pair_enter i j h = enter test n 0 (i ∷ []) j (from_first (i + 1)) h

  pub triple_pass : (i j k : ℕ) → k ≤ n → test (i ∷ j ∷ k ∷ []) ≡ false → from_triple i j k ≡ from_triple i j (k + 1)
  unfolding from_triple
  triple_pass i j k h e = pass test n (i ∷ j ∷ []) k (from_pair i (j + 1)) h e

  pub triple_hit : (i j k : ℕ) → k ≤ n → test (i ∷ j ∷ k ∷ []) ≡ true → from_triple i j k ≡ some (i ∷ j ∷ k ∷ [])
  unfolding from_triple
  triple_hit i j k h e = hit test n (i ∷ j ∷ []) k (from_pair i (j + 1)) h e

  pub triple_leave : (i j k : ℕ) → n < k → from_triple i j k ≡ from_pair i (j + 1)
  unfolding from_triple
  triple_leave i j k h = leave test n 0 (i ∷ j ∷ []) k (from_pair i (j + 1)) h

  triples_skip : (i j m : ℕ) → m ≤ n → ((k : ℕ) → Element m k → test (i ∷ j ∷ k ∷ []) ≡ false) → from_triple i j 1 ≡ from_triple i j (m + 1)
  unfolding from_triple
  triples_skip i j m h e = skip test n (i ∷ j ∷ []) (from_pair i (j + 1)) m h e

  -- A pair none of whose triples pass is passed over.
  pub pair_skip : (i j : ℕ) → j ≤ n → ((k : ℕ) → Element n k → test (i ∷ j ∷ k ∷ []) ≡ false) → from_pair i j ≡ from_pair i (j + 1)
  pair_skip i j h e = pair_enter i j h ∙ triples_skip i j n (omega arith) e ∙ triple_leave i j (n + 1) (omega arith)

  -- If the triples of a pair before k do not pass and that with k does, it is found.
  pub pair_hit : (i j k : ℕ) → j ≤ n → Element n k → ((x : ℕ) → Element (k - 1) x → test (i ∷ j ∷ x ∷ []) ≡ false) → test (i ∷ j ∷ k ∷ []) ≡ true → from_pair i j ≡ some (i ∷ j ∷ k ∷ [])
  pair_hit i j k h u e t =
      pair_enter i j h ∙ triples_skip i j (k - 1) (omega arith) e ∙ ap (from_triple i j) (let z : k - 1 + 1 ≡ k = omega arith in z) ∙ triple_hit i j k u.1 t

  pub pair_leave : (i j : ℕ) → n < j → from_pair i j ≡ from_first (i + 1)
  unfolding from_pair
  pair_leave i j h = leave test n 1 (i ∷ []) j (from_first (i + 1)) h

  pub triples_end : (i : ℕ) → n < i → from_first i ≡ none
  unfolding from_first
  triples_end i h = leave test n 2 [] i none h

-- ---- triples that do not associate

module _ (s : Product) where
  -- Whether the triple t does not associate.
  abbrev pub fails : List ℕ → Bool
  fails t = not (associates s (at t 1) (at t 2) (at t 3))

  module _ (i j k : ℕ) where
    pub no_failing : s (s i j) k ≡ s i (s j k) → fails (i ∷ j ∷ k ∷ []) ≡ false
    unfolding associates at
    no_failing e = not_of_true (associates s i j k) (eq-eqb (s (s i j) k) (s i (s j k)) e)

    pub failing : (s (s i j) k ≡ s i (s j k) → ⊥) → fails (i ∷ j ∷ k ∷ []) ≡ true
    unfolding associates at
    failing e = not_of_false (associates s i j k) (ne_eqb (s (s i j) k) (s i (s j k)) e)

-- ---- the last entry alone

module _ (s : Product) (n i j : ℕ) where
  -- The number k, if the triple i, j, k does not associate.
  abbrev failing_at : ℕ → Option ℕ
  failing_at k = cond (not (associates s i j k)) (some k) none

  -- The first such number from k on.
  unfoldable pub failing_from : ℕ → Option ℕ
  failing_from k = first_from failing_at n k

  pub third_begin : find (λ k. not (associates s i j k)) (elements n) ≡ failing_from 1
  unfolding failing_from
  third_begin = find_first_of (λ k. not (associates s i j k)) (elements n) ∙ first_start failing_at n

  module _ (k : ℕ) (h : k ≤ n) where
    pub third_pass : not (associates s i j k) ≡ false → failing_from k ≡ failing_from (k + 1)
    unfolding failing_from
    third_pass e = first_skip failing_at n k h (rw e)

    pub third_hit : not (associates s i j k) ≡ true → failing_from k ≡ some k
    unfolding failing_from
    third_hit e = first_hit failing_at n k k h (rw e)

  pub third_pass_two : (k : ℕ) → k < n → not (associates s i j k) ≡ false → not (associates s i j (k + 1)) ≡ false → failing_from k ≡ failing_from (k + 2)
  third_pass_two k h e f = third_pass k (omega arith) e ∙ third_pass (k + 1) (omega arith) f ∙ ap failing_from (let z : k + 1 + 1 ≡ k + 2 = omega arith in z)

  pub third_end : (k : ℕ) → n < k → failing_from k ≡ none
  unfolding failing_from
  third_end k h = first_end failing_at n k h

  -- If there is no such number, every triple i, j, k associates.
  pub third_none : find (λ k. not (associates s i j k)) (elements n) ≡ none → (k : ℕ) → Element n k → associates s i j k ≡ true
  third_none e k h = not-false (associates s i j k) (find_none (λ k. not (associates s i j k)) (elements n) e k (elements_mem n k h))

  module _ (k : ℕ) (e : find (λ k. not (associates s i j k)) (elements n) ≡ some k) where
    pub third_some : Element n k × (associates s i j k ≡ false)
    third_some = let r = find_some (λ k. not (associates s i j k)) (elements n) k e in (mem_elements n k r.0, not-true (associates s i j k) r.1)

    pub third_before : (x : ℕ) → Element (k - 1) x → associates s i j x ≡ true
    unfolding elements
    third_before x h = unfalse (associates s i j x) (λ f.
        let top = third_some.0.1 in
        ⊎_elim (λ (q : x ≡ k). let z : ⊥ = omega arith in z) (λ (q : k < x). let z : ⊥ = omega arith in z)
        (find_first ◌<◌ (λ k. not (associates s i j k)) (range 1 n) (sorted_range 1 n) k e x (elements_mem n x (let z : Element n x = omega arith in z)) (not_of_false (associates s i j x) f)))

-- What is compared for the triple i, j, k of a table is its two products.
pub compared : (n : ℕ) (cells : List ℕ) (i j k ij jk left right : ℕ) → ij ≡ product n cells i j → jk ≡ product n cells j k → left ≡ product n cells ij k → right ≡ product n cells i jk
    → (left ≡ product n cells (product n cells i j) k) × (right ≡ product n cells i (product n cells j k))
compared n cells i j k ij jk left right e1 e2 e3 e4 = (e3 ∙ ap (λ (x : ℕ). product n cells x k) e1, e4 ∙ ap (product n cells i) e2)
