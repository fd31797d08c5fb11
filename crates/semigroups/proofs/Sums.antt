-- Laws of sums and counts over a list. Assumes nothing.
use mathlib.Core.Path.{◌≡◌, refl, sym, ap, ap₂, ◌∙◌}
use mathlib.Core.Bool.{Bool, true, false, cond}
use mathlib.Core.Logic.{◌⊎◌, inl, inr}
use mathlib.Core.List.Memᴰ
use mathlib.Core.List.{List, [], ◌∷◌, ◌++◌, map, flat_map, Memᴰ}
use Prim.Native.Nat.{ℕ, suc, ◌+◌, ◌*◌, ◌≤◌, zero-le}
use native.Mathlib.Nat.{suc-mul, zero-mul}
use native.Mathlib.Omega.{arith}
use borrow.Author.Tests.{eq-eqb, ne_eqb}
use lib.Dec.{eqb}
use lib.ListN.{length}
use Rattle.semigroups.specs.Lists.{range, elements, sum, count}
use Rattle.semigroups.specs.InnerLists.{NoRepeats}
use Rattle.semigroups.specs.Tables.{Element}
use Rattle.semigroups.proofs.Booleans.{equal_or_not}
use Rattle.semigroups.proofs.Lists.{elements_mem, range_snoc}
use Rattle.semigroups.proofs.NoRepeats.{elements_no_repeats}

module _ {A : Type 0} where
  pub sum_same : (v w : A → ℕ) (l : List A) → ((x : A) → Memᴰ x l → v x ≡ w x) → sum v l ≡ sum w l
  unfolding sum
  sum_same v w [] h = refl
  sum_same v w (x ∷ l) h = ap₂ (λ (a b : ℕ). a + b) (h x (Memᴰ.head refl)) (sum_same v w l (λ y m. h y (Memᴰ.tail m)))

  pub count_same : (p q : A → Bool) (l : List A) → ((x : A) → Memᴰ x l → p x ≡ q x) → count p l ≡ count q l
  unfolding count
  count_same p q l h = sum_same (λ x. cond (p x) 1 0) (λ x. cond (q x) 1 0) l (λ x m. ap (λ (b : Bool). cond b 1 0) (h x m))

  pub sum_append : (w : A → ℕ) (l r : List A) → sum w (l ++ r) ≡ sum w l + sum w r
  unfolding sum
  sum_append w [] r = let z : sum w r ≡ 0 + sum w r = omega arith in z
  sum_append w (x ∷ l) r = let e = sum_append w l r in omega arith

  pub sum_add : (v w : A → ℕ) (l : List A) → sum (λ x. v x + w x) l ≡ sum v l + sum w l
  unfolding sum
  sum_add v w [] = refl
  sum_add v w (x ∷ l) = let e = sum_add v w l in omega arith

  pub sum_constant : (k : ℕ) (l : List A) → sum (λ (x : A). k) l ≡ length l * k
  unfolding sum
  sum_constant k [] = sym (zero-mul k)
  sum_constant k (x ∷ l) = let e = sum_constant k l in omega (arith, suc-mul (length l) k)

  sum_zeros : (l : List A) → sum (λ (x : A). 0) l ≡ 0
  unfolding sum
  sum_zeros [] = refl
  sum_zeros (x ∷ l) = let e = sum_zeros l in omega arith

  pub count_at_most : (p : A → Bool) (l : List A) → count p l ≤ length l
  unfolding count sum
  count_at_most p [] = zero-le
  count_at_most p (x ∷ l) =
      let h = count_at_most p l in
      elim (p x) as (λ b. cond b 1 0 + sum (λ y. cond (p y) 1 0) l ≤ suc (length l)) [ true ↦ omega arith | false ↦ omega arith ]

-- A sum over k + 1 consecutive numbers is the sum over the first k and the last value.
pub sum_more : (w : ℕ → ℕ) (i k : ℕ) → sum w (range i (suc k)) ≡ sum w (range i k) + w (i + k)
unfolding sum
sum_more w i k = ap (sum w) (range_snoc i k) ∙ sum_append w (range i k) ((i + k) ∷ []) ∙ ap (λ (x : ℕ). sum w (range i k) + x) (let z : w (i + k) + 0 ≡ w (i + k) = omega arith in z)

module _ {A B : Type 0} where
  pub sum_map : (w : B → ℕ) (g : A → B) (l : List A) → sum w (map g l) ≡ sum (λ x. w (g x)) l
  unfolding sum
  sum_map w g [] = refl
  sum_map w g (x ∷ l) = ap (λ (b : ℕ). w (g x) + b) (sum_map w g l)

  pub count_map : (p : B → Bool) (g : A → B) (l : List A) → count p (map g l) ≡ count (λ x. p (g x)) l
  unfolding count
  count_map p g l = sum_map (λ y. cond (p y) 1 0) g l

  pub sum_flat_map : (w : B → ℕ) (g : A → List B) (l : List A) → sum w (flat_map g l) ≡ sum (λ x. sum w (g x)) l
  unfolding sum flat_map
  sum_flat_map w g [] = refl
  sum_flat_map w g (x ∷ l) = sum_append w (g x) (flat_map g l) ∙ ap (λ (b : ℕ). sum w (g x) + b) (sum_flat_map w g l)

  -- Two sums may be taken in either order.
  pub sum_swap : (w : A → B → ℕ) (l : List A) (r : List B) → sum (λ x. sum (w x) r) l ≡ sum (λ y. sum (λ x. w x y) l) r
  unfolding sum
  sum_swap w [] r = sym (sum_zeros r)
  sum_swap w (x ∷ l) r = ap (λ (b : ℕ). sum (w x) r + b) (sum_swap w l r) ∙ sym (sum_add (w x) (λ y. sum (λ z. w z y) l) r)

-- ---- how often a number stands in a list

-- A number that stands in a list with no entry twice stands there once.
pub count_once : (x : ℕ) (l : List ℕ) → NoRepeats l → Memᴰ x l → count (eqb x) l ≡ 1
unfolding count sum
count_once x [] u m = absurd (Memᴰ.not-nil m)
count_once x (y ∷ l) u m = go (equal_or_not x y) (λ k. count_once x l u.1 k) (Memᴰ.cases_cons m)
  where
    nowhere : x ≡ y → sum (λ z. cond (eqb x z) 1 0) l ≡ 0
    nowhere e = sum_same (λ z. cond (eqb x z) 1 0) (λ z. 0) l (λ z k. ap (λ (b : Bool). cond b 1 0) (ne_eqb x z (λ q. u.0 z k (sym e ∙ q)))) ∙ sum_zeros l

    go : (x ≡ y) ⊎ (x ≡ y → ⊥) → (Memᴰ x l → sum (λ z. cond (eqb x z) 1 0) l ≡ 1) → (x ≡ y) ⊎ Memᴰ x l → cond (eqb x y) 1 0 + sum (λ z. cond (eqb x z) 1 0) l ≡ 1
    go (inl e) below k = ap₂ (λ (a b : ℕ). a + b) (ap (λ (b : Bool). cond b 1 0) (eq-eqb x y e)) (nowhere e)
    go (inr ne) below (inl e) = absurd (ne e)
    go (inr ne) below (inr k) = ap₂ (λ (a b : ℕ). a + b) (ap (λ (b : Bool). cond b 1 0) (ne_eqb x y ne)) (below k)

pub count_element : (n x : ℕ) → Element n x → count (eqb x) (elements n) ≡ 1
count_element n x h = count_once x (elements n) (elements_no_repeats n) (elements_mem n x h)
