-- Constraints and the pairs of the new element decide what all pairs decide. The idea: a pair placed before can fail now only if its product is the new
-- element and its target product is not the new image, or the other way round. Assumes nothing.
use mathlib.Core.Path.{◌≡◌, refl, sym, ap, ap₂, subst, ◌∙◌}
use mathlib.Core.Logic.{◌⊎◌, inl, inr, ⊎_elim}
use mathlib.Core.Bool.{Bool, true, false, cond, not, ◌&&◌, ◌||◌, and-true, or-true, or-false, or_assoc}
use mathlib.Core.List.{List, [], ◌∷◌, ◌++◌, Memᴰ}
use Prim.Native.Nat.{ℕ, suc, ◌+◌, ◌-◌, ◌≤◌, ◌<◌, max}
use native.Mathlib.Nat.{eq-or-lt_of_le, le-max_left, max-le}
use native.Mathlib.Omega.{arith}
use borrow.Author.Tests.{eqb-true, eqb-false, eq-eqb, ne_eqb, le-leb, lt-leb, leb-true, leb-false, not-true}
use lib.Dec.{eqb, leb}
use lib.ListN.{length, get_or, set}
use lib.Seq.{get_or-set_same, get_or-set_other}
use Rattle.semigroups.specs.Lists.{elements, at, all, member}
use Rattle.semigroups.specs.Tables.{Product, Element}
use Rattle.semigroups.specs.TablesLaws.{Closed}
use Rattle.semigroups.specs.Trials.{fits, passes}
use Rattle.semigroups.proofs.Booleans.{clash, untrue, same_truth, both, and_left, and_right, or_holds}
use Rattle.semigroups.proofs.Lists.{each_at, each_of, pairs_at, pairs_of, at_front, at_seam, length_snoc, not_member}
use Rattle.semigroups.proofs.NoRepeats.{place_mem}
use Rattle.constraints.specs.InnerConstraints.{permits, merge, asked_at, image_product, asks, agree_on, cross, new_fits, near_fits, Reads}

-- ---- one more value is required

merge_permits : (v y₀ y : ℕ) → 1 ≤ y₀ → y ≤ 120 → permits (merge v y₀) y ≡ (permits v y && eqb y₀ y)
merge_permits v y₀ y lo hi =
    elim (eqb v 0) as (λ w. eqb v 0 ≡ w → permits (cond (w || eqb v y₀) y₀ 255) y ≡ ((w || eqb v y) && eqb y₀ y)) [
      | true ↦ (λ _. ap (λ (b : Bool). b || eqb y₀ y) (ne_eqb y₀ 0 (λ e. let z : ⊥ = omega arith in z)))
      | false ↦ (λ z. elim (eqb v y₀) as (λ w. eqb v y₀ ≡ w → permits (cond w y₀ 255) y ≡ (eqb v y && eqb y₀ y)) [
        | true ↦ (λ e. let q = eqb-true v y₀ e in rw (ne_eqb y₀ 0 (omega arith), q) (elim (eqb y₀ y) as (λ b. b ≡ (b && b)) [ true ↦ refl | false ↦ refl ]))
        | false ↦ (λ e.
            let ne = eqb-false v y₀ e in
            rw (ne_eqb 255 y (omega arith)) (sym (untrue (eqb v y && eqb y₀ y) (λ h. ne (eqb-true v y (and_left (eqb v y) (eqb y₀ y) h) ∙ sym (eqb-true y₀ y (and_right (eqb v y) (eqb y₀ y) h)))))))
      ] refl)
    ] refl

-- What the constraints permit after one more pair, which requires y₀ of c₀.
pub note_reads : (constraints : List ℕ) (q : ℕ → ℕ → Bool) (c₀ y₀ : ℕ) → length constraints ≡ 121 → Element 120 c₀ → Element 120 y₀ → Reads constraints q
    → Reads (asked_at constraints c₀ y₀) (λ c y. q c y && (not (eqb c₀ c) || eqb y₀ y))
note_reads constraints q c₀ y₀ l hc hy R c y hc' hy' =
    elim (eqb c₀ c) as (λ w. eqb c₀ c ≡ w → permits (get_or (set constraints c₀ (merge (get_or constraints c₀ 0) y₀)) c 0) y ≡ (q c y && (not w || eqb y₀ y))) [
      | true ↦ (λ e.
          let h = eqb-true c₀ c e in
          ap (λ (i : ℕ). permits (get_or (set constraints c₀ (merge (get_or constraints c₀ 0) y₀)) i 0) y) (sym h)
          ∙ ap (λ (v : ℕ). permits v y) (get_or-set_same constraints c₀ (merge (get_or constraints c₀ 0) y₀) 0 (omega arith))
          ∙ merge_permits (get_or constraints c₀ 0) y₀ y hy.0 hy'.1
          ∙ ap (λ (b : Bool). b && eqb y₀ y) (R c₀ y hc hy' ∙ ap (λ (i : ℕ). q i y) h))
      | false ↦ (λ e.
          let ne = eqb-false c₀ c e in
          ap (λ (v : ℕ). permits v y) (get_or-set_other constraints c₀ c (merge (get_or constraints c₀ 0) y₀) 0 (λ h. ne (sym h)))
          ∙ R c y hc' hy' ∙ sym (and-true (q c y)))
    ] refl

-- ---- one more element

-- A test over 1 to k + 1 is one over 1 to k, and one at k + 1.
pub each_more : (k : ℕ) (p : ℕ → Bool) → all p (elements (suc k)) ≡ (all p (elements k) && p (suc k))
each_more k p =
    same_truth (all p (elements (suc k))) (all p (elements k) && p (suc k))
    (λ h. both (all p (elements k)) (p (suc k)) (each_of k p (λ i w. each_at (suc k) p h i (omega arith))) (each_at (suc k) p h (suc k) (omega arith)))
    (λ h. each_of (suc k) p (λ i w. ⊎_elim (λ (e : i ≡ suc k). ap p e ∙ and_right (all p (elements k)) (p (suc k)) h) (λ (l : i < suc k). each_at k p (and_left (all p (elements k)) (p (suc k)) h) i (omega arith)) (eq-or-lt_of_le w.1)))

-- Tests that agree at 1 to k agree on all of them.
pub each_same : (k : ℕ) (p q : ℕ → Bool) → ((i : ℕ) → Element k i → p i ≡ q i) → all p (elements k) ≡ all q (elements k)
each_same k p q h =
    same_truth (all p (elements k)) (all q (elements k))
    (λ e. each_of k q (λ i w. sym (h i w) ∙ each_at k p e i w))
    (λ e. each_of k p (λ i w. h i w ∙ each_at k q e i w))

-- The pairs of k + 1 elements are those of k elements and those with the last.
square_more : (p : ℕ → ℕ → Bool) (k : ℕ) → all (λ a. all (p a) (elements (suc k))) (elements (suc k)) ≡ (all (λ a. all (p a) (elements k)) (elements k) && all (λ j. cross p (suc k) j) (elements (suc k)))
square_more p k =
    same_truth whole (old && new)
    (λ h. both old new
    (pairs_of k p (λ a b ha hb. pairs_at (suc k) p h a b (omega arith) (omega arith)))
    (each_of (suc k) (λ j. cross p (suc k) j) (λ j hj. both (p j (suc k)) (p (suc k) j) (pairs_at (suc k) p h j (suc k) hj (omega arith)) (pairs_at (suc k) p h (suc k) j (omega arith) hj))))
    (λ h. pairs_of (suc k) p (λ a b ha hb. pair h a b ha hb (eq-or-lt_of_le ha.1) (eq-or-lt_of_le hb.1)))
  where
    whole : Bool
    whole = all (λ a. all (p a) (elements (suc k))) (elements (suc k))

    old : Bool
    old = all (λ a. all (p a) (elements k)) (elements k)

    new : Bool
    new = all (λ j. cross p (suc k) j) (elements (suc k))

    last : (old && new) ≡ true → (j : ℕ) → Element (suc k) j → cross p (suc k) j ≡ true
    last h = each_at (suc k) (λ j. cross p (suc k) j) (and_right old new h)

    pair : (old && new) ≡ true → (a b : ℕ) → Element (suc k) a → Element (suc k) b → (a ≡ suc k) ⊎ (a < suc k) → (b ≡ suc k) ⊎ (b < suc k) → p a b ≡ true
    pair h a b ha hb (inl e) d = ap (λ (x : ℕ). p x b) e ∙ and_right (p b (suc k)) (p (suc k) b) (last h b hb)
    pair h a b ha hb (inr l) (inl e) = ap (p a) e ∙ and_left (p a (suc k)) (p (suc k) a) (last h a ha)
    pair h a b ha hb (inr l) (inr g) = pairs_at k p (and_left old new h) a b (omega arith) (omega arith)

pub agree_on_more : (u v : Product) (k c y : ℕ) → agree_on u v (suc k) c y ≡ (agree_on u v k c y && all (λ j. cross (asks u v c y) (suc k) j) (elements (suc k)))
unfolding agree_on
agree_on_more u v k c y = square_more (asks u v c y) k

-- ---- the test by constraints is the test of all pairs

required : (u v c y : ℕ) → (not (eqb u c) || eqb v y) ≡ true → u ≡ c → v ≡ y
required u v c y e q = ⊎_elim (λ h. absurd (eqb-false u c (not-true (eqb u c) h) q)) (λ h. eqb-true v y h) (or_holds (not (eqb u c)) (eqb v y) e)

requiring : (u v c y : ℕ) → (u ≡ c → v ≡ y) → (not (eqb u c) || eqb v y) ≡ true
requiring u v c y h = elim (eqb u c) as (λ w. eqb u c ≡ w → (not w || eqb v y) ≡ true) [ true ↦ (λ e. eq-eqb v y (h (eqb-true u c e))) | false ↦ (λ _. refl) ] refl

pub member_snoc : (y : ℕ) (f : List ℕ) (x : ℕ) → member y (f ++ x ∷ []) ≡ (member y f || eqb y x)
unfolding member
member_snoc y [] x = or-false (eqb y x)
member_snoc y (z ∷ f) x = ap (λ (b : Bool). eqb y z || b) (member_snoc y f x) ∙ sym (or_assoc (eqb y z) (member y f) (eqb y x))

module _ (m : ℕ) (s t : Product) (closed : Closed m s) (f : List ℕ) (x : ℕ) (short : length f < m) where
  abbrev k : ℕ
  k = length f

  abbrev g : List ℕ
  g = f ++ x ∷ []

  same_products : (a b : ℕ) → Element k a → Element k b → image_product t g a b ≡ image_product t f a b
  same_products a b ha hb = ap₂ t (at_front f (x ∷ []) a ha) (at_front f (x ∷ []) b hb)

  -- What the pairs of f require depends only on the images of f.
  pub agree_on_forced : (c y : ℕ) → agree_on s (image_product t f) k c y ≡ agree_on s (image_product t g) k c y
  unfolding agree_on
  agree_on_forced c y =
      each_same k (λ a. all (λ b. asks s (image_product t f) c y a b) (elements k)) (λ a. all (λ b. asks s (image_product t g) c y a b) (elements k)) (λ a ha.
      each_same k (λ b. asks s (image_product t f) c y a b) (λ b. asks s (image_product t g) c y a b) (λ b hb.
      ap (λ (z : ℕ). not (eqb (s a b) c) || eqb z y) (sym (same_products a b ha hb))))

  pub agree_on_owner : (c y : ℕ) → agree_on (image_product t f) s k c y ≡ agree_on (image_product t g) s k c y
  unfolding agree_on
  agree_on_owner c y =
      each_same k (λ a. all (λ b. asks (image_product t f) s c y a b) (elements k)) (λ a. all (λ b. asks (image_product t g) s c y a b) (elements k)) (λ a ha.
      each_same k (λ b. asks (image_product t f) s c y a b) (λ b. asks (image_product t g) s c y a b) (λ b hb.
      ap (λ (z : ℕ). not (eqb z c) || eqb (s a b) y) (sym (same_products a b ha hb))))

  module _ (pass : passes s t f ≡ true) (fresh : member x f ≡ false) where
    module _ (a b : ℕ) (ha : Element k a) (hb : Element k b) where
      abbrev c : ℕ
      c = s a b

      abbrev z : ℕ
      z = image_product t f a b

      before : fits s t f a b ≡ true
      unfolding passes
      before = pairs_at k (fits s t f) pass a b ha hb

      c_element : Element m c
      c_element = closed a b (omega arith) (omega arith)

      inside : c ≤ k → at f c ≡ z
      unfolding fits
      inside h = eqb-true (at f c) z (subst (λ (w : Bool). cond w (eqb (at f c) z) (not (member z f)) ≡ true) (le-leb c k h) before)

      outside : k < c → member z f ≡ false
      unfolding fits
      outside h = not-true (member z f) (subst (λ (w : Bool). cond w (eqb (at f c) z) (not (member z f)) ≡ true) (lt-leb c k h) before)

      not_new : c ≤ k → z ≡ x → ⊥
      unfolding at
      not_new h e = let w = c_element in not_member x f fresh (subst (λ (y : ℕ). Memᴰ y f) (inside h ∙ e) (place_mem 0 f (c - 1) (omega arith)))

      -- Whether the pair fits once x is placed.
      now : fits s t g a b ≡ cond (leb c (suc k)) (eqb (at g c) z) (not (member z f || eqb z x))
      unfolding fits
      now = rw (length_snoc f x, same_products a b ha hb, member_snoc z f x)

      forces : fits s t g a b ≡ true → c ≡ suc k → z ≡ x
      forces e q =
          let w = subst (λ (b : Bool). cond b (eqb (at g c) z) (not (member z f || eqb z x)) ≡ true) (le-leb c (suc k) (omega arith)) (sym now ∙ e) in
          sym (eqb-true (at g c) z w) ∙ at_seam f x [] c q

      owns : fits s t g a b ≡ true → z ≡ x → c ≡ suc k
      owns e q =
          elim (leb c (suc k)) as (λ w. leb c (suc k) ≡ w → cond w (eqb (at g c) z) (not (member z f || eqb z x)) ≡ true → c ≡ suc k) [
            | true ↦ (λ h _. ⊎_elim (λ r. r) (λ (r : c < suc k). absurd (not_new (omega arith) q)) (eq-or-lt_of_le (leb-true c (suc k) h)))
            | false ↦ (λ h r. absurd (clash {b = member z f || eqb z x} (rw (eq-eqb z x q) (or-true (member z f))) (not-true (member z f || eqb z x) r)))
          ] refl (sym now ∙ e)

      fits_now : (c ≡ suc k → z ≡ x) → (z ≡ x → c ≡ suc k) → fits s t g a b ≡ true
      fits_now fo ow =
          now ∙ elim (leb c (suc k)) as (λ w. leb c (suc k) ≡ w → cond w (eqb (at g c) z) (not (member z f || eqb z x)) ≡ true) [
            | true ↦ (λ h. ⊎_elim (λ r. eq-eqb (at g c) z (at_seam f x [] c r ∙ sym (fo r)))
                (λ (r : c < suc k). let w = c_element in eq-eqb (at g c) z (at_front f (x ∷ []) c (omega arith) ∙ inside (omega arith)))
                (eq-or-lt_of_le (leb-true c (suc k) h)))
            | false ↦ (λ h.
                let out = leb-false c (suc k) h in
                rw (outside (omega arith), ne_eqb z x (λ e. let r = ow e in let y : ⊥ = omega arith in y)))
          ] refl

    -- The pairs of f still fit with x placed exactly if the constraints allow x for the next element.
    old_pairs : all (λ a. all (fits s t g a) (elements k)) (elements k) ≡ (agree_on s (image_product t f) k (suc k) x && agree_on (image_product t f) s k x (suc k))
    unfolding agree_on
    old_pairs =
        same_truth (all (λ a. all (fits s t g a) (elements k)) (elements k)) (forced && owner)
        (λ h. both forced owner
        (pairs_of k (asks s (image_product t f) (suc k) x) (λ a b ha hb. requiring (s a b) (image_product t f a b) (suc k) x (forces a b ha hb (pairs_at k (fits s t g) h a b ha hb))))
        (pairs_of k (asks (image_product t f) s x (suc k)) (λ a b ha hb. requiring (image_product t f a b) (s a b) x (suc k) (owns a b ha hb (pairs_at k (fits s t g) h a b ha hb)))))
        (λ h. pairs_of k (fits s t g) (λ a b ha hb.
        fits_now a b ha hb
        (required (s a b) (image_product t f a b) (suc k) x (pairs_at k (asks s (image_product t f) (suc k) x) (and_left forced owner h) a b ha hb))
        (required (image_product t f a b) (s a b) x (suc k) (pairs_at k (asks (image_product t f) s x (suc k)) (and_right forced owner h) a b ha hb))))
      where
        forced : Bool
        forced = all (λ a. all (λ b. asks s (image_product t f) (suc k) x a b) (elements k)) (elements k)

        owner : Bool
        owner = all (λ a. all (λ b. asks (image_product t f) s x (suc k) a b) (elements k)) (elements k)

    -- The list with x passes exactly if the constraints allow x and the new pairs fit.
    pub settle : passes s t g ≡ (agree_on s (image_product t f) k (suc k) x && agree_on (image_product t f) s k x (suc k) && new_fits s t g)
    unfolding passes new_fits
    settle = rw (length_snoc f x) (square_more (fits s t g) k ∙ ap (λ (b : Bool). b && all (λ j. cross (fits s t g) (suc k) j) (elements (suc k))) old_pairs)

-- ---- a look at the newest element

pub near_is : (s t : Product) (p : List ℕ) (k j : ℕ) → length p ≡ k + 1 → max 1 k ≡ j → near_fits s t p ≡ fits s t p j (k + 1)
unfolding near_fits
near_is s t p k j e h =
    ap (λ (i : ℕ). fits s t p (max 1 (i - 1)) i) e ∙ ap (λ (i : ℕ). fits s t p i (k + 1)) (ap (max 1) (let q : k + 1 - 1 ≡ k = omega arith in q) ∙ h)

-- If the new pairs fit, so does the one that `may_pass` looks at.
pub near_of_new : (s t : Product) (p : List ℕ) → 1 ≤ length p → new_fits s t p ≡ true → near_fits s t p ≡ true
unfolding near_fits new_fits
near_of_new s t p h e =
    let k = length p in
    let j = max 1 (k - 1) in
    and_left (fits s t p j k) (fits s t p k j) (each_at k (λ i. cross (fits s t p) k i) e j (le-max_left 1 (k - 1), max-le h (omega arith)))
