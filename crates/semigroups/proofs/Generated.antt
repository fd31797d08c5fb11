-- What a list generates: the list that n steps of growing make is the smallest set that holds the list and every product of its own members, for any
-- product that stays within the order. The idea: while the set does not hold all its products, each step adds an element. Assumes nothing.
use mathlib.Core.Path.{◌≡◌, refl, sym, ap₂, subst, ◌∙◌}
use mathlib.Core.Logic.{◌⊎◌, inl, inr, ⊎_elim, ◌↔◌}
use mathlib.Core.List.Memᴰ
use mathlib.Core.List.{List, [], ◌∷◌, ◌++◌, map, Memᴰ}
use Prim.Native.Nat.{ℕ, zero, suc, ◌≤◌, ◌<◌, zero-le}
use native.Mathlib.Omega.{arith}
use lib.ListN.{length}
use Rattle.semigroups.specs.Lists.{range, elements, member}
use Rattle.semigroups.specs.InnerLists.{Sorted, NoRepeats}
use Rattle.semigroups.specs.Tables.{Product, Element, Associative}
use Rattle.semigroups.specs.TablesLaws.{Closed}
use Rattle.semigroups.specs.GeneratedLaws.{HoldsProducts, Smallest, GeneratedTheorem}
use Rattle.semigroups.specs.InnerGenerated.{Inside, LeftProduct, entry, further}
use Rattle.semigroups.specs.Generated.{set_of, products, grown, generated}
use Rattle.semigroups.proofs.Booleans.{same_truth, at_most_or_above}
use Rattle.semigroups.proofs.Lists.{length_elements, mem_elements, elements_mem, mem_keep, keep_mem, member_mem, mem_member, mem_or_not, keep_agree, sorted_keep, sorted_range, sorted_weaken}
use Rattle.semigroups.proofs.FlatMap.{mem_flat_map, flat_map_mem}
use Rattle.semigroups.proofs.NoRepeats.{length_inside, elements_no_repeats}

-- ---- lists in rising order

pub rising_no_repeats : (r : List ℕ) → Sorted ◌<◌ r → NoRepeats r
rising_no_repeats r u = sorted_weaken ◌<◌ (λ (x y : ℕ). x ≡ y → ⊥) (λ x y h e. let z : ⊥ = omega arith in z) r u

-- If two rising lists begin alike and the second holds the first, what follows in the first also follows in the second.
rising_tail : (x y : ℕ) (p q : List ℕ) → x ≡ y → Sorted ◌<◌ (x ∷ p) → ((z : ℕ) → Memᴰ z (x ∷ p) → Memᴰ z (y ∷ q)) → (z : ℕ) → Memᴰ z p → Memᴰ z q
rising_tail x y p q e u to z k =
    ⊎_elim (λ (h : z ≡ y). let l = u.0 z k in absurd (let c : ⊥ = omega arith in c)) (λ (h : Memᴰ z q). h) (Memᴰ.cases_cons (to z (Memᴰ.tail k)))

-- Two rising lists with the same members are equal.
pub rising_same : (p q : List ℕ) → Sorted ◌<◌ p → Sorted ◌<◌ q → ((x : ℕ) → Memᴰ x p → Memᴰ x q) → ((x : ℕ) → Memᴰ x q → Memᴰ x p) → p ≡ q
rising_same [] [] u v to from = refl
rising_same [] (y ∷ q) u v to from = absurd (Memᴰ.not-nil (from y (Memᴰ.head refl)))
rising_same (x ∷ p) [] u v to from = absurd (Memᴰ.not-nil (to x (Memᴰ.head refl)))
rising_same (x ∷ p) (y ∷ q) u v to from =
    let first : x ≡ y =
    ⊎_elim (λ (e : x ≡ y). e)
    (λ (k : Memᴰ x q).
    ⊎_elim (λ (e : y ≡ x). sym e) (λ (h : Memᴰ y p). let a = v.0 x k in let b = u.0 y h in omega arith) (Memᴰ.cases_cons (from y (Memᴰ.head refl))))
    (Memᴰ.cases_cons (to x (Memᴰ.head refl))) in
    ap₂ (λ (z : ℕ) (r : List ℕ). z ∷ r) first (rising_same p q u.1 v.1 (rising_tail x y p q first u to) (rising_tail y x q p (sym first) v from))

-- A list with no entry twice that lies inside one no longer than itself has all members of that one.
fills : (p q : List ℕ) → NoRepeats p → ((x : ℕ) → Memᴰ x p → Memᴰ x q) → length q ≤ length p → (x : ℕ) → Memᴰ x q → Memᴰ x p
fills p q u h le x k = go (mem_or_not x p)
  where
    inside : (y : ℕ) → Memᴰ y (x ∷ p) → Memᴰ y q
    inside y m = ⊎_elim (λ e. Memᴰ.cast e k) (h y) (Memᴰ.cases_cons m)

    go : Memᴰ x p ⊎ (Memᴰ x p → ⊥) → Memᴰ x p
    go (inl m) = m
    go (inr nm) =
        let fresh : (y : ℕ) → Memᴰ y p → x ≡ y → ⊥ = (λ y m e. nm (Memᴰ.cast e m)) in
        absurd (let b = length_inside (x ∷ p) q (fresh, u) inside in let z : ⊥ = omega arith in z)

-- Two lists with no entry twice and the same members have one length.
pub same_length : (p q : List ℕ) → NoRepeats p → NoRepeats q → ((x : ℕ) → Memᴰ x p → Memᴰ x q) → ((x : ℕ) → Memᴰ x q → Memᴰ x p) → length p ≡ length q
same_length p q u v to from = let a = length_inside p q u to in let b = length_inside q p v from in omega arith

-- ---- the set of a list

module _ (n : ℕ) (l : List ℕ) where
  pub mem_set_of : (x : ℕ) → Memᴰ x (set_of n l) → Element n x × Memᴰ x l
  unfolding set_of
  mem_set_of x m = let r = mem_keep (λ x. member x l) (elements n) x m in (mem_elements n x r.0, member_mem x l r.1)

  pub set_of_mem : (x : ℕ) → Element n x → Memᴰ x l → Memᴰ x (set_of n l)
  unfolding set_of
  set_of_mem x h m = keep_mem (λ x. member x l) (elements n) x (elements_mem n x h) (mem_member x l m)

  pub set_of_rising : Sorted ◌<◌ (set_of n l)
  unfolding set_of elements
  set_of_rising = sorted_keep ◌<◌ (λ x. member x l) (range 1 n) (sorted_range 1 n)

-- Lists that hold the same elements have the same set.
pub set_of_same : (n : ℕ) (p q : List ℕ) → ((x : ℕ) → Element n x → Memᴰ x p → Memᴰ x q) → ((x : ℕ) → Element n x → Memᴰ x q → Memᴰ x p) → set_of n p ≡ set_of n q
unfolding set_of
set_of_same n p q to from =
    keep_agree (λ x. member x p) (λ x. member x q) (elements n)
    (λ x m.
    let h = mem_elements n x m in
    same_truth (member x p) (member x q) (λ e. mem_member x q (to x h (member_mem x p e))) (λ e. mem_member x p (from x h (member_mem x q e))))

-- ---- products of two entries

module _ (s : Product) (r : List ℕ) where
  mem_products : (z : ℕ) → Memᴰ z (products s r) → (x : ℕ) × (y : ℕ) × Memᴰ x r × Memᴰ y r × (s x y ≡ z)
  unfolding products
  mem_products z m =
      let u = mem_flat_map (λ x. map (s x) r) r z m in
      let v = Memᴰ.of_map (s u.0) r u.2 in
      (u.0, v.0, u.1, v.1, v.2)

  products_mem : (x y : ℕ) → Memᴰ x r → Memᴰ y r → Memᴰ (s x y) (products s r)
  unfolding products
  products_mem x y p q = flat_map_mem (λ x. map (s x) r) r x (s x y) p (Memᴰ.map (s x) q)

-- Products of two entries stand in the list.
abbrev pub ClosedList : Product → List ℕ → Type 0
ClosedList s r = (x y : ℕ) → Memᴰ x r → Memᴰ y r → Memᴰ (s x y) r

-- ---- steps of growing

module _ (n : ℕ) (s : Product) (l : List ℕ) where
  grown_inside : (k : ℕ) → Inside n (grown n s l k)
  unfolding grown
  grown_inside zero x m = (mem_set_of n l x m).0
  grown_inside (suc k) x m = (mem_set_of n _ x m).0

  grown_rising : (k : ℕ) → Sorted ◌<◌ (grown n s l k)
  unfolding grown
  grown_rising zero = set_of_rising n l
  grown_rising (suc k) = set_of_rising n _

  -- A step keeps what is there and adds the products.
  grown_old : (k x : ℕ) → Memᴰ x (grown n s l k) → Memᴰ x (grown n s l (suc k))
  unfolding grown
  grown_old k x m = let r = grown n s l k in set_of_mem n (r ++ products s r) x (grown_inside k x m) (Memᴰ.append_left (products s r) m)

  grown_new : (k x y : ℕ) → Element n (s x y) → Memᴰ x (grown n s l k) → Memᴰ y (grown n s l k) → Memᴰ (s x y) (grown n s l (suc k))
  unfolding grown
  grown_new k x y h p q = let r = grown n s l k in set_of_mem n (r ++ products s r) (s x y) h (Memᴰ.append_right r (products_mem s r x y p q))

  -- What a step gives was there or is a product of what was there.
  grown_from : (k z : ℕ) (P : ℕ → Type 0) → ((x : ℕ) → Memᴰ x (grown n s l k) → P x)
      → ((x y : ℕ) → Memᴰ x (grown n s l k) → Memᴰ y (grown n s l k) → P (s x y)) → Memᴰ z (grown n s l (suc k)) → P z
  unfolding grown
  grown_from k z P old new m = go (Memᴰ.append_cases (grown n s l k) (mem_set_of n (grown n s l k ++ products s (grown n s l k)) z m).1)
    where
      go : Memᴰ z (grown n s l k) ⊎ Memᴰ z (products s (grown n s l k)) → P z
      go (inl p) = old z p
      go (inr p) = let w = mem_products s (grown n s l k) z p in subst P w.4 (new w.0 w.1 w.2 w.3)

  -- The steps add nothing that a set which holds the list and its products does not hold.
  grown_least : (P : ℕ → Type 0) → HoldsProducts s l P → (k x : ℕ) → Memᴰ x (grown n s l k) → P x
  grown_least P H zero x m = H.holds_list x (mem_set_of n l x (unfold grown in m)).1
  grown_least P H (suc k) x m = grown_from k x P (λ y p. grown_least P H k y p) (λ y z p q. H.holds_products y z (grown_least P H k y p) (grown_least P H k z q)) m

  module _ (closed : Closed n s) where
    product_inside : (k x y : ℕ) → Memᴰ x (grown n s l k) → Memᴰ y (grown n s l k) → Element n (s x y)
    product_inside k x y p q = closed x y (grown_inside k x p) (grown_inside k y q)

    -- If a step adds nothing, the list after it holds the products of its members.
    still : (k : ℕ) → ((x : ℕ) → Memᴰ x (grown n s l (suc k)) → Memᴰ x (grown n s l k)) → ClosedList s (grown n s l (suc k))
    still k h x y p q = grown_new k x y (product_inside (suc k) x y p q) (h x p) (h y q)

    -- After k steps the list holds its products or has at least k entries.
    closed_or_long : (k : ℕ) → ClosedList s (grown n s l k) ⊎ (k ≤ length (grown n s l k))
    closed_or_long zero = inr zero-le
    closed_or_long (suc k) = go (closed_or_long k)
      where
        more : k ≤ length (grown n s l k) → (length (grown n s l (suc k)) ≤ length (grown n s l k)) ⊎ (length (grown n s l k) < length (grown n s l (suc k)))
            → ClosedList s (grown n s l (suc k)) ⊎ (suc k ≤ length (grown n s l (suc k)))
        more h (inl le) = inl (still k (fills (grown n s l k) (grown n s l (suc k)) (rising_no_repeats (grown n s l k) (grown_rising k)) (λ x m. grown_old k x m) le))
        more h (inr lt) = inr (omega arith)

        go : ClosedList s (grown n s l k) ⊎ (k ≤ length (grown n s l k)) → ClosedList s (grown n s l (suc k)) ⊎ (suc k ≤ length (grown n s l (suc k)))
        go (inl c) = inl (still k (λ x m. grown_from k x (λ y. Memᴰ y (grown n s l k)) (λ y p. p) c m))
        go (inr h) = more h (at_most_or_above (length (grown n s l (suc k))) (length (grown n s l k)))

-- ---- what is generated

-- A rising list of n elements of a table of order n holds all of them.
all_elements : (n : ℕ) (r : List ℕ) → Sorted ◌<◌ r → Inside n r → n ≤ length r → (x : ℕ) → Element n x → Memᴰ x r
all_elements n r u w h x hx = fills r (elements n) (rising_no_repeats r u) (λ y m. elements_mem n y (w y m)) (omega (arith, length_elements n)) x (elements_mem n x hx)

module _ (n : ℕ) (s : Product) (l : List ℕ) where
  pub generated_inside : Inside n (generated n s l)
  unfolding generated
  generated_inside = grown_inside n s l n

  pub generated_rising : Sorted ◌<◌ (generated n s l)
  unfolding generated
  generated_rising = grown_rising n s l n

  pub generated_no_repeats : NoRepeats (generated n s l)
  generated_no_repeats = rising_no_repeats (generated n s l) generated_rising

  pub generated_set : set_of n (generated n s l) ≡ generated n s l
  unfolding generated grown
  generated_set = go n
    where
      again : (r : List ℕ) → set_of n (set_of n r) ≡ set_of n r
      again r = set_of_same n (set_of n r) r (λ x h m. (mem_set_of n r x m).1) (λ x h m. set_of_mem n r x h m)

      go : (k : ℕ) → set_of n (grown n s l k) ≡ grown n s l k
      go zero = again l
      go (suc k) = again (grown n s l k ++ products s (grown n s l k))

  module _ (closed : Closed n s) where
    pub generated_closed : ClosedList s (generated n s l)
    unfolding generated
    generated_closed = go (closed_or_long n s l closed n)
      where
        go : ClosedList s (grown n s l n) ⊎ (n ≤ length (grown n s l n)) → ClosedList s (grown n s l n)
        go (inl c) = c
        go (inr h) = λ x y p q. all_elements n (grown n s l n) (grown_rising n s l n) (grown_inside n s l n) h (s x y) (product_inside n s l closed n x y p q)

    pub generated_holds : Inside n l → HoldsProducts s l (λ x. Memᴰ x (generated n s l))
    unfolding generated
    generated_holds inside = record { holds_list = λ x m. first n x m; holds_products = generated_closed }
      where
        first : (k x : ℕ) → Memᴰ x l → Memᴰ x (grown n s l k)
        first zero x m = unfold grown in set_of_mem n l x (inside x m) m
        first (suc k) x m = grown_old n s l k x (first k x m)

    -- The list `generated` is the smallest set.
    pub generated_smallest : Inside n l → Smallest s l (λ x. Memᴰ x (generated n s l))
    unfolding generated
    generated_smallest inside = record { holds = generated_holds inside; inside_others = λ Q H x m. grown_least n s l Q H n x m }

  -- The list generates every element exactly if n elements are generated.
  pub all_generated : (length (generated n s l) ≡ n) ↔ ((x : ℕ) → Element n x → Memᴰ x (generated n s l))
  all_generated = (
    (λ e x h. all_elements n (generated n s l) generated_rising generated_inside (omega arith) x h),
    λ h. same_length (generated n s l) (elements n) generated_no_repeats (elements_no_repeats n) (λ x m. elements_mem n x (generated_inside x m)) (λ x m. h x (mem_elements n x m)) ∙ length_elements n,
  )

-- ---- products from left to right

-- The left products of a list are left products of any list that holds it.
pub left_product_more : (s : Product) (l m : List ℕ) → ((y : ℕ) → Memᴰ y l → Memᴰ y m) → (x : ℕ) → LeftProduct s l x → LeftProduct s m x
left_product_more s l m to _ (entry x k) = entry x (to x k)
left_product_more s l m to _ (further x y z p k e) = further x y z (left_product_more s l m to x p) (to y k) e

-- Left products are generated.
pub left_product_generated : (n : ℕ) (s : Product) (l : List ℕ) → Closed n s → Inside n l → (x : ℕ) → LeftProduct s l x → Memᴰ x (generated n s l)
left_product_generated n s l closed inside _ (entry x k) = (generated_holds n s l closed inside).holds_list x k
left_product_generated n s l closed inside _ (further x y z p k e) =
    Memᴰ.cast e (generated_closed n s l closed x y (left_product_generated n s l closed inside x p) ((generated_holds n s l closed inside).holds_list y k))

-- Where the product is associative, all that is generated is such a product: x·(u·y) = (x·u)·y.
pub generated_left_product : (n : ℕ) (s : Product) (l : List ℕ) → Closed n s → Inside n l → Associative n s → (x : ℕ) → Memᴰ x (generated n s l) → LeftProduct s l x
generated_left_product n s l closed inside associative x m =
    (generated_smallest n s l closed inside).inside_others (LeftProduct s l) (record { holds_list = λ y k. entry y k; holds_products = times }) x m
  where
    element : (y : ℕ) → LeftProduct s l y → Element n y
    element y p = generated_inside n s l y (left_product_generated n s l closed inside y p)

    times : (y z : ℕ) → LeftProduct s l y → LeftProduct s l z → LeftProduct s l (s y z)
    times y _ p (entry z k) = further y z (s y z) p k refl
    times y _ p (further u v z q k e) = further (s y u) v (s y z) (times y u p q) k (ap₂ s refl e ∙ sym (associative y u v (element y p) (element u q) (inside v k)))

-- Any two smallest sets are equal.
pub smallest_unique : (s : Product) (l : List ℕ) (P Q : ℕ → Type 0) → Smallest s l P → Smallest s l Q → (x : ℕ) → P x ↔ Q x
smallest_unique s l P Q p q x = (p.inside_others Q q.holds x, q.inside_others P p.holds x)

pub generated_theorem : GeneratedTheorem
generated_theorem n s l closed inside =
    let r = generated n s l in
    let smallest = generated_smallest n s l closed inside in
    record {
      smallest = smallest;
      agrees = λ P p x.
          let same = smallest_unique s l (λ y. Memᴰ y r) P smallest p x in
          ((λ e. same.0 (member_mem x r e)), λ h. mem_member x r (same.1 h));
    }
