-- Lists with no entry twice: one inside another is no longer and sums to no more; the pigeonhole. Assumes nothing.
use mathlib.Core.Path.{◌≡◌, refl, sym, ap, ◌∙◌, subst}
use mathlib.Core.Bool.{true, not}
use mathlib.Core.Logic.{◌⊎◌, inl, inr, ⊎_elim}
use mathlib.Core.List.Memᴰ
use mathlib.Core.List.{List, [], ◌∷◌, map, Memᴰ}
use Prim.Native.Nat.{ℕ, zero, suc, ◌+◌, ◌-◌, ◌≤◌, ◌<◌, zero-le, suc-le-suc}
use native.Mathlib.Omega.{arith}
use borrow.Author.Tests.{not-true}
use lib.ListN.{length, get_or, length-map}
use Rattle.semigroups.specs.Lists.{range, elements, at, sum, member, distinct}
use Rattle.semigroups.specs.InnerLists.{Sorted, NoRepeats}
use Rattle.semigroups.specs.Tables.{Element}
use Rattle.semigroups.proofs.Booleans.{both, and_left, and_right, not_of_false, trichotomy}
use Rattle.semigroups.proofs.Lists.{length_range, get_d_range, length_elements, mem_elements, elements_mem, at_suc, get_d_map, sorted_range, sorted_weaken, not_member, unmember, mem_or_not}

module _ {A : Type 0} where
  -- The list without the one entry that a membership points at.
  abbrev without : {x : A} (l : List A) → Memᴰ x l → List A
  without [] m = elim m [ ]
  without (y ∷ l) (Memᴰ.head e) = l
  without (y ∷ l) (Memᴰ.tail m) = y ∷ without l m

  sum_without : (w : A → ℕ) {x : A} (l : List A) (m : Memᴰ x l) → sum w l ≡ w x + sum w (without l m)
  unfolding sum
  sum_without w {x = x} [] m = elim m [ ]
  sum_without w (y ∷ l) (Memᴰ.head e) = ap (λ (v : A). w v + sum w l) (sym e)
  sum_without w {x} (y ∷ l) (Memᴰ.tail m) = let h = sum_without w l m in omega arith

  mem_without : {x a : A} (l : List A) (m : Memᴰ x l) → Memᴰ a l → (a ≡ x → ⊥) → Memᴰ a (without l m)
  mem_without {x = x} {a = a} [] m h ne = elim m [ ]
  mem_without {x} {a} (y ∷ l) (Memᴰ.head e) h ne = ⊎_elim (λ q. absurd (ne (q ∙ sym e))) (λ k. k) (Memᴰ.cases_cons h)
  mem_without {x} {a} (y ∷ l) (Memᴰ.tail m) h ne = go (λ k. mem_without l m k ne) (Memᴰ.cases_cons h)
    where
      go : (Memᴰ a l → Memᴰ a (without l m)) → (a ≡ y) ⊎ Memᴰ a l → Memᴰ a (y ∷ without l m)
      go below (inl q) = Memᴰ.head q
      go below (inr k) = Memᴰ.tail (below k)

  -- A list with no entry twice whose entries stand in another sums to no more.
  pub sum_inside : (w : A → ℕ) (l r : List A) → NoRepeats l → ((a : A) → Memᴰ a l → Memᴰ a r) → sum w l ≤ sum w r
  unfolding sum
  sum_inside w [] r d h = zero-le
  sum_inside w (x ∷ l) r d h =
      let m = h x (Memᴰ.head refl) in
      let ih = sum_inside w l (without r m) d.1 (λ a k. mem_without r m (h a (Memᴰ.tail k)) (λ e. d.0 a k (sym e))) in
      omega (arith, sum_without w r m)

  sum_ones : (l : List A) → sum (λ (x : A). 1) l ≡ length l
  unfolding sum
  sum_ones [] = refl
  sum_ones (x ∷ l) = let e = sum_ones l in omega arith

  -- Such a list is also no longer than the other.
  pub length_inside : (l r : List A) → NoRepeats l → ((a : A) → Memᴰ a l → Memᴰ a r) → length l ≤ length r
  length_inside l r d h = let e = sum_inside (λ x. 1) l r d h in omega (arith, sum_ones l, sum_ones r)

  -- ---- places

  pub mem_place : {a : A} (d : A) (l : List A) → Memᴰ a l → (i : ℕ) × (i < length l) × (get_or l i d ≡ a)
  mem_place d [] m = elim m [ ]
  mem_place d (x ∷ l) (Memᴰ.head e) = (zero, suc-le-suc zero-le, sym e)
  mem_place d (x ∷ l) (Memᴰ.tail m) = let r = mem_place d l m in (suc r.0, suc-le-suc r.1, r.2)

  pub place_mem : (d : A) (l : List A) (i : ℕ) → i < length l → Memᴰ (get_or l i d) l
  place_mem d [] i h = absurd (let z : ⊥ = omega arith in z)
  place_mem d (x ∷ l) zero h = Memᴰ.head refl
  place_mem d (x ∷ l) (suc i) h = Memᴰ.tail (place_mem d l i (let z : i < length l = omega arith in z))

  pub sorted_places : (R : A → A → Type 0) (d : A) (l : List A) → Sorted R l → (i j : ℕ) → i < j → j < length l → R (get_or l i d) (get_or l j d)
  sorted_places R d [] s i j h u = absurd (let z : ⊥ = omega arith in z)
  sorted_places R d (x ∷ l) s i zero h u = absurd (let z : ⊥ = omega arith in z)
  sorted_places R d (x ∷ l) s zero (suc j) h u = s.0 (get_or l j d) (place_mem d l j (let z : j < length l = omega arith in z))
  sorted_places R d (x ∷ l) s (suc i) (suc j) h u = sorted_places R d l s.1 i j (let z : i < j = omega arith in z) (let z : j < length l = omega arith in z)

  -- In a list with no entry twice, two places with equal entries are the same place.
  pub place_unique : (d : A) (l : List A) → NoRepeats l → (i j : ℕ) → i < length l → j < length l → get_or l i d ≡ get_or l j d → i ≡ j
  place_unique d l u i j hi hj e = go (trichotomy i j)
    where
      go : (i ≡ j) ⊎ ((i < j) ⊎ (j < i)) → i ≡ j
      go (inl q) = q
      go (inr (inl h)) = absurd (sorted_places (λ (x y : A). x ≡ y → ⊥) d l u i j h hj e)
      go (inr (inr h)) = absurd (sorted_places (λ (x y : A). x ≡ y → ⊥) d l u j i h hi (sym e))

  pub places_no_repeats : (d : A) (l : List A) → ((i j : ℕ) → i < length l → j < length l → get_or l i d ≡ get_or l j d → i ≡ j) → NoRepeats l
  places_no_repeats d [] h = tt
  places_no_repeats d (x ∷ l) h = (
    (λ y m q.
        let r = mem_place d l m in
        let r1 = r.1 in
        let e = h zero (suc r.0) (omega arith) (omega arith) (q ∙ sym r.2) in
        let z : ⊥ = omega arith in z),
    places_no_repeats d l (λ i j hi hj e. let q = h (suc i) (suc j) (omega arith) (omega arith) e in omega arith),
  )

pub map_no_repeats : {A B : Type 0} (f : A → B) (l : List A) → NoRepeats l → ((a b : A) → Memᴰ a l → Memᴰ b l → f a ≡ f b → a ≡ b) → NoRepeats (map f l)
map_no_repeats f [] u h = tt
map_no_repeats f (x ∷ l) u h = (
  (λ y m q.
      let r = Memᴰ.of_map f l m in
      u.0 r.0 r.1 (h x r.0 (Memᴰ.head refl) (Memᴰ.tail r.1) (q ∙ sym r.2))),
  map_no_repeats f l u.1 (λ a b p q. h a b (Memᴰ.tail p) (Memᴰ.tail q)),
)

pub elements_no_repeats : (n : ℕ) → NoRepeats (elements n)
unfolding elements
elements_no_repeats n = sorted_weaken ◌<◌ (λ (x y : ℕ). x ≡ y → ⊥) (λ x y h e. let z : ⊥ = omega arith in z) (range 1 n) (sorted_range 1 n)

-- ---- the test for it

pub distinct_places : (f : List ℕ) → distinct f ≡ true → NoRepeats f
unfolding distinct
distinct_places [] e = tt
distinct_places (x ∷ l) e = (
  (λ y m q. not_member x l (not-true (member x l) (and_left (not (member x l)) (distinct l) e)) (Memᴰ.cast q m)),
  distinct_places l (and_right (not (member x l)) (distinct l) e),
)

pub distinct_of : (f : List ℕ) → NoRepeats f → distinct f ≡ true
unfolding distinct
distinct_of [] u = refl
distinct_of (x ∷ l) u = both (not (member x l)) (distinct l) (not_of_false (member x l) (unmember x l (λ m. u.0 x m refl))) (distinct_of l u.1)

-- Entries 1 to n of the list are different.
abbrev pub OneToOne : ℕ → List ℕ → Type 0
OneToOne n f = (i j : ℕ) → Element n i → Element n j → at f i ≡ at f j → i ≡ j

pub one_to_one : (n : ℕ) (f : List ℕ) → length f ≡ n → NoRepeats f → OneToOne n f
unfolding at
one_to_one n f e u i j hi hj q = let r = place_unique 0 f u (i - 1) (j - 1) (omega arith) (omega arith) q in omega arith

pub one_to_one_no_repeats : (n : ℕ) (f : List ℕ) → length f ≡ n → OneToOne n f → NoRepeats f
one_to_one_no_repeats n f e o =
    places_no_repeats 0 f (λ i j hi hj q. let r = o (suc i) (suc j) (omega arith) (omega arith) (at_suc f i ∙ q ∙ sym (at_suc f j)) in omega arith)

-- ---- the pigeonhole

abbrev pub Within : ℕ → ℕ → List ℕ → Type 0
Within m n f = (i : ℕ) → Element m i → Element n (at f i)

-- If entries 1 to m lie in 1 to n, every member of the list does.
pub within_mem : (m n : ℕ) (f : List ℕ) → length f ≡ m → Within m n f → (x : ℕ) → Memᴰ x f → Element n x
within_mem m n f e w x k =
    let r = mem_place 0 f k in
    let r1 = r.1 in
    subst (Element n) (at_suc f r.0 ∙ r.2) (w (suc r.0) (omega arith))

-- If m different entries lie in 1 to n, then m is at most n.
pub no_more : (m n : ℕ) (f : List ℕ) → length f ≡ m → Within m n f → OneToOne m f → m ≤ n
no_more m n f e w o =
    let l = length_inside f (elements n) (one_to_one_no_repeats m f e o) (λ x k. elements_mem n x (within_mem m n f e w x k)) in
    omega (arith, length_elements n)

-- If m entries hold all of 1 to n, then n is at most m.
pub no_fewer : (m n : ℕ) (f : List ℕ) → length f ≡ m → ((v : ℕ) → Element n v → (i : ℕ) × Element m i × (at f i ≡ v)) → n ≤ m
unfolding at
no_fewer m n f e o =
    let l = length_inside (elements n) f (elements_no_repeats n)
    (λ v k.
    let p = o v (mem_elements n v k) in
    let p1 = p.1 in
    Memᴰ.cast (sym p.2) (place_mem 0 f (p.0 - 1) (omega arith))) in
    omega (arith, length_elements n)

-- n different entries from 1 to n are all of them.
pub onto : (n : ℕ) (f : List ℕ) → length f ≡ n → Within n n f → OneToOne n f → (v : ℕ) → Element n v → (i : ℕ) × Element n i × (at f i ≡ v)
onto n f e w o v hv = go (mem_or_not v f)
  where
    u : NoRepeats f
    u = one_to_one_no_repeats n f e o

    inside : (a : ℕ) → Memᴰ a (v ∷ f) → Memᴰ a (elements n)
    inside a m = ⊎_elim (λ q. subst (λ (x : ℕ). Memᴰ x (elements n)) (sym q) (elements_mem n v hv)) (λ k. elements_mem n a (within_mem n n f e w a k)) (Memᴰ.cases_cons m)

    go : Memᴰ v f ⊎ (Memᴰ v f → ⊥) → (i : ℕ) × Element n i × (at f i ≡ v)
    go (inl m) = let r = mem_place 0 f m in let r1 = r.1 in (suc r.0, omega arith, at_suc f r.0 ∙ r.2)
    go (inr nm) =
        let fresh : (y : ℕ) → Memᴰ y f → v ≡ y → ⊥ = (λ y m q. nm (Memᴰ.cast q m)) in
        absurd (let b = length_inside (v ∷ f) (elements n) (fresh, u) inside in let z : ⊥ = omega (arith, length_elements n) in z)

-- The list has two places with equal entries.
abbrev Twice : List ℕ → Type 0
Twice l = (i : ℕ) × (j : ℕ) × (i < j) × (j < length l) × (get_or l i 0 ≡ get_or l j 0)

twice : (l : List ℕ) → NoRepeats l ⊎ Twice l
twice [] = inl tt
twice (x ∷ l) = go (twice l) (mem_or_not x l)
  where
    go : NoRepeats l ⊎ Twice l → Memᴰ x l ⊎ (Memᴰ x l → ⊥) → NoRepeats (x ∷ l) ⊎ Twice (x ∷ l)
    go d (inl m) = let p = mem_place 0 l m in let u = p.1 in inr (0, suc p.0, omega arith, omega arith, sym p.2)
    go (inl u) (inr nm) = inl ((λ y m q. nm (Memᴰ.cast q m)), u)
    go (inr p) (inr nm) = let h1 = p.2 in let h2 = p.3 in inr (suc p.0, suc p.1, omega arith, omega arith, p.4)

-- Of n + 1 values from 1 to n two are equal.
pub collide : (n : ℕ) (g : ℕ → ℕ) → ((k : ℕ) → Element n (g k)) → (i : ℕ) × (j : ℕ) × (i < j) × (j ≤ n) × (g i ≡ g j)
collide n g w = go (twice l)
  where
    l : List ℕ
    l = map g (range 0 (suc n))

    size : length l ≡ suc n
    size = length-map (range 0 (suc n)) g ∙ length_range 0 (suc n)

    look : (i : ℕ) → i < suc n → get_or l i 0 ≡ g i
    look i h = get_d_map g (range 0 (suc n)) 0 i (omega (arith, length_range 0 (suc n))) ∙ ap g (get_d_range 0 (suc n) i h ∙ (let z : 0 + i ≡ i = omega arith in z))

    inside : (a : ℕ) → Memᴰ a l → Memᴰ a (elements n)
    inside a m = let r = Memᴰ.of_map g (range 0 (suc n)) m in elements_mem n a (subst (Element n) r.2 (w r.0))

    go : NoRepeats l ⊎ Twice l → (i : ℕ) × (j : ℕ) × (i < j) × (j ≤ n) × (g i ≡ g j)
    go (inl u) = absurd (let b = length_inside l (elements n) u inside in let z : ⊥ = omega (arith, length_elements n, size) in z)
    go (inr r) = let h1 = r.2 in let h2 = r.3 in (r.0, r.1, h1, omega (arith, size), sym (look r.0 (omega (arith, size))) ∙ r.4 ∙ look r.1 (omega (arith, size)))
