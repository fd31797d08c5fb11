-- Laws of consecutive numbers, of entries counted from 1, and of tests over a list. Assumes nothing.
use mathlib.Core.Path.{◌≡◌, refl, sym, ap, ap₂, ◌∙◌, subst}
use mathlib.Core.Bool.{Bool, true, false, cond, ◌&&◌}
use mathlib.Core.Logic.{◌⊎◌, inl, inr, ⊎_elim}
use mathlib.Core.Option
use mathlib.Core.Option.{Option, none, some, or_else, none-ne-some, some-ne-none}
use mathlib.Core.List.Memᴰ
use mathlib.Core.List.{List, [], ◌∷◌, ◌++◌, map, Memᴰ}
use Prim.Native.Nat.{ℕ, zero, suc, ◌+◌, ◌-◌, ◌≤◌, ◌<◌}
use native.Mathlib.Omega.{arith}
use borrow.Author.Tests.{eqb-true, eqb-false, leb-true, le-leb}
use lib.Dec.{eqb, leb}
use lib.ListN.{length, get_or, take, length-append, get_or-append}
use lib.Seq.{ext_get_or, get_or-append_seam}
use Rattle.semigroups.specs.Lists.{range, elements, at, all, find, keep, least, member}
use Rattle.semigroups.specs.InnerLists.{Sorted}
use Rattle.semigroups.specs.Tables.{Element, is_element}
use Rattle.semigroups.proofs.Booleans.{either, clash, untrue, unfalse, both, and_left, and_right, or_holds, or_fails, equal_or_not}

-- ---- numbers in a row

pub length_range : (i k : ℕ) → length (range i k) ≡ k
unfolding range
length_range i zero = refl
length_range i (suc k) = ap suc (length_range (suc i) k)

pub get_d_range : (i k j : ℕ) → j < k → get_or (range i k) j 0 ≡ i + j
unfolding range
get_d_range i zero j h = omega arith
get_d_range i (suc k) zero h = omega arith
get_d_range i (suc k) (suc j) h = let e = get_d_range (suc i) k j (omega arith) in omega arith

pub range_append : (i a b : ℕ) → range i (a + b) ≡ range i a ++ range (i + a) b
unfolding range
range_append i zero b =
    let x : 0 + b ≡ b = omega arith in
    let y : i + 0 ≡ i = omega arith in
    rw (x, y)
range_append i (suc a) b =
    let x : suc a + b ≡ suc (a + b) = omega arith in
    let y : i + suc a ≡ suc i + a = omega arith in
    rw (x, y) (ap (λ (l : List ℕ). i ∷ l) (range_append (suc i) a b))

pub range_snoc : (i k : ℕ) → range i (suc k) ≡ range i k ++ (i + k) ∷ []
unfolding range
range_snoc i zero = ap {B = List ℕ} (λ (x : ℕ). x ∷ []) (let z : i ≡ i + 0 = omega arith in z)
range_snoc i (suc k) = ap {B = List ℕ} (λ (l : List ℕ). i ∷ l) (range_snoc (suc i) k ∙ ap {B = List ℕ} (λ (x : ℕ). range (suc i) k ++ x ∷ []) (let z : suc i + k ≡ i + suc k = omega arith in z))

pub mem_range : (i k x : ℕ) → Memᴰ x (range i k) → (i ≤ x) × (x < i + k)
unfolding range
mem_range i zero x m = absurd (Memᴰ.not-nil m)
mem_range i (suc k) x m = go (λ h. mem_range (suc i) k x h) (Memᴰ.cases_cons m)
  where
    go : (Memᴰ x (range (suc i) k) → (suc i ≤ x) × (x < suc i + k)) → (x ≡ i) ⊎ Memᴰ x (range (suc i) k) → (i ≤ x) × (x < i + suc k)
    go below (inl e) = omega arith
    go below (inr h) = let r = below h in omega arith

pub range_mem : (i k x : ℕ) → i ≤ x → x < i + k → Memᴰ x (range i k)
unfolding range
range_mem i zero x l h = absurd (let z : ⊥ = omega arith in z)
range_mem i (suc k) x l h = go (λ ne. range_mem (suc i) k x (omega arith) (omega arith)) (equal_or_not x i)
  where
    go : ((x ≡ i → ⊥) → Memᴰ x (range (suc i) k)) → (x ≡ i) ⊎ (x ≡ i → ⊥) → Memᴰ x (i ∷ range (suc i) k)
    go below (inl e) = Memᴰ.head e
    go below (inr ne) = Memᴰ.tail (below ne)

pub length_elements : (n : ℕ) → length (elements n) ≡ n
unfolding elements
length_elements n = length_range 1 n

pub mem_elements : (n x : ℕ) → Memᴰ x (elements n) → Element n x
unfolding elements
mem_elements n x m = let r = mem_range 1 n x m in omega arith

pub elements_mem : (n x : ℕ) → Element n x → Memᴰ x (elements n)
unfolding elements
elements_mem n x h = range_mem 1 n x (omega arith) (omega arith)

-- ---- entries counted from 1

pub at_suc : (f : List ℕ) (k : ℕ) → at f (suc k) ≡ get_or f k 0
unfolding at
at_suc f k = ap (λ (i : ℕ). get_or f i 0) (let z : suc k - 1 ≡ k = omega arith in z)

pub get_d_map : {A : Type 0} (f : A → ℕ) (l : List A) (d : A) (k : ℕ) → k < length l → get_or (map f l) k 0 ≡ f (get_or l k d)
get_d_map f [] d k h = absurd (let z : ⊥ = omega arith in z)
get_d_map f (x ∷ l) d zero h = refl
get_d_map f (x ∷ l) d (suc k) h = get_d_map f l d k (omega arith)

pub at_map : (f : ℕ → ℕ) (l : List ℕ) (i : ℕ) → Element (length l) i → at (map f l) i ≡ f (at l i)
unfolding at
at_map f l i h = get_d_map f l 0 (i - 1) (omega arith)

pub at_elements : (n i : ℕ) → Element n i → at (elements n) i ≡ i
unfolding at elements
at_elements n i h = let e = get_d_range 1 n (i - 1) (omega arith) in omega arith

-- Two lists of n entries are equal if their entries are.
pub ext_at : (n : ℕ) (f g : List ℕ) → length f ≡ n → length g ≡ n → ((i : ℕ) → Element n i → at f i ≡ at g i) → f ≡ g
ext_at n f g p q h = ext_get_or 0 f g (p ∙ sym q) (λ k l. sym (at_suc f k) ∙ h (suc k) (omega arith) ∙ at_suc g k)

pub at_front : (p q : List ℕ) (i : ℕ) → Element (length p) i → at (p ++ q) i ≡ at p i
unfolding at
at_front p q i h = get_or-append p q 0 (i - 1) (omega arith)

pub at_seam : (p : List ℕ) (x : ℕ) (q : List ℕ) (i : ℕ) → i ≡ suc (length p) → at (p ++ x ∷ q) i ≡ x
at_seam p x q i e = ap (at (p ++ x ∷ q)) e ∙ at_suc (p ++ x ∷ q) (length p) ∙ get_or-append_seam p x q 0

pub length_snoc : {A : Type 0} (p : List A) (x : A) → length (p ++ x ∷ []) ≡ suc (length p)
length_snoc p x = let e = length-append p (x ∷ []) in omega arith

-- ---- every entry passes

module _ {A : Type 0} (p : A → Bool) where
  pub all_at : (l : List A) → all p l ≡ true → (x : A) → Memᴰ x l → p x ≡ true
  unfolding all
  all_at [] e x m = absurd (Memᴰ.not-nil m)
  all_at (y ∷ l) e x (Memᴰ.head q) = ap p q ∙ and_left (p y) (all p l) e
  all_at (y ∷ l) e x (Memᴰ.tail m) = all_at l (and_right (p y) (all p l) e) x m

  pub all_of : (l : List A) → ((x : A) → Memᴰ x l → p x ≡ true) → all p l ≡ true
  unfolding all
  all_of [] h = refl
  all_of (y ∷ l) h = both (p y) (all p l) (h y (Memᴰ.head refl)) (all_of l (λ x m. h x (Memᴰ.tail m)))

pub each_at : (n : ℕ) (p : ℕ → Bool) → all p (elements n) ≡ true → (i : ℕ) → Element n i → p i ≡ true
each_at n p e i h = all_at p (elements n) e i (elements_mem n i h)

pub each_of : (n : ℕ) (p : ℕ → Bool) → ((i : ℕ) → Element n i → p i ≡ true) → all p (elements n) ≡ true
each_of n p h = all_of p (elements n) (λ x m. h x (mem_elements n x m))

-- If all pairs pass a test, each pair does.
pub pairs_at : (n : ℕ) (p : ℕ → ℕ → Bool) → all (λ i. all (p i) (elements n)) (elements n) ≡ true → (i j : ℕ) → Element n i → Element n j → p i j ≡ true
pairs_at n p e i j hi hj = each_at n (p i) (each_at n (λ x. all (p x) (elements n)) e i hi) j hj

pub pairs_of : (n : ℕ) (p : ℕ → ℕ → Bool) → ((i j : ℕ) → Element n i → Element n j → p i j ≡ true) → all (λ i. all (p i) (elements n)) (elements n) ≡ true
pairs_of n p h = each_of n (λ x. all (p x) (elements n)) (λ i hi. each_of n (p i) (λ j hj. h i j hi hj))

-- ---- the first entry that passes

module _ {A : Type 0} where
  -- What holds of an entry that is found; and of every entry, if none is found.
  pub find_some : (p : A → Bool) (l : List A) (x : A) → find p l ≡ some x → Memᴰ x l × (p x ≡ true)
  unfolding find
  find_some p [] x e = absurd (none-ne-some x e)
  find_some p (y ∷ l) x e = go (p y) refl e (λ r. find_some p l x r)
    where
      go : (b : Bool) → p y ≡ b → cond b (some y) (find p l) ≡ some x → (find p l ≡ some x → Memᴰ x l × (p x ≡ true)) → Memᴰ x (y ∷ l) × (p x ≡ true)
      go true q r below = let w : x ≡ y = cc in (Memᴰ.head w, ap p w ∙ q)
      go false q r below = let w = below r in (Memᴰ.tail w.0, w.1)

  pub find_none : (p : A → Bool) (l : List A) → find p l ≡ none → (x : A) → Memᴰ x l → p x ≡ false
  unfolding find
  find_none p [] e x m = absurd (Memᴰ.not-nil m)
  find_none p (y ∷ l) e x m = go (p y) refl e (λ r k. find_none p l r x k) (Memᴰ.cases_cons m)
    where
      go : (b : Bool) → p y ≡ b → cond b (some y) (find p l) ≡ none → (find p l ≡ none → Memᴰ x l → p x ≡ false) → (x ≡ y) ⊎ Memᴰ x l → p x ≡ false
      go true q r below m = absurd (some-ne-none y r)
      go false q r below (inl e) = ap p e ∙ q
      go false q r below (inr k) = below r k

  pub none_find : (p : A → Bool) (l : List A) → ((x : A) → Memᴰ x l → p x ≡ false) → find p l ≡ none
  unfolding find
  none_find p [] h = refl
  none_find p (y ∷ l) h = rw (h y (Memᴰ.head refl)) (none_find p l (λ x m. h x (Memᴰ.tail m)))

  pub find_same : (p q : A → Bool) (l : List A) → ((x : A) → Memᴰ x l → p x ≡ q x) → find p l ≡ find q l
  unfolding find
  find_same p q [] h = refl
  find_same p q (y ∷ l) h = ap₂ (λ (b : Bool) (r : Option A). cond b (some y) r) (h y (Memᴰ.head refl)) (find_same p q l (λ x m. h x (Memᴰ.tail m)))

  pub find_append : (p : A → Bool) (l r : List A) → find p (l ++ r) ≡ or_else (find p l) (find p r)
  unfolding find or_else
  find_append p [] r = refl
  find_append p (x ∷ l) r = elim (p x) as (λ b. cond b (some x) (find p (l ++ r)) ≡ or_else (cond b (some x) (find p l)) (find p r)) [ false ↦ find_append p l r | true ↦ refl ]

  -- ---- the entries that pass

  pub find_keep : (p q : A → Bool) (l : List A) → find q (keep p l) ≡ find (λ x. p x && q x) l
  unfolding find keep
  find_keep p q [] = refl
  find_keep p q (x ∷ l) =
      elim (p x) as (λ b. find q (cond b (x ∷ keep p l) (keep p l)) ≡ cond (b && q x) (some x) (find (λ x. p x && q x) l))
      [ true ↦ ap (λ (o : Option A). cond (q x) (some x) o) (find_keep p q l) | false ↦ find_keep p q l ]

  pub keep_same : (p q : A → Bool) (l : List A) → ((x : A) → p x ≡ q x) → keep p l ≡ keep q l
  unfolding keep
  keep_same p q [] h = refl
  keep_same p q (x ∷ l) h = ap₂ (λ (b : Bool) (r : List A). cond b (x ∷ r) r) (h x) (keep_same p q l h)

  pub mem_keep : (p : A → Bool) (l : List A) (x : A) → Memᴰ x (keep p l) → Memᴰ x l × (p x ≡ true)
  unfolding keep
  mem_keep p [] x m = absurd (Memᴰ.not-nil m)
  mem_keep p (y ∷ l) x m = go (p y) refl m (λ k. mem_keep p l x k)
    where
      there : (Memᴰ x l × (p x ≡ true)) → Memᴰ x (y ∷ l) × (p x ≡ true)
      there w = (Memᴰ.tail w.0, w.1)

      here : p y ≡ true → (Memᴰ x (keep p l) → Memᴰ x l × (p x ≡ true)) → (x ≡ y) ⊎ Memᴰ x (keep p l) → Memᴰ x (y ∷ l) × (p x ≡ true)
      here q below (inl e) = (Memᴰ.head e, ap p e ∙ q)
      here q below (inr k) = there (below k)

      go : (b : Bool) → p y ≡ b → Memᴰ x (cond b (y ∷ keep p l) (keep p l)) → (Memᴰ x (keep p l) → Memᴰ x l × (p x ≡ true)) → Memᴰ x (y ∷ l) × (p x ≡ true)
      go true q k below = here q below (Memᴰ.cases_cons k)
      go false q k below = there (below k)

  pub keep_mem : (p : A → Bool) (l : List A) (x : A) → Memᴰ x l → p x ≡ true → Memᴰ x (keep p l)
  unfolding keep
  keep_mem p [] x m e = absurd (Memᴰ.not-nil m)
  keep_mem p (y ∷ l) x m e = go (p y) refl (λ k. keep_mem p l x k e) (Memᴰ.cases_cons m)
    where
      go : (b : Bool) → p y ≡ b → (Memᴰ x l → Memᴰ x (keep p l)) → (x ≡ y) ⊎ Memᴰ x l → Memᴰ x (cond b (y ∷ keep p l) (keep p l))
      go true q below (inl w) = Memᴰ.head w
      go true q below (inr k) = Memᴰ.tail (below k)
      go false q below (inl w) = absurd (clash {b = p y} (sym (ap p w) ∙ e) q)
      go false q below (inr k) = below k

-- ---- lists in which entries stand in a relation

module _ {A : Type 0} (R : A → A → Type 0) where
  -- The entry found stands before every other that passes.
  pub find_first : (p : A → Bool) (l : List A) → Sorted R l → (x : A) → find p l ≡ some x → (y : A) → Memᴰ y l → p y ≡ true → (y ≡ x) ⊎ R x y
  unfolding find
  find_first p [] s x e y m t = absurd (Memᴰ.not-nil m)
  find_first p (z ∷ l) s x e y m t = go (p z) refl e (λ r k. find_first p l s.1 x r y k t) (Memᴰ.cases_cons m)
    where
      go : (b : Bool) → p z ≡ b → cond b (some z) (find p l) ≡ some x → (find p l ≡ some x → Memᴰ y l → (y ≡ x) ⊎ R x y) → (y ≡ z) ⊎ Memᴰ y l → (y ≡ x) ⊎ R x y
      go true q r below (inl w) = let v : z ≡ x = cc in inl (w ∙ v)
      go true q r below (inr k) = let v : z ≡ x = cc in inr (subst (λ (u : A). R u y) v (s.0 y k))
      go false q r below (inl w) = absurd (clash {b = p z} (sym (ap p w) ∙ t) q)
      go false q r below (inr k) = below r k

  pub sorted_keep : (p : A → Bool) (l : List A) → Sorted R l → Sorted R (keep p l)
  unfolding keep
  sorted_keep p [] s = tt
  sorted_keep p (x ∷ l) s =
      elim (p x) as (λ b. Sorted R (cond b (x ∷ keep p l) (keep p l)))
      [ true ↦ ((λ y m. s.0 y (mem_keep p l y m).0), sorted_keep p l s.1) | false ↦ sorted_keep p l s.1 ]

  pub sorted_append : (l r : List A) → Sorted R l → Sorted R r → ((x y : A) → Memᴰ x l → Memᴰ y r → R x y) → Sorted R (l ++ r)
  sorted_append [] r s u h = u
  sorted_append (x ∷ l) r s u h = ((λ y m. go y (Memᴰ.append_cases l m)), sorted_append l r s.1 u (λ a b p q. h a b (Memᴰ.tail p) q))
    where
      go : (y : A) → Memᴰ y l ⊎ Memᴰ y r → R x y
      go y (inl m) = s.0 y m
      go y (inr m) = h x y (Memᴰ.head refl) m

pub sorted_weaken : {A : Type 0} (R S : A → A → Type 0) → ((x y : A) → R x y → S x y) → (l : List A) → Sorted R l → Sorted S l
sorted_weaken R S h [] s = tt
sorted_weaken R S h (x ∷ l) s = ((λ y m. h x y (s.0 y m)), sorted_weaken R S h l s.1)

pub sorted_map : {A B : Type 0} (R : A → A → Type 0) (S : B → B → Type 0) (f : A → B) → ((x y : A) → R x y → S (f x) (f y)) → (l : List A) → Sorted R l → Sorted S (map f l)
sorted_map R S f h [] s = tt
sorted_map R S f h (x ∷ l) s = (
  (λ y m. let r = Memᴰ.of_map f l m in subst (S (f x)) r.2 (h x r.0 (s.0 r.0 r.1))),
  sorted_map R S f h l s.1,
)

pub sorted_range : (i k : ℕ) → Sorted ◌<◌ (range i k)
unfolding range
sorted_range i zero = tt
sorted_range i (suc k) = ((λ y m. let r = mem_range (suc i) k y m in omega arith), sorted_range (suc i) k)

-- ---- the least number that passes

module _ (n : ℕ) (p : ℕ → Bool) where
  -- Where none passes, the least number is n + 1.
  pub least_bound : least n p ≤ n + 1
  unfolding least elements
  least_bound = go (find p (range 1 n)) refl
    where
      go : (o : Option ℕ) → find p (range 1 n) ≡ o → Option.get_or o (n + 1) ≤ n + 1
      go none e = omega arith
      go (some x) e = let h = mem_elements n x (find_some p (range 1 n) x e).0 in omega arith

  -- If some number j from 1 to n passes, the least does, and it is at most j.
  pub least_first : (j : ℕ) → Element n j → p j ≡ true → Element n (least n p) × (least n p ≤ j) × (p (least n p) ≡ true)
  unfolding least elements
  least_first j h t = go (find p (range 1 n)) refl
    where
      go : (o : Option ℕ) → find p (range 1 n) ≡ o → Element n (Option.get_or o (n + 1)) × (Option.get_or o (n + 1) ≤ j) × (p (Option.get_or o (n + 1)) ≡ true)
      go none e = absurd (clash {b = p j} t (find_none p (range 1 n) e j (elements_mem n j h)))
      go (some x) e =
          let r = find_some p (range 1 n) x e in
          let u = mem_elements n x r.0 in
          let le : x ≤ j = ⊎_elim (λ (q : j ≡ x). omega arith) (λ (q : x < j). omega arith) (find_first ◌<◌ p (range 1 n) (sorted_range 1 n) x e j (elements_mem n j h) t) in
          (u, le, r.1)

  -- The least number is one that passes, unless it is n + 1.
  pub least_passes : least n p ≤ n → Element n (least n p) × (p (least n p) ≡ true)
  unfolding least elements
  least_passes = go (find p (range 1 n)) refl
    where
      go : (o : Option ℕ) → find p (range 1 n) ≡ o → Option.get_or o (n + 1) ≤ n → Element n (Option.get_or o (n + 1)) × (p (Option.get_or o (n + 1)) ≡ true)
      go none e h = absurd (let z : ⊥ = omega arith in z)
      go (some x) e h = let r = find_some p (range 1 n) x e in (mem_elements n x r.0, r.1)

-- ---- membership as a test

pub member_mem : (x : ℕ) (l : List ℕ) → member x l ≡ true → Memᴰ x l
unfolding member
member_mem x [] e = absurd (clash {b = false} e refl)
member_mem x (y ∷ l) e = ⊎_elim (λ q. Memᴰ.head (eqb-true x y q)) (λ q. Memᴰ.tail (member_mem x l q)) (or_holds (eqb x y) (member x l) e)

pub not_member : (x : ℕ) (l : List ℕ) → member x l ≡ false → Memᴰ x l → ⊥
unfolding member
not_member x [] e m = Memᴰ.not-nil m
not_member x (y ∷ l) e (Memᴰ.head q) = eqb-false x y (or_fails (eqb x y) (member x l) e).0 q
not_member x (y ∷ l) e (Memᴰ.tail m) = not_member x l (or_fails (eqb x y) (member x l) e).1 m

pub mem_or_not : (x : ℕ) (l : List ℕ) → Memᴰ x l ⊎ (Memᴰ x l → ⊥)
mem_or_not x l = ⊎_elim (λ e. inl (member_mem x l e)) (λ e. inr (not_member x l e)) (either (member x l))

pub mem_member : (x : ℕ) (l : List ℕ) → Memᴰ x l → member x l ≡ true
mem_member x l m = unfalse (member x l) (λ e. not_member x l e m)

pub unmember : (x : ℕ) (l : List ℕ) → (Memᴰ x l → ⊥) → member x l ≡ false
unmember x l h = untrue (member x l) (λ e. h (member_mem x l e))

-- ---- parts of a list

pub mem_take : (k : ℕ) (l : List ℕ) (y : ℕ) → Memᴰ y (take k l) → Memᴰ y l
mem_take zero l y m = absurd (Memᴰ.not-nil m)
mem_take (suc k) [] y m = m
mem_take (suc k) (x ∷ l) y (Memᴰ.head e) = Memᴰ.head e
mem_take (suc k) (x ∷ l) y (Memᴰ.tail m) = Memᴰ.tail (mem_take k l y m)

pub keep_agree : {A : Type 0} (p q : A → Bool) (l : List A) → ((x : A) → Memᴰ x l → p x ≡ q x) → keep p l ≡ keep q l
unfolding keep
keep_agree p q [] h = refl
keep_agree {A} p q (x ∷ l) h = ap₂ (λ (b : Bool) (r : List A). cond b (x ∷ r) r) (h x (Memᴰ.head refl)) (keep_agree p q l (λ y m. h y (Memᴰ.tail m)))

-- ---- elements as a test

pub is_element_law : (n x : ℕ) → is_element n x ≡ true → Element n x
unfolding is_element
is_element_law n x e = (leb-true 1 x (and_left (leb 1 x) (leb x n) e), leb-true x n (and_right (leb 1 x) (leb x n) e))

pub element_is : (n x : ℕ) → Element n x → is_element n x ≡ true
unfolding is_element
element_is n x h = both (leb 1 x) (leb x n) (le-leb 1 x h.0) (le-leb x n h.1)
