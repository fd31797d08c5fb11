-- List order: `earlier` is irreflexive, transitive and decides between any two different lists of one length; the list of all lists is increasing
-- and complete, and what is found in it is the earliest that passes. Assumes nothing.
use mathlib.Core.Path.{◌≡◌, refl, sym, ap, ap₂, ◌∙◌, subst}
use mathlib.Core.Bool.{Bool, true, false, cond}
use mathlib.Core.Logic.{◌⊎◌, inl, inr, ⊎_elim, ◌↔◌}
use mathlib.Core.Option.{none, some}
use mathlib.Core.List.Memᴰ
use mathlib.Core.List.{List, [], ◌∷◌, ◌++◌, map, Memᴰ}
use Prim.Native.Nat.{ℕ, zero, suc, ◌*◌, ◌^◌, ◌<◌}
use native.Mathlib.Nat.{pow-zero, pow-succ'}
use native.Mathlib.Omega.{arith}
use borrow.Author.Tests.{eqb-true, eq-eqb, ne_eqb, ltb-true, lt-ltb, le-ltb}
use lib.Dec.{eqb, ltb}
use lib.ListN.{length, get_or, length-map}
use Rattle.semigroups.specs.Lists.{range, elements, find, earlier, lists}
use Rattle.semigroups.specs.ListsLaws.{Increasing, Earlier, Earliest}
use Rattle.semigroups.specs.InnerLists.{NoRepeats}
use Rattle.semigroups.specs.Tables.{Element}
use Rattle.semigroups.specs.InnerTables.{IsList}
use Rattle.semigroups.proofs.Booleans.{clash, untrue, trichotomy}
use Rattle.semigroups.proofs.Lists.{mem_elements, elements_mem, length_range, find_some, find_none, find_first, sorted_map, sorted_weaken, sorted_range}
use Rattle.semigroups.proofs.FlatMap.{mem_flat_map, flat_map_mem, sorted_flat_map, length_flat_map}

-- ---- the order

pub earlier_head : (x : ℕ) (a : List ℕ) (y : ℕ) (b : List ℕ) → x < y → earlier (x ∷ a) (y ∷ b) ≡ true
unfolding earlier
earlier_head x a y b h = rw (ne_eqb x y (λ e. let z : ⊥ = omega arith in z), lt-ltb x y h)

pub earlier_tail : (x : ℕ) (a b : List ℕ) → earlier (x ∷ a) (x ∷ b) ≡ earlier a b
unfolding earlier
earlier_tail x a b = rw (eq-eqb x x refl)

pub earlier_above : (x : ℕ) (a : List ℕ) (y : ℕ) (b : List ℕ) → y < x → earlier (x ∷ a) (y ∷ b) ≡ false
unfolding earlier
earlier_above x a y b h = rw (ne_eqb x y (λ e. let z : ⊥ = omega arith in z), le-ltb x y (omega arith))

pub earlier_cases : (x : ℕ) (a : List ℕ) (y : ℕ) (b : List ℕ) → earlier (x ∷ a) (y ∷ b) ≡ true → (x < y) ⊎ ((x ≡ y) × (earlier a b ≡ true))
unfolding earlier
earlier_cases x a y b e = go (eqb x y) refl e
  where
    go : (c : Bool) → eqb x y ≡ c → cond c (earlier a b) (ltb x y) ≡ true → (x < y) ⊎ ((x ≡ y) × (earlier a b ≡ true))
    go true q r = inr (eqb-true x y q, r)
    go false q r = inl (ltb-true x y r)

-- If a is earlier than b, it stays so with equal entries put in front of both.
earlier_after : (x y : ℕ) (a b : List ℕ) → x ≡ y → Earlier a b → Earlier (x ∷ a) (y ∷ b)
earlier_after x y a b e w =
    let i = w.in_first in
    let j = w.in_second in
    record { place = suc w.place; in_first = omega arith; in_second = omega arith; same_before = same; smaller = w.smaller }
  where
    same : (k : ℕ) → k < suc w.place → get_or (x ∷ a) k 0 ≡ get_or (y ∷ b) k 0
    same zero l = e
    same (suc k) l = w.same_before k (omega arith)

earlier_place : (a b : List ℕ) → earlier a b ≡ true → Earlier a b
unfolding earlier
earlier_place [] b e = absurd (clash {b = false} e refl)
earlier_place (x ∷ a) [] e = absurd (clash {b = false} e refl)
earlier_place (x ∷ a) (y ∷ b) e = go (λ h. earlier_place a b h) (earlier_cases x a y b e)
  where
    go : (earlier a b ≡ true → Earlier a b) → (x < y) ⊎ ((x ≡ y) × (earlier a b ≡ true)) → Earlier (x ∷ a) (y ∷ b)
    go below (inl h) = record { place = 0; in_first = omega arith; in_second = omega arith; same_before = λ k l. absurd (let z : ⊥ = omega arith in z); smaller = h }
    go below (inr h) = earlier_after x y a b h.0 (below h.1)

place_earlier : (a b : List ℕ) (p : ℕ) → p < length a → p < length b → ((k : ℕ) → k < p → get_or a k 0 ≡ get_or b k 0) → get_or a p 0 < get_or b p 0 → earlier a b ≡ true
place_earlier [] b p h g s l = absurd (let z : ⊥ = omega arith in z)
place_earlier (x ∷ a) [] p h g s l = absurd (let z : ⊥ = omega arith in z)
place_earlier (x ∷ a) (y ∷ b) zero h g s l = earlier_head x a y b l
place_earlier (x ∷ a) (y ∷ b) (suc p) h g s l =
    ap (λ (v : ℕ). earlier (v ∷ a) (y ∷ b)) (s 0 (omega arith)) ∙ earlier_tail y a b
    ∙ place_earlier a b p (omega arith) (omega arith) (λ k u. s (suc k) (omega arith)) l

-- The test `earlier` says what RULES 6.1 says in words.
pub earlier_exactly : (a b : List ℕ) → (earlier a b ≡ true) ↔ Earlier a b
earlier_exactly a b = (earlier_place a b, λ w. place_earlier a b w.place w.in_first w.in_second w.same_before w.smaller)

pub earlier_irreflexive : (a : List ℕ) → earlier a a ≡ false
earlier_irreflexive [] = unfold earlier in refl
earlier_irreflexive (x ∷ a) = earlier_tail x a a ∙ earlier_irreflexive a

pub earlier_transitive : (a b c : List ℕ) → earlier a b ≡ true → earlier b c ≡ true → earlier a c ≡ true
unfolding earlier
earlier_transitive [] b c p q = p
earlier_transitive (x ∷ a) [] c p q = absurd (clash {b = false} p refl)
earlier_transitive (x ∷ a) (y ∷ b) [] p q = q
earlier_transitive (x ∷ a) (y ∷ b) (z ∷ c) p q = go (λ h k. earlier_transitive a b c h k) (earlier_cases x a y b p) (earlier_cases y b z c q)
  where
    go : (earlier a b ≡ true → earlier b c ≡ true → earlier a c ≡ true) → (x < y) ⊎ ((x ≡ y) × (earlier a b ≡ true)) → (y < z) ⊎ ((y ≡ z) × (earlier b c ≡ true)) → earlier (x ∷ a) (z ∷ c) ≡ true
    go below (inl h) (inl k) = earlier_head x a z c (omega arith)
    go below (inl h) (inr k) = let k0 = k.0 in earlier_head x a z c (omega arith)
    go below (inr h) (inl k) = let h0 = h.0 in earlier_head x a z c (omega arith)
    go below (inr h) (inr k) = ap (λ (v : ℕ). earlier (v ∷ a) (z ∷ c)) (h.0 ∙ k.0) ∙ earlier_tail z a c ∙ below h.1 k.1

pub earlier_asymmetric : (a b : List ℕ) → earlier a b ≡ true → earlier b a ≡ false
earlier_asymmetric a b e = untrue (earlier b a) (λ q. clash {b = earlier a a} (earlier_transitive a b a e q) (earlier_irreflexive a))

-- Of two different lists of one length one is earlier.
pub earlier_total : (a b : List ℕ) → length a ≡ length b → (a ≡ b) ⊎ ((earlier a b ≡ true) ⊎ (earlier b a ≡ true))
earlier_total [] [] e = inl refl
earlier_total [] (y ∷ b) e = absurd (let z : ⊥ = omega arith in z)
earlier_total (x ∷ a) [] e = absurd (let z : ⊥ = omega arith in z)
earlier_total (x ∷ a) (y ∷ b) e = go (trichotomy x y) (earlier_total a b (omega arith))
  where
    go : (x ≡ y) ⊎ ((x < y) ⊎ (y < x)) → (a ≡ b) ⊎ ((earlier a b ≡ true) ⊎ (earlier b a ≡ true)) → (◌≡◌ {A = List ℕ} (x ∷ a) (y ∷ b)) ⊎ ((earlier (x ∷ a) (y ∷ b) ≡ true) ⊎ (earlier (y ∷ b) (x ∷ a) ≡ true))
    go (inl q) (inl r) = inl (ap₂ {C = List ℕ} (λ (v : ℕ) (l : List ℕ). v ∷ l) q r)
    go (inl q) (inr (inl r)) = inr (inl (ap (λ (v : ℕ). earlier (v ∷ a) (y ∷ b)) q ∙ earlier_tail y a b ∙ r))
    go (inl q) (inr (inr r)) = inr (inr (ap (λ (v : ℕ). earlier (y ∷ b) (v ∷ a)) q ∙ earlier_tail y b a ∙ r))
    go (inr (inl h)) d = inr (inl (earlier_head x a y b h))
    go (inr (inr h)) d = inr (inr (earlier_head y b x a h))

-- Two properties that mean the same have the same earliest list.
pub earliest_same : {P Q : List ℕ → Type 0} {a : List ℕ} → ((g : List ℕ) → P g ↔ Q g) → Earliest P a ↔ Earliest Q a
earliest_same {a = a} w = (
  (λ e. record { has = (w a).0 e.has; before_others = λ g h. e.before_others g ((w g).1 h) }),
  λ e. record { has = (w a).1 e.has; before_others = λ g h. e.before_others g ((w g).0 h) },
)

-- An equal beginning makes no difference to which of two lists is earlier.
pub earlier_skip : (p a b : List ℕ) → earlier (p ++ a) (p ++ b) ≡ earlier a b
earlier_skip [] a b = refl
earlier_skip (x ∷ p) a b = earlier_tail x (p ++ a) (p ++ b) ∙ earlier_skip p a b

-- A list that is earlier stays so however it goes on.
pub earlier_longer : (a q b : List ℕ) → earlier a b ≡ true → earlier (a ++ q) b ≡ true
unfolding earlier
earlier_longer [] q b e = absurd (clash {b = false} e refl)
earlier_longer (x ∷ a) q [] e = absurd (clash {b = false} e refl)
earlier_longer (x ∷ a) q (y ∷ b) e = go (λ h. earlier_longer a q b h) (earlier_cases x a y b e)
  where
    go : (earlier a b ≡ true → earlier (a ++ q) b ≡ true) → (x < y) ⊎ ((x ≡ y) × (earlier a b ≡ true)) → earlier (x ∷ (a ++ q)) (y ∷ b) ≡ true
    go below (inl h) = earlier_head x (a ++ q) y b h
    go below (inr h) = ap (λ (v : ℕ). earlier (v ∷ (a ++ q)) (y ∷ b)) h.0 ∙ earlier_tail y (a ++ q) b ∙ below h.1

pub increasing_no_repeats : (l : List (List ℕ)) → Increasing l → NoRepeats l
increasing_no_repeats l s =
    sorted_weaken (λ (a b : List ℕ). earlier a b ≡ true) (λ (a b : List ℕ). a ≡ b → ⊥)
    (λ a b h e. clash {b = earlier a a} (subst (λ (c : List ℕ). earlier a c ≡ true) (sym e) h) (earlier_irreflexive a)) l s

-- ---- all lists

-- The lists that begin with x.
abbrev beginning : List (List ℕ) → ℕ → List (List ℕ)
beginning r x = map (λ l. x ∷ l) r

mem_beginning : (r : List (List ℕ)) (x : ℕ) (f : List ℕ) → Memᴰ f (beginning r x) → (l : List ℕ) × Memᴰ l r × (◌≡◌ {A = List ℕ} (x ∷ l) f)
mem_beginning r x f m = Memᴰ.of_map {A = List ℕ} {B = List ℕ} (λ l. x ∷ l) r m

pub lists_increasing : (m n : ℕ) → Increasing (lists m n)
unfolding lists elements
lists_increasing zero n = ((λ y m. absurd (Memᴰ.not-nil m)), tt)
lists_increasing (suc m) n =
    sorted_flat_map (beginning (lists m n)) ◌<◌ (λ (a b : List ℕ). earlier a b ≡ true)
    (λ x. sorted_map (λ (a b : List ℕ). earlier a b ≡ true) (λ (a b : List ℕ). earlier a b ≡ true) (λ l. x ∷ l) (λ a b h. earlier_tail x a b ∙ h) (lists m n) (lists_increasing m n))
    (λ x y h a b p q.
    let u = mem_beginning (lists m n) x a p in
    let v = mem_beginning (lists m n) y b q in
    sym (ap₂ earlier u.2 v.2) ∙ earlier_head x u.0 y v.0 h)
    (range 1 n) (sorted_range 1 n)

pub mem_lists : (m n : ℕ) (f : List ℕ) → Memᴰ f (lists m n) → IsList m n f
unfolding lists
mem_lists zero n f h = let e = Memᴰ.eq_of_singleton h in record { size = ap length e; entries = λ x k. absurd (Memᴰ.not-nil (subst (Memᴰ x) e k)) }
mem_lists (suc m) n f h =
    let w = mem_flat_map (beginning (lists m n)) (elements n) f h in
    let v = mem_beginning (lists m n) w.0 f w.2 in
    let ih = mem_lists m n v.0 v.1 in
    record {
      size = sym (ap length v.2) ∙ ap suc ih.size;
      entries = λ x k. ⊎_elim (λ e. subst (Element n) (sym e) (mem_elements n w.0 w.1)) (ih.entries x) (Memᴰ.cases_cons (subst (Memᴰ x) (sym v.2) k));
    }

pub lists_mem : (m n : ℕ) (f : List ℕ) → IsList m n f → Memᴰ f (lists m n)
unfolding lists
lists_mem zero n [] h = Memᴰ.head refl
lists_mem zero n (x ∷ l) h = absurd (let e = h.size in let z : ⊥ = omega arith in z)
lists_mem (suc m) n [] h = absurd (let e = h.size in let z : ⊥ = omega arith in z)
lists_mem (suc m) n (x ∷ l) h =
    flat_map_mem (beginning (lists m n)) (elements n) x (x ∷ l) (elements_mem n x (h.entries x (Memᴰ.head refl)))
    (Memᴰ.map {B = List ℕ} (λ (q : List ℕ). x ∷ q) (lists_mem m n l (record { size = let e = h.size in omega arith; entries = λ y k. h.entries y (Memᴰ.tail k) })))

pub length_lists : (m n : ℕ) → length (lists m n) ≡ n ^ m
unfolding lists elements
length_lists zero n = sym (pow-zero n)
length_lists (suc m) n =
    length_flat_map (beginning (lists m n)) (length (lists m n)) (λ x. length-map (lists m n) (λ l. x ∷ l)) (range 1 n)
    ∙ ap₂ (λ (k l : ℕ). k * l) (length_range 1 n) (length_lists m n) ∙ sym (pow-succ' n m)

-- The list found among all lists is the earliest that passes.
pub find_earliest : (p : List ℕ → Bool) (m n : ℕ) (e : List ℕ) → find p (lists m n) ≡ some e → Earliest (λ f. IsList m n f × (p f ≡ true)) e
find_earliest p m n e q =
    let r = find_some p (lists m n) e q in
    record {
      has = (mem_lists m n e r.0, r.1);
      before_others = λ g h. find_first (λ (a b : List ℕ). earlier a b ≡ true) p (lists m n) (lists_increasing m n) e q g (lists_mem m n g h.0) h.1;
    }

-- There is only one earliest list.
pub earliest_unique : {P : List ℕ → Type 0} {a b : List ℕ} → Earliest P a → Earliest P b → a ≡ b
earliest_unique {P} {a} {b} h k =
    ⊎_elim (λ (e : b ≡ a). sym e)
    (λ (p : earlier a b ≡ true). ⊎_elim (λ (e : a ≡ b). e) (λ (q : earlier b a ≡ true). absurd (clash {b = earlier b a} q (earlier_asymmetric a b p))) (k.before_others a h.has))
    (h.before_others b k.has)

pub find_nowhere : (p : List ℕ → Bool) (m n : ℕ) → find p (lists m n) ≡ none → (f : List ℕ) → IsList m n f → p f ≡ false
find_nowhere p m n q f h = find_none p (lists m n) q f (lists_mem m n f h)
