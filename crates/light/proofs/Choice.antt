-- The generators that question 4 chooses: the rarest element is found one by one; the products from left to right are found until every element found has
-- been multiplied with the whole list; and Light's law turns the triples with their middle on the list into associativity. Assumes nothing.
use mathlib.Core.Path.{◌≡◌, refl, sym, ap, ◌∙◌, subst}
use mathlib.Core.Bool.{Bool, true, false, cond, not, ◌&&◌}
use mathlib.Core.Option.{Option, none, some}
use mathlib.Core.Logic.{◌⊎◌, inl, inr, ⊎_elim}
use mathlib.Core.List.Memᴰ
use mathlib.Core.List.{List, [], ◌∷◌, ◌++◌, map, Memᴰ}
use Prim.Native.Nat.{ℕ, suc, ◌+◌, ◌-◌, ◌≤◌, ◌<◌}
use native.Mathlib.Omega.{arith}
use borrow.Author.Tests.{eqb-true}
use lib.ListN.{length, take, drop, get_or, set, replicate, length-map, length-drop, length-append, get_or-append, take-append-drop}
use lib.Seq.{length-take-le, take-suc, take_all, take-set-le, get_or-take, get_or-set_same, get_or-set_other}
use Rattle.std.specs.Prelude.{Option as Optional, None, Some, is_none}
use Rattle.semigroups.specs.Lists.{elements, all, find, member}
use Rattle.semigroups.specs.Results.{optional}
use Rattle.semigroups.specs.Tables.{Product, Element, Associative, associates}
use Rattle.semigroups.specs.TablesLaws.{Closed}
use Rattle.semigroups.specs.Invariants.{frequency}
use Rattle.semigroups.specs.InnerGenerated.{Inside, LeftProduct, entry, further}
use Rattle.semigroups.proofs.Booleans.{equal_or_not, at_most_or_above}
use Rattle.semigroups.proofs.Lists.{all_at, each_at, pairs_at, get_d_map, not_member, unmember, mem_or_not, mem_take}
use Rattle.semigroups.proofs.NoRepeats.{mem_place, place_mem}
use Rattle.semigroups.proofs.Generated.{left_product_more, left_product_generated}
use Rattle.semigroups.proofs.Light.{lights_law}
use Rattle.products.specs.InnerPerElement.{per_element}
use Rattle.light.specs.InnerFound.{adding, adding_all}
use Rattle.light.specs.InnerChoice.{FoundProducts, Rarest, RarestOrNone, RarestFirst, good_middle, LightsAnswer}
use Rattle.products.proofs.Values.{get_d_zeros}
use Rattle.products.proofs.PerElement.{per_element_at}
use Rattle.light.proofs.Found.{adding_holds, mem_adding, adding_more, adding_next, mem_all, all_keeps, all_longer, all_place, all_holds}

-- The next generator after the list: the rarest element of the table that is not a product of it; or none, and there is no such element.
abbrev pub NextGenerator : ℕ → Product → List ℕ → Optional ℕ → Type 0
NextGenerator n s l o = RarestOrNone n (frequency n s) (λ y. LeftProduct s l y → ⊥) o

-- ---- the rarest of some elements

-- Weights and properties that agree at the elements.
rarest_same : (n : ℕ) (v w : ℕ → ℕ) (F G : ℕ → Type 0) → ((x : ℕ) → Element n x → v x ≡ w x) → ((x : ℕ) → Element n x → F x → G x) → ((x : ℕ) → Element n x → G x → F x) → (o : Optional ℕ)
    → RarestOrNone n v F o → RarestOrNone n w G o
rarest_same n v w F G e to from (Some c) r =
    record {
      element = r.element;
      free = to c r.element r.free;
      before_others = λ y h g.
          let ec = e c r.element in
          let ey = e y h in
          ⊎_elim (λ (q : v c < v y). inl (omega arith)) (λ q. let q0 = q.0 in inr (omega arith, q.1)) (r.before_others y h (from y h g));
    }
rarest_same n v w F G e to from None r = λ y h g. r y h (from y h g)

-- ---- one element multiplied

-- The products of x with the entries of a list, the one at i next.
pub product_added : (s : Product) (x : ℕ) (list r : List ℕ) (i xy : ℕ) → i < length list → xy ≡ s x (get_or list i 0)
    → adding (adding_all r (take i (map (s x) list))) xy ≡ adding_all r (take (i + 1) (map (s x) list))
product_added s x list r i xy h e = adding_next r (map (s x) list) i xy (omega (arith, length-map list (s x))) (e ∙ sym (get_d_map (s x) list 0 i h))

-- What is found grows.
pub right_longer : (r q r' : List ℕ) → r' ≡ adding_all r q → length r ≤ length r'
right_longer r q r' e = omega (arith, ap length e, all_longer r q)

-- The part of a list of elements that goes to its end.
pub part_inside : (n : ℕ) (l : List ℕ) (k : ℕ) → Inside n l → Inside n (take (length l - k) (drop k l))
part_inside n l k inside x m =
    inside x (subst (Memᴰ x) (take-append-drop k l) (Memᴰ.append_right (take k l) (subst (Memᴰ x) (take_all (length l - k) (drop k l) (omega (arith, length-drop k l))) m)))

-- ---- until every product is found

module _ (s : Product) (l : List ℕ) where
  -- The list r holds l and products from left to right alone, and the products of its first entries with every entry of l.
  pub record Reaching (first : ℕ) (r : List ℕ) : Type 0 where
    pub holds_list : (x : ℕ) → Memᴰ x l → Memᴰ x r
    pub products_alone : (x : ℕ) → Memᴰ x r → LeftProduct s l x
    pub multiplied : (i y : ℕ) → i < first → Memᴰ y l → Memᴰ (s (get_or r i 0) y) r

  -- The products of the first `old` entries of r with every entry of l but its last are there too.
  pub record Entering (old first : ℕ) (r : List ℕ) : Type 0 where
    pub reaching : Reaching first r
    pub earlier : (i y : ℕ) → i < old → Memᴰ y (take (length l - 1) l) → Memᴰ (s (get_or r i 0) y) r

  -- An entry stands before a place or from it on.
  before_or_after : (k y : ℕ) → Memᴰ y l → Memᴰ y (take k l) ⊎ Memᴰ y (drop k l)
  before_or_after k y m = Memᴰ.append_cases (take k l) (subst (Memᴰ y) (sym (take-append-drop k l)) m)

  after_in : (k y : ℕ) → Memᴰ y (drop k l) → Memᴰ y l
  after_in k y m = subst (Memᴰ y) (take-append-drop k l) (Memᴰ.append_right (take k l) m)

  -- One element more is multiplied with the entries from a place on; its products with the entries before that are there.
  reaching_next : (first from : ℕ) (r : List ℕ) → Reaching first r → first < length r → ((y : ℕ) → Memᴰ y (take from l) → Memᴰ (s (get_or r first 0) y) r)
      → Reaching (first + 1) (adding_all r (map (s (get_or r first 0)) (drop from l)))
  reaching_next first from r g h before =
      record {
        holds_list = λ x m. all_keeps r more x (g.holds_list x m);
        products_alone = λ x m. ⊎_elim (λ k. g.products_alone x k) (λ k. new x k) (mem_all r more x m);
        multiplied = λ i y hi m. Memᴰ.cast (ap (λ (x : ℕ). s x y) (all_place r more i (omega arith))) (products i y hi m);
      }
    where
      x₀ : ℕ
      x₀ = get_or r first 0

      more : List ℕ
      more = map (s x₀) (drop from l)

      new : (z : ℕ) → Memᴰ z more → LeftProduct s l z
      new z m = let w = Memᴰ.of_map (s x₀) (drop from l) m in further x₀ w.0 z (g.products_alone x₀ (place_mem 0 r first h)) (after_in from w.0 w.1) (sym w.2)

      products : (i y : ℕ) → i < first + 1 → Memᴰ y l → Memᴰ (s (get_or r i 0) y) (adding_all r more)
      products i y hi m = go (equal_or_not i first)
        where
          go : (i ≡ first) ⊎ (i ≡ first → ⊥) → Memᴰ (s (get_or r i 0) y) (adding_all r more)
          go (inl e) =
              Memᴰ.cast (ap (λ (k : ℕ). s (get_or r k 0) y) e)
              (⊎_elim (λ k. all_keeps r more (s x₀ y) (before y k)) (λ k. all_holds r more (s x₀ y) (Memᴰ.map (s x₀) k)) (before_or_after from y m))
          go (inr ne) = all_keeps r more (s (get_or r i 0) y) (g.multiplied i y (omega arith) m)

  -- An element that was found before is multiplied with the last entry.
  pub entering_next : (old place : ℕ) (r r' : List ℕ) → Entering old place r → place < old → old ≤ length r
      → r' ≡ adding_all r (map (s (get_or r place 0)) (take (length l - (length l - 1)) (drop (length l - 1) l))) → Entering old (place + 1) r'
  entering_next old place r r' g t h e =
      let last = length l - 1 in
      let more = map (s (get_or r place 0)) (drop last l) in
      subst (Entering old (place + 1))
      (sym (e ∙ ap (λ (k : List ℕ). adding_all r (map (s (get_or r place 0)) k)) (take_all (length l - last) (drop last l) (omega (arith, length-drop last l)))))
      (record {
        reaching = reaching_next place last r g.reaching (omega arith) (λ y m. g.earlier place y t m);
        earlier = λ i y hi m.
            Memᴰ.cast (ap (λ (z : ℕ). s z y) (all_place r more i (omega arith))) (all_keeps r more (s (get_or r i 0) y) (g.earlier i y hi m));
      })

  -- A new element is multiplied with every entry.
  pub reaching_whole : (place : ℕ) (r r' : List ℕ) → Reaching place r → place < length r → r' ≡ adding_all r (map (s (get_or r place 0)) l) → Reaching (place + 1) r'
  reaching_whole place r r' g h e = subst (Reaching (place + 1)) (sym e) (reaching_next place 0 r g h (λ y m. absurd (Memᴰ.not-nil m)))

  -- Every element found has been multiplied.
  pub reached : (place : ℕ) (r : List ℕ) → Reaching place r → length r ≤ place → FoundProducts s l r
  reached place r g h = record { products_alone = g.products_alone; all_products = all_in }
    where
      all_in : (x : ℕ) → LeftProduct s l x → Memᴰ x r
      all_in _ (entry x k) = g.holds_list x k
      all_in _ (further x y z p k e) =
          let w = mem_place 0 r (all_in x p) in
          let w1 = w.1 in
          Memᴰ.cast (e ∙ ap (λ (u : ℕ). s u y) (sym w.2)) (g.multiplied w.0 y (omega arith) k)

-- The last entry of the list joins what the others reach.
module _ (s : Product) (l : List ℕ) (h : 1 ≤ length l) (r : List ℕ) (f : FoundProducts s (take (length l - 1) l) r) where
  abbrev x : ℕ
  x = get_or l (length l - 1) 0

  abbrev before : List ℕ
  before = take (length l - 1) l

  parts : l ≡ before ++ x ∷ []
  parts = sym (take_all (suc (length l - 1)) l (omega arith)) ∙ take-suc l (length l - 1) 0 (omega arith)

  pub entering_longer : length r ≤ length (adding r x)
  entering_longer = let u = adding_more r x in omega (arith, ap length u.1, length-append r u.0)

  pub entering_start : Entering s l (length r) 0 (adding r x)
  entering_start =
      record {
        reaching = record {
          holds_list = λ y m. ⊎_elim (λ k. keeps y (f.all_products y (entry y k))) (λ k. Memᴰ.cast (Memᴰ.eq_of_singleton k) (adding_holds r x)) (Memᴰ.append_cases before (subst (Memᴰ y) parts m));
          products_alone = λ y m. ⊎_elim (λ k. left_product_more s before l (λ z q. mem_take (length l - 1) l z q) y (f.products_alone y k)) (λ e. entry y (Memᴰ.cast e (place_mem 0 l (length l - 1) (omega arith)))) (mem_adding r x y m);
          multiplied = λ i y hi m. absurd (let z : ⊥ = omega arith in z);
        };
        earlier = λ i y hi m.
            let v = get_or r i 0 in
            Memᴰ.cast (ap (λ (z : ℕ). s z y) (stays i hi)) (keeps (s v y) (f.all_products (s v y) (further v y (s v y) (f.products_alone v (place_mem 0 r i hi)) m refl)));
      }
    where
      keeps : (y : ℕ) → Memᴰ y r → Memᴰ y (adding r x)
      keeps y m = let u = adding_more r x in rw u.1 (Memᴰ.append_left u.0 m)

      stays : (i : ℕ) → i < length r → get_or (adding r x) i 0 ≡ get_or r i 0
      stays i b = let u = adding_more r x in ap (λ (a : List ℕ). get_or a i 0) u.1 ∙ get_or-append r u.0 0 i b

-- Every product from left to right of elements is an element.
pub reaching_inside : (n : ℕ) (s : Product) (l : List ℕ) → Closed n s → Inside n l → (x : ℕ) → LeftProduct s l x → Element n x
reaching_inside n s l closed inside _ (entry x k) = inside x k
reaching_inside n s l closed inside _ (further x y z p k e) = subst (Element n) (sym e) (closed x y (reaching_inside n s l closed inside x p) (inside y k))

-- Everything found is an element.
pub found_inside : (n : ℕ) (s : Product) (l r : List ℕ) (first : ℕ) → Closed n s → Inside n l → Reaching s l first r → Inside n r
found_inside n s l r first closed inside g x m = reaching_inside n s l closed inside x (g.products_alone x m)

-- ---- the choice

pub products_nil : (s : Product) → FoundProducts s [] []
products_nil s = record { products_alone = λ x m. absurd (Memᴰ.not-nil m); all_products = nothing }
  where
    nothing : (x : ℕ) → LeftProduct s [] x → Memᴰ x []
    nothing _ (entry x k) = k
    nothing _ (further x y z p k e) = absurd (Memᴰ.not-nil k)

-- The rarest element that is not found is the next generator.
pub next_generator : (n : ℕ) (s : Product) (l counts r : List ℕ) (o : Optional ℕ) → counts ≡ per_element n (frequency n s) → FoundProducts s l r
    → RarestOrNone n (λ y. get_or counts (y - 1) 0) (λ y. member y r ≡ false) o → NextGenerator n s l o
next_generator n s l counts r o e f c =
    rarest_same n (λ y. get_or counts (y - 1) 0) (frequency n s) (λ y. member y r ≡ false) (λ y. LeftProduct s l y → ⊥)
    (λ y h. ap (λ (c : List ℕ). get_or c (y - 1) 0) e ∙ per_element_at n (frequency n s) y h)
    (λ y h q p. not_member y r q (f.all_products y p))
    (λ y h q. unmember y r (λ m. q (f.products_alone y m)))
    o c

pub first_none : (n : ℕ) (s : Product) → RarestFirst n s (replicate 30 0) 0
first_none n s = record { entries = λ k h. absurd (let z : ⊥ = omega arith in z); zeros_after = λ k h. get_d_zeros 30 k }

module _ {n : ℕ} {s : Product} {list : List ℕ} {k : ℕ} (c : RarestFirst n s list k) where
  pub chosen_inside : Inside n (take k list)
  chosen_inside x m =
      let w = mem_place 0 (take k list) m in
      let w1 = w.1 in
      let low : w.0 < k = ⊎_elim (λ (h : length list ≤ k). omega (arith, ap length (take_all k list h))) (λ (h : k < length list). omega (arith, length-take-le k list (omega arith))) (at_most_or_above (length list) k) in
      subst (Element n) (sym (get_or-take k list w.0 0 low) ∙ w.2) (c.entries w.0 low).element

  -- An entry is written after the first k.
  module _ (x : ℕ) (b : k < length list) (r : Rarest n (frequency n s) (λ y. LeftProduct s (take k list) y → ⊥) x) where
    pub chosen_next : RarestFirst n s (set list k x) (k + 1)
    chosen_next = record { entries = at; zeros_after = λ i h. get_or-set_other list k i x 0 (λ e. let z : ⊥ = omega arith in z) ∙ c.zeros_after i (omega arith) }
      where
        at : (i : ℕ) → i < k + 1 → Rarest n (frequency n s) (λ y. LeftProduct s (take i (set list k x)) y → ⊥) (get_or (set list k x) i 0)
        at i h = go (equal_or_not i k)
          where
            go : (i ≡ k) ⊎ (i ≡ k → ⊥) → Rarest n (frequency n s) (λ y. LeftProduct s (take i (set list k x)) y → ⊥) (get_or (set list k x) i 0)
            go (inl e) =
                rw (take-set-le i list k x (omega arith))
                (subst (Rarest n (frequency n s) (λ y. LeftProduct s (take i list) y → ⊥)) (sym (ap (λ (j : ℕ). get_or (set list k x) j 0) e ∙ get_or-set_same list k x 0 b))
                (subst (λ (j : ℕ). Rarest n (frequency n s) (λ y. LeftProduct s (take j list) y → ⊥) x) (sym e) r))
            go (inr ne) =
                rw (take-set-le i list k x (omega arith), get_or-set_other list k i x 0 ne) (c.entries i (omega arith))

-- There is no next generator: every element is a product.
pub no_generator : {n : ℕ} {s : Product} {l r : List ℕ} → FoundProducts s l r → NextGenerator n s l None → (y : ℕ) → Element n y → LeftProduct s l y
no_generator {n} {s} {l} {r} f g y h = ⊎_elim (λ m. f.products_alone y m) (λ m. absurd (g y h (λ p. m (f.all_products y p)))) (mem_or_not y r)

-- ---- the triples

-- No third fails: each associates.
pub none_fails : (s : Product) (i j : ℕ) (l : List ℕ) (o : Optional ℕ) → optional o ≡ find (λ k. not (associates s i j k)) l → is_none o ≡ all (associates s i j) l
unfolding find all
none_fails s i j l o e = same o ∙ ap none_there e ∙ found l
  where
    none_there : Option ℕ → Bool
    none_there none = true
    none_there (some k) = false

    same : (o : Optional ℕ) → is_none o ≡ none_there (optional o)
    same None = refl
    same (Some k) = refl

    found : (l : List ℕ) → none_there (find (λ k. not (associates s i j k)) l) ≡ all (associates s i j) l
    found [] = refl
    found (k ∷ l) = by (associates s i j k) (found l)
      where
        by : (b : Bool) → none_there (find (λ k. not (associates s i j k)) l) ≡ all (associates s i j) l
            → none_there (cond (not b) (some k) (find (λ k. not (associates s i j k)) l)) ≡ (b && all (associates s i j) l)
        by true e = e
        by false e = refl

module _ (n : ℕ) (s : Product) where
  good_middle_law : (j : ℕ) → good_middle n s j ≡ true → (i k : ℕ) → Element n i → Element n k → s (s i j) k ≡ s i (s j k)
  unfolding good_middle associates
  good_middle_law j e i k hi hk = eqb-true (s (s i j) k) (s i (s j k)) (pairs_at n (λ i k. associates s i j k) e i k hi hk)

  everywhere_associative : all (good_middle n s) (elements n) ≡ true → Associative n s
  everywhere_associative t i j k hi hj hk = good_middle_law j (each_at n (good_middle n s) t j hj) i k hi hk

  -- A "yes" of Light's test.
  pub lights_yes : Closed n s → LightsAnswer n s true → Associative n s
  lights_yes closed a = go a.complete refl (sym a.answered)
    where
      go : (b : Bool) → a.complete ≡ b → all (good_middle n s) (cond b (take a.count a.list) (elements n)) ≡ true → Associative n s
      go true e good =
          let l = take a.count a.list in
          let inside = chosen_inside a.choice.rarest_first in
          (lights_law n s l closed inside (λ x h. left_product_generated n s l closed inside x (a.choice.enough e x h))).1
          (λ i j k hi m hk. good_middle_law j (all_at (good_middle n s) l good j m) i k hi hk)
      go false e good = everywhere_associative good
