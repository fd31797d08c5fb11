-- Maps: the tests and the plain statements agree, both ways; the full lists are increasing and hold exactly the maps of their kind; what first and next
-- find is the earliest, and none means that there is none; more elements do not fit into fewer. Assumes nothing.
use mathlib.Core.Path.{◌≡◌, refl, sym, ap, ◌∙◌}
use mathlib.Core.Bool.{Bool, true, ◌&&◌}
use mathlib.Core.Logic.{◌↔◌}
use mathlib.Core.Option.{Option, none, some}
use mathlib.Core.List.{List, [], ◌∷◌, Memᴰ}
use Prim.Native.Nat.{ℕ, ◌-◌, ◌≤◌, ◌<◌}
use native.Mathlib.Nat.{le_antisymm}
use native.Mathlib.Omega.{arith}
use borrow.Author.Tests.{eqb-true, eq-eqb}
use lib.Dec.{eqb}
use lib.ListN.{length}
use Rattle.semigroups.specs.Lists.{elements, at, all, distinct, earlier, lists}
use Rattle.semigroups.specs.ListsLaws.{Increasing, Earliest}
use Rattle.semigroups.specs.Tables.{Product, Element, is_element, turned}
use Rattle.semigroups.specs.InnerTables.{IsList}
use Rattle.semigroups.specs.MapsLaws.{Isomorphism, IsMap, ReversedIsomorphism}
use Rattle.semigroups.specs.InnerMaps.{Homomorphism, Embedding}
use Rattle.semigroups.specs.Maps.{is_homomorphism, is_embedding, is_isomorphism, Kind, embeddings, isomorphisms, is_map, maps, Ask, first, beyond, earliest, reversed}
use Rattle.semigroups.proofs.Booleans.{clash, same_truth, both, and_left, and_right}
use Rattle.semigroups.proofs.Lists.{all_at, all_of, pairs_at, pairs_of, is_element_law, element_is, find_some, find_none, find_first, keep_same, mem_keep, keep_mem, sorted_keep}
use Rattle.semigroups.proofs.NoRepeats.{distinct_places, distinct_of, one_to_one, one_to_one_no_repeats, within_mem, no_more, no_fewer, onto, place_mem}
use Rattle.semigroups.proofs.ListOrder.{lists_increasing, lists_mem, earliest_unique}

-- ---- tests and plain statements

module _ (m : ℕ) (s : Product) (n : ℕ) (t : Product) (f : List ℕ) where
  agree : ℕ → ℕ → Bool
  agree i j = eqb (at f (s i j)) (t (at f i) (at f j))

  pub is_homomorphism_law : is_homomorphism m s n t f ≡ true → Homomorphism m s n t f
  unfolding is_homomorphism agree at
  is_homomorphism_law e =
      let products = all (λ i. all (agree i) (elements m)) (elements m) in
      let images = all (is_element n) f && products in
      let long : length f ≡ m = eqb-true (length f) m (and_left (eqb (length f) m) images e) in
      let rest = and_right (eqb (length f) m) images e in
      record {
        size = long;
        within = λ i h. is_element_law n (at f i) (all_at (is_element n) f (and_left (all (is_element n) f) products rest) (at f i) (place_mem 0 f (i - 1) (omega arith)));
        keeps_product = λ i j hi hj. eqb-true (at f (s i j)) (t (at f i) (at f j)) (pairs_at m agree (and_right (all (is_element n) f) products rest) i j hi hj);
      }

  pub homomorphism_is : Homomorphism m s n t f → is_homomorphism m s n t f ≡ true
  unfolding is_homomorphism agree
  homomorphism_is h =
      let products = all (λ i. all (agree i) (elements m)) (elements m) in
      both (eqb (length f) m) (all (is_element n) f && products) (eq-eqb (length f) m h.size)
      (both (all (is_element n) f) products
      (all_of (is_element n) f (λ x k. element_is n x (within_mem m n f h.size h.within x k)))
      (pairs_of m agree (λ i j hi hj. eq-eqb (at f (s i j)) (t (at f i) (at f j)) (h.keeps_product i j hi hj))))

  pub is_embedding_law : is_embedding m s n t f ≡ true → Embedding m s n t f
  unfolding is_embedding
  is_embedding_law e =
      let h = is_homomorphism_law (and_right (distinct f) (is_homomorphism m s n t f) e) in
      record { homomorphism = h; one_to_one = one_to_one m f h.size (distinct_places f (and_left (distinct f) (is_homomorphism m s n t f) e)) }

  pub embedding_is : Embedding m s n t f → is_embedding m s n t f ≡ true
  unfolding is_embedding
  embedding_is h =
      both (distinct f) (is_homomorphism m s n t f) (distinct_of f (one_to_one_no_repeats m f h.homomorphism.size h.one_to_one)) (homomorphism_is h.homomorphism)

  pub is_isomorphism_law : is_isomorphism m s n t f ≡ true → Isomorphism m s n t f
  unfolding is_isomorphism
  is_isomorphism_law e = record { same_order = eqb-true m n (and_left (eqb m n) (is_embedding m s n t f) e); embedding = is_embedding_law (and_right (eqb m n) (is_embedding m s n t f) e) }

  pub isomorphism_is : Isomorphism m s n t f → is_isomorphism m s n t f ≡ true
  unfolding is_isomorphism
  isomorphism_is h = both (eqb m n) (is_embedding m s n t f) (eq-eqb m n h.same_order) (embedding_is h.embedding)

module _ (m : ℕ) (s : Product) (n : ℕ) (t : Product) (f : List ℕ) where
  -- A map that is one to one and onto has tables of equal orders.
  pub reversed_order : ReversedIsomorphism m s n t f → m ≡ n
  reversed_order h = le_antisymm (no_more m n f h.size h.within h.one_to_one) (no_fewer m n f h.size h.onto)

  -- A reversed isomorphism is an isomorphism onto the turned product, and the other way round.
  pub reversed_isomorphism : ReversedIsomorphism m s n t f → Isomorphism m s n (turned t) f
  reversed_isomorphism h =
      record {
        same_order = reversed_order h;
        embedding = record {
          homomorphism = record { size = h.size; within = h.within; keeps_product = h.reverses_product };
          one_to_one = h.one_to_one;
        };
      }

  pub isomorphism_reversed : Isomorphism m s n (turned t) f → ReversedIsomorphism m s n t f
  isomorphism_reversed h =
      let e = h.same_order in
      let w = h.embedding.homomorphism in
      let o = h.embedding.one_to_one in
      record {
        size = w.size;
        within = w.within;
        one_to_one = o;
        onto = λ v hv.
            let p = onto n f (w.size ∙ e) (λ i k. w.within i (omega arith)) (λ i j hi hj q. o i j (omega arith) (omega arith) q) v hv in
            let p1 = p.1 in
            (p.0, omega arith, p.2);
        reverses_product = w.keeps_product;
      }

  pub is_map_law : (kind : Kind) → is_map kind m s n t f ≡ true → IsMap kind m s n t f
  is_map_law embeddings e = is_embedding_law m s n t f e
  is_map_law isomorphisms e = is_isomorphism_law m s n t f e
  is_map_law reversed e = isomorphism_reversed (is_isomorphism_law m s n (turned t) f e)

  pub map_is : (kind : Kind) → IsMap kind m s n t f → is_map kind m s n t f ≡ true
  map_is embeddings h = embedding_is m s n t f h
  map_is isomorphisms h = isomorphism_is m s n t f h
  map_is reversed h = isomorphism_is m s n (turned t) f (reversed_isomorphism h)

  -- A map of any kind is a list of m elements.
  pub embedding_list : Embedding m s n t f → IsList m n f
  embedding_list h = let w = h.homomorphism in record { size = w.size; entries = within_mem m n f w.size w.within }

  pub map_list : (kind : Kind) → IsMap kind m s n t f → IsList m n f
  map_list embeddings h = embedding_list h
  map_list isomorphisms h = embedding_list h.embedding
  map_list reversed h = record { size = h.size; entries = within_mem m n f h.size h.within }

-- ---- the full lists

module _ (kind : Kind) (m : ℕ) (s : Product) (n : ℕ) (t : Product) where
  pub maps_increasing : Increasing (maps kind m s n t)
  unfolding maps
  maps_increasing = sorted_keep (λ (a b : List ℕ). earlier a b ≡ true) (is_map kind m s n t) (lists m n) (lists_increasing m n)

  pub mem_maps : (f : List ℕ) → Memᴰ f (maps kind m s n t) → IsMap kind m s n t f
  unfolding maps
  mem_maps f k = is_map_law m s n t f kind (mem_keep (is_map kind m s n t) (lists m n) f k).1

  pub maps_mem : (f : List ℕ) → IsMap kind m s n t f → Memᴰ f (maps kind m s n t)
  unfolding maps
  maps_mem f h = keep_mem (is_map kind m s n t) (lists m n) f (lists_mem m n f (map_list m s n t f kind h)) (map_is m s n t f kind h)

  -- The full list holds exactly the maps of its kind.
  pub maps_exactly : (f : List ℕ) → Memᴰ f (maps kind m s n t) ↔ IsMap kind m s n t f
  maps_exactly f = (mem_maps f, maps_mem f)

  -- What is found is the earliest map that is late enough.
  pub earliest_found : (ask : Ask) (f : List ℕ) → earliest ask (maps kind m s n t) ≡ some f → Earliest (λ g. IsMap kind m s n t g × (beyond ask g ≡ true)) f
  unfolding earliest
  earliest_found ask f e =
      let l = maps kind m s n t in
      let r = find_some (beyond ask) l f e in
      record {
        has = (mem_maps f r.0, r.1);
        before_others = λ g h. find_first (λ (a b : List ℕ). earlier a b ≡ true) (beyond ask) l maps_increasing f e g (maps_mem g h.0) h.1;
      }

  -- If nothing is found, no map of the kind is late enough.
  pub earliest_none : (ask : Ask) → earliest ask (maps kind m s n t) ≡ none → (g : List ℕ) → IsMap kind m s n t g → beyond ask g ≡ true → ⊥
  unfolding earliest
  earliest_none ask e g h q = clash {b = beyond ask g} q (find_none (beyond ask) (maps kind m s n t) e g (maps_mem g h))

  -- If some map is late enough, one is found.
  pub map_found : (ask : Ask) (g : List ℕ) → IsMap kind m s n t g → beyond ask g ≡ true → (f : List ℕ) × (earliest ask (maps kind m s n t) ≡ some f)
  map_found ask g h q = go (earliest ask (maps kind m s n t)) refl
    where
      go : (o : Option (List ℕ)) → earliest ask (maps kind m s n t) ≡ o → (f : List ℕ) × (o ≡ some f)
      go none e = absurd (earliest_none ask e g h q)
      go (some f) e = (f, refl)

  -- A map is found exactly if it is the earliest that is late enough.
  pub found_exactly : (ask : Ask) (f : List ℕ) → (earliest ask (maps kind m s n t) ≡ some f) ↔ Earliest (λ g. IsMap kind m s n t g × (beyond ask g ≡ true)) f
  found_exactly ask f = (earliest_found ask f, from)
    where
      from : Earliest (λ g. IsMap kind m s n t g × (beyond ask g ≡ true)) f → earliest ask (maps kind m s n t) ≡ some f
      from e =
          let h = e.has in
          let r = map_found ask f h.0 h.1 in
          r.1 ∙ ap {B = Option (List ℕ)} some (earliest_unique (earliest_found ask r.0 r.1) e)

  -- The first map is earlier than every other map of its kind.
  pub first_earliest : (f : List ℕ) → earliest first (maps kind m s n t) ≡ some f → Earliest (IsMap kind m s n t) f
  first_earliest f e = let r = earliest_found first f e in record { has = r.has.0; before_others = λ g h. r.before_others g (h, refl) }

  pub first_none : earliest first (maps kind m s n t) ≡ none → (g : List ℕ) → IsMap kind m s n t g → ⊥
  first_none e g h = earliest_none first e g h refl

-- ---- orders that rule a map out

no_entry : {A : Type 0} (l : List A) → ((x : A) → Memᴰ x l → ⊥) → l ≡ []
no_entry [] h = refl
no_entry (x ∷ l) h = absurd (h x (Memᴰ.head refl))

-- An embedding has at most as many elements as its target.
pub embedding_order : (m : ℕ) (s : Product) (n : ℕ) (t : Product) (f : List ℕ) → Embedding m s n t f → m ≤ n
embedding_order m s n t f h = let w = h.homomorphism in no_more m n f w.size w.within h.one_to_one

pub no_embedding : (m : ℕ) (s : Product) (n : ℕ) (t : Product) → n < m → maps embeddings m s n t ≡ []
no_embedding m s n t h =
    no_entry (maps embeddings m s n t) (λ f k. let l = embedding_order m s n t f (mem_maps embeddings m s n t f k) in let z : ⊥ = omega arith in z)

pub no_isomorphism : (m : ℕ) (s : Product) (n : ℕ) (t : Product) → (m ≡ n → ⊥) → maps isomorphisms m s n t ≡ []
no_isomorphism m s n t h = no_entry (maps isomorphisms m s n t) (λ f k. h (mem_maps isomorphisms m s n t f k).same_order)

-- Between tables of one order isomorphisms and embeddings are the same.
pub one_order : (n : ℕ) (s t : Product) → maps isomorphisms n s n t ≡ maps embeddings n s n t
unfolding maps is_isomorphism
one_order n s t = keep_same (is_isomorphism n s n t) (is_embedding n s n t) (lists n n) (λ f. ap (λ (b : Bool). b && is_embedding n s n t f) (eq-eqb n n refl))

-- ---- products that agree

-- Two products that agree on the elements of a table of order n.
abbrev pub Agree : ℕ → Product → Product → Type 0
Agree n s t = (i j : ℕ) → Element n i → Element n j → s i j ≡ t i j

-- Embeddings depend on the products of elements alone.
pub embedding_agrees : (m : ℕ) (s s' : Product) (n : ℕ) (t t' : Product) → Agree m s s' → Agree n t t' → (f : List ℕ) → Embedding m s n t f → Embedding m s' n t' f
embedding_agrees m s s' n t t' source target f F =
    let H = F.homomorphism in
    record {
      homomorphism = record {
        size = H.size;
        within = H.within;
        keeps_product = λ i j hi hj. sym (ap (at f) (source i j hi hj)) ∙ H.keeps_product i j hi hj ∙ target (at f i) (at f j) (H.within i hi) (H.within j hj);
      };
      one_to_one = F.one_to_one;
    }

-- The full lists into two products that agree are the same.
pub embeddings_agree : (m : ℕ) (s : Product) (n : ℕ) (t u : Product) → Agree n t u → Agree n u t → maps embeddings m s n t ≡ maps embeddings m s n u
unfolding maps
embeddings_agree m s n t u there back =
    keep_same (is_embedding m s n t) (is_embedding m s n u) (lists m n) (λ f.
    same_truth (is_embedding m s n t f) (is_embedding m s n u f)
    (λ e. embedding_is m s n u f (embedding_agrees m s s n t u (λ i j hi hj. refl) there f (is_embedding_law m s n t f e)))
    (λ e. embedding_is m s n t f (embedding_agrees m s s n u t (λ i j hi hj. refl) back f (is_embedding_law m s n u f e))))
