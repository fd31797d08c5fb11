-- Reversed isomorphisms are the isomorphisms onto any product that turns the target's. So their full list, its length and their candidates are those of
-- isomorphisms; two in a row make an isomorphism, and one before or after an isomorphism makes a reversed one. Assumes nothing.
use mathlib.Core.Path.{◌≡◌, refl, sym, ap, ◌∙◌, subst}
use mathlib.Core.Logic.{◌⊎◌, inl, inr}
use mathlib.Core.List.{List, [], ◌∷◌, flat_map, Memᴰ}
use Prim.Native.Nat.{ℕ}
use lib.ListN.{length}
use Rattle.semigroups.specs.Lists.{range, elements, at, all, keep, sum, count, member, distinct, earlier, lists}
use Rattle.semigroups.specs.Tables.{Product, product, grid, turned, Element, Associative, Accepted, is_element}
use Rattle.semigroups.specs.TablesLaws.{Closed}
use Rattle.semigroups.specs.InnerTables.{turned_cells}
use Rattle.semigroups.specs.Invariants.{profile, same_profile}
use Rattle.semigroups.specs.MapsLaws.{Isomorphism, ReversedIsomorphism}
use Rattle.semigroups.specs.InnerMaps.{Embedding}
use Rattle.semigroups.specs.Maps.{is_homomorphism, is_embedding, is_isomorphism, isomorphisms, reversed, maps, after}
use Rattle.semigroups.specs.Candidates.{candidate}
use Rattle.semigroups.specs.Transformations.{transformations, transformation_order, transformation, number_of, transformation_product, transformation_cells}
use Rattle.semigroups.specs.Cases.{left, right, two}
use Rattle.semigroups.specs.ReversedLaws.{ReversedTheorem}
use Rattle.semigroups.specs.ReversedExamples.{worked as full-list, ReversedExamples}
use Rattle.semigroups.proofs.Booleans.{same_truth, equal_or_not}
use Rattle.semigroups.proofs.Lists.{keep_same}
use Rattle.semigroups.proofs.Tables.{accepted_closed}
use Rattle.semigroups.proofs.Maps.{is_isomorphism_law, isomorphism_is, reversed_isomorphism, isomorphism_reversed, reversed_order, maps_increasing, mem_maps, maps_mem, maps_exactly, no_isomorphism}
use Rattle.semigroups.proofs.Composition.{after_embeds}
use Rattle.semigroups.proofs.Isomorphisms.{empty_or_as_long}
use Rattle.semigroups.proofs.Cases.{worked}
use Rattle.semigroups.proofs.Turned.{Turns, turned_turns, cells_turn, turned_accepted, profile_turned}

-- ---- onto a product that turns the target's

isomorphism_turned : (m : ℕ) (s : Product) (n : ℕ) (t t' : Product) → ((i j : ℕ) → Element n i → Element n j → t i j ≡ t' i j) → (f : List ℕ) → Isomorphism m s n t f → Isomorphism m s n t' f
isomorphism_turned m s n t t' agree f F =
    let H = F.embedding.homomorphism in
    record {
      same_order = F.same_order;
      embedding = record {
        homomorphism = record {
          size = H.size;
          within = H.within;
          keeps_product = λ i j hi hj. H.keeps_product i j hi hj ∙ agree (at f i) (at f j) (H.within i hi) (H.within j hj);
        };
        one_to_one = F.embedding.one_to_one;
      };
    }

-- The reversed isomorphisms onto t are the isomorphisms onto a product that turns t.
pub reversed_maps : (m : ℕ) (s : Product) (n : ℕ) (t t' : Product) → Turns n t t' → maps reversed m s n t ≡ maps isomorphisms m s n t'
unfolding maps
reversed_maps m s n t t' turns =
    keep_same (is_isomorphism m s n (turned t)) (is_isomorphism m s n t') (lists m n)
    (λ f.
    same_truth (is_isomorphism m s n (turned t) f) (is_isomorphism m s n t' f)
    (λ e. isomorphism_is m s n t' f (isomorphism_turned m s n (turned t) t' (λ i j hi hj. sym (turns i j hi hj)) f (is_isomorphism_law m s n (turned t) f e)))
    (λ e. isomorphism_is m s n (turned t) f (isomorphism_turned m s n t' (turned t) turns f (is_isomorphism_law m s n t' f e))))

-- The candidates for reversed isomorphisms are the candidates for isomorphisms onto that product.
pub reversed_candidate : (m : ℕ) (s : Product) (n : ℕ) (t t' : Product) → Turns n t t' → Closed n t → Associative n t → (i j : ℕ) → Element n j
    → candidate isomorphisms m s n t' i j ≡ candidate reversed m s n t i j
unfolding candidate
reversed_candidate m s n t t' turns c a i j hj = ap (same_profile (profile m s i)) (profile_turned n t t' turns c a j hj)

-- ---- the full list

module _ (m : ℕ) (s : Product) (n : ℕ) (t : Product) where
  pub no_reversed : (m ≡ n → ⊥) → maps reversed m s n t ≡ []
  no_reversed ne = reversed_maps m s n t (turned t) (turned_turns n t) ∙ no_isomorphism m s n (turned t) ne

  reversed_empty_or_as_long : Closed m s → (maps reversed m s n t ≡ []) ⊎ (length (maps reversed m s n t) ≡ length (maps isomorphisms m s m s))
  reversed_empty_or_as_long c = go (equal_or_not m n)
    where
      go : (m ≡ n) ⊎ (m ≡ n → ⊥) → (maps reversed m s n t ≡ []) ⊎ (length (maps reversed m s n t) ≡ length (maps isomorphisms m s m s))
      go (inl e) =
          subst (λ (l : List (List ℕ)). (l ≡ []) ⊎ (length l ≡ length (maps isomorphisms m s m s))) (sym (reversed_maps m s n t (turned t) (turned_turns n t)))
          (subst (λ (k : ℕ). (maps isomorphisms m s k (turned t) ≡ []) ⊎ (length (maps isomorphisms m s k (turned t)) ≡ length (maps isomorphisms m s m s))) e (empty_or_as_long m s (turned t) c))
      go (inr ne) = inl (no_reversed ne)

-- ---- composites

-- An embedding stays one if both products are turned.
turned_embeds : (m : ℕ) (s : Product) (n : ℕ) (t : Product) (f : List ℕ) → Embedding m s n t f → Embedding m (turned s) n (turned t) f
turned_embeds m s n t f F =
    let H = F.homomorphism in
    record {
      homomorphism = record { size = H.size; within = H.within; keeps_product = λ i j hi hj. H.keeps_product j i hj hi };
      one_to_one = F.one_to_one;
    }

module _ (k : ℕ) (r : Product) (m : ℕ) (s : Product) (n : ℕ) (t : Product) (closed : Closed k r) (f g : List ℕ) where
  both_reversed : ReversedIsomorphism k r m s f → ReversedIsomorphism m s n t g → Isomorphism k r n t (after g f)
  both_reversed F G =
      record {
        same_order = reversed_order k r m s f F ∙ reversed_order m s n t g G;
        embedding = after_embeds k r m (turned s) n t closed g f (turned_embeds m s n (turned t) g (reversed_isomorphism m s n t g G).embedding) (reversed_isomorphism k r m s f F).embedding;
      }

  reversed_before : ReversedIsomorphism k r m s f → Isomorphism m s n t g → ReversedIsomorphism k r n t (after g f)
  reversed_before F G =
      isomorphism_reversed k r n t (after g f)
      (record {
        same_order = reversed_order k r m s f F ∙ G.same_order;
        embedding = after_embeds k r m (turned s) n (turned t) closed g f (turned_embeds m s n t g G.embedding) (reversed_isomorphism k r m s f F).embedding;
      })

  reversed_after : Isomorphism k r m s f → ReversedIsomorphism m s n t g → ReversedIsomorphism k r n t (after g f)
  reversed_after F G =
      isomorphism_reversed k r n t (after g f)
      (record {
        same_order = F.same_order ∙ reversed_order m s n t g G;
        embedding = after_embeds k r m s n (turned t) closed g f (reversed_isomorphism m s n t g G).embedding F.embedding;
      })

-- ---- what RULES 10 says

pub reversed_theorem : ReversedTheorem
reversed_theorem =
    record {
      maps_between = λ m source n target a b.
          let s = product m source in
          let t = product n target in
          let closed = accepted_closed n target b in
          record {
            increasing = maps_increasing reversed m s n t;
            exactly = maps_exactly reversed m s n t;
            turned_product = cells_turn n target;
            turned_accepted = turned_accepted n target b;
            turned_list = reversed_maps m s n t (product n (turned_cells n target)) (cells_turn n target);
            turned_profile = profile_turned n t (product n (turned_cells n target)) (cells_turn n target) closed b.associative;
            empty_or_as_long = reversed_empty_or_as_long m s n t (accepted_closed m source a);
            other_order = no_reversed m s n t;
            onto_commutative = λ c. reversed_maps m s n t t c;
          };
      composites = λ k first m second n third a b c f g.
          let r = product k first in
          let s = product m second in
          let t = product n third in
          let closed = accepted_closed k first a in
          record {
            both_reversed = λ p q. maps_mem isomorphisms k r n t (after g f) (both_reversed k r m s n t closed f g (mem_maps reversed k r m s f p) (mem_maps reversed m s n t g q));
            reversed_before = λ p q. maps_mem reversed k r n t (after g f) (reversed_before k r m s n t closed f g (mem_maps reversed k r m s f p) (mem_maps isomorphisms m s n t g q));
            reversed_after = λ p q. maps_mem reversed k r n t (after g f) (reversed_after k r m s n t closed f g (mem_maps isomorphisms k r m s f p) (mem_maps reversed m s n t g q));
          };
    }

examples : ReversedExamples
unfolding turned_cells two range elements at all keep sum count member distinct earlier lists product grid is_element is_homomorphism is_embedding is_isomorphism maps after transformations transformation_order transformation number_of transformation_product transformation_cells flat_map
examples = (refl, refl, refl, refl, refl, refl, refl, refl, refl, refl)

-- ---- instances of the composites

left_accepted : Accepted left.order left.cells
left_accepted = worked.accepted left (Memᴰ.tail (Memᴰ.tail (Memᴰ.head refl)))

right_accepted : Accepted right.order right.cells
right_accepted = worked.accepted right (Memᴰ.tail (Memᴰ.tail (Memᴰ.tail (Memᴰ.head refl))))

-- The exchange of two elements, which is the second entry of each full list below.
abbrev exchange : List ℕ
exchange = 2 ∷ 1 ∷ []

second : (l : List (List ℕ)) → l ≡ (1 ∷ 2 ∷ []) ∷ exchange ∷ [] → Memᴰ exchange l
second l e = subst (Memᴰ exchange) (sym e) (Memᴰ.tail (Memᴰ.head refl))

-- From left to right and on to left, the exchange twice: two reversed maps make a plain one, the identity.
twice_reversed : Memᴰ (1 ∷ 2 ∷ []) (full-list isomorphisms left left)
unfolding after at
twice_reversed =
    (reversed_theorem.composites 2 left.cells 2 right.cells 2 left.cells left_accepted right_accepted left_accepted exchange exchange).both_reversed
    (second (full-list reversed left right) examples.0) (second (full-list reversed right left) examples.4)

-- From left to left and on to right: a reversed map after a plain one makes a reversed one.
plain_then_reversed : Memᴰ (1 ∷ 2 ∷ []) (full-list reversed left right)
unfolding after at
plain_then_reversed =
    (reversed_theorem.composites 2 left.cells 2 left.cells 2 right.cells left_accepted left_accepted right_accepted exchange exchange).reversed_after
    (second (full-list isomorphisms left left) examples.3) (second (full-list reversed left right) examples.0)

-- From right to left and on to left: a plain map after a reversed one makes a reversed one.
reversed_then_plain : Memᴰ (1 ∷ 2 ∷ []) (full-list reversed right left)
unfolding after at
reversed_then_plain =
    (reversed_theorem.composites 2 right.cells 2 left.cells 2 left.cells right_accepted left_accepted left_accepted exchange exchange).reversed_before
    (second (full-list reversed right left) examples.4) (second (full-list isomorphisms left left) examples.3)
