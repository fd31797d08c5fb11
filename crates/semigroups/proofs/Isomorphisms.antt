-- The mathematics of demand 3 for two tables of one order with closed products: the list onto itself is a group, the full list is empty or as long
-- as it, and any entry done after each entry of it gives every isomorphism exactly once. Assumes nothing.
use mathlib.Core.Path.{◌≡◌, refl, sym, ap, ◌∙◌, subst, subst₂}
use mathlib.Core.Logic.{◌⊎◌, inl, inr, ◌↔◌}
use mathlib.Core.List.Memᴰ
use mathlib.Core.List.{List, [], ◌∷◌, map, Memᴰ}
use Prim.Native.Nat.{ℕ, ◌≤◌, ◌<◌}
use native.Mathlib.Nat.{le_antisymm}
use native.Mathlib.Omega.{arith}
use lib.ListN.{length, get_or, length-map}
use Rattle.semigroups.specs.Lists.{at}
use Rattle.semigroups.specs.InnerLists.{NoRepeats}
use Rattle.semigroups.specs.Tables.{Product}
use Rattle.semigroups.specs.TablesLaws.{Closed}
use Rattle.semigroups.specs.InnerTables.{IsList}
use Rattle.semigroups.specs.MapsLaws.{identity, inverse}
use Rattle.semigroups.specs.InnerMaps.{Embedding}
use Rattle.semigroups.specs.Maps.{embeddings, isomorphisms, maps, after}
use Rattle.semigroups.specs.IsomorphismsLaws.{IsGroup, EachOnce}
use Rattle.semigroups.proofs.Lists.{ext_at}
use Rattle.semigroups.proofs.Tables.{list_at}
use Rattle.semigroups.proofs.NoRepeats.{length_inside, mem_place, place_mem, place_unique, places_no_repeats, map_no_repeats}
use Rattle.semigroups.proofs.ListOrder.{increasing_no_repeats}
use Rattle.semigroups.proofs.Maps.{maps_increasing, mem_maps, maps_mem, one_order}
use Rattle.semigroups.proofs.Composition.{identity_embeds, at_after, length_after, after_embeds, inverse_at, inverse_embeds, after_inverse, after_cancels}

-- If f done after the entries of `own` gives only entries of `every`, gives each of them, and gives none twice, it gives each exactly once.
module _ (f : List ℕ) (own every : List (List ℕ)) (own_apart : NoRepeats own) (every-apart : NoRepeats every)
    (made : (a : List ℕ) → Memᴰ a own → Memᴰ (after f a) every)
    (source : (g : List ℕ) → Memᴰ g every → (a : List ℕ) × Memᴰ a own × (after f a ≡ g))
    (cancels : (a b : List ℕ) → Memᴰ a own → Memᴰ b own → after f a ≡ after f b → a ≡ b) where
  pub each_once_of : EachOnce f own every
  each_once_of =
      record {
        as_long = le_antisymm
            (subst (λ (k : ℕ). k ≤ length every) (length-map own (after f)) (length_inside (map (after f) own) every (map_no_repeats (after f) own own_apart cancels)
            (λ g p. let r = Memᴰ.of_map (after f) own p in Memᴰ.cast (sym r.2) (made r.0 r.1))))
            (subst (λ (k : ℕ). length every ≤ k) (length-map own (after f)) (length_inside every (map (after f) own) every-apart
            (λ g p. let r = source g p in Memᴰ.cast (sym r.2) (Memᴰ.map (after f) r.1))));
        nothing_else = λ k h. made (get_or own k []) (place_mem [] own k h);
        at_one_place = λ g q.
            let w = source g q in
            let r = mem_place [] own w.1 in
            (r.0, r.1, ap (after f) r.2 ∙ w.2, λ j h e. place_unique [] own own_apart j r.0 h r.1 (cancels (get_or own j []) (get_or own r.0 []) (place_mem [] own j h) (place_mem [] own r.0 r.1) (e ∙ sym (ap (after f) r.2 ∙ w.2))));
      }

module _ (n : ℕ) (s t : Product) (c : Closed n s) where
  -- Between tables of one order every isomorphism is an embedding and the other way round.
  own : List (List ℕ)
  own = maps embeddings n s n s

  every : List (List ℕ)
  every = maps embeddings n s n t

  group : IsGroup n own
  unfolding own
  group =
      record {
        has_identity = maps_mem embeddings n s n s (identity n) (identity_embeds n s c);
        has_composites = λ a b p q. maps_mem embeddings n s n s (after a b) (after_embeds n s n s n s c a b (mem_maps embeddings n s n s a p) (mem_maps embeddings n s n s b q));
        has_inverses = λ a p. maps_mem embeddings n s n s (inverse n a) (inverse_embeds n s s a (mem_maps embeddings n s n s a p) c);
        inverse_at = λ a p. inverse_at n s s a (mem_maps embeddings n s n s a p);
      }

  once : (f : List ℕ) → Memᴰ f every → EachOnce f own every
  unfolding own every
  once f m = each_once_of f own every own_apart (increasing_no_repeats every (maps_increasing embeddings n s n t)) made source cancels
    where
      F : Embedding n s n t f
      F = mem_maps embeddings n s n t f m

      own_apart : NoRepeats own
      own_apart = increasing_no_repeats own (maps_increasing embeddings n s n s)

      cancels : (a b : List ℕ) → Memᴰ a own → Memᴰ b own → after f a ≡ after f b → a ≡ b
      cancels a b p q e = after_cancels n s t f F a b (mem_maps embeddings n s n s a p) (mem_maps embeddings n s n s b q) e

      made : (a : List ℕ) → Memᴰ a own → Memᴰ (after f a) every
      made a p = maps_mem embeddings n s n t (after f a) (after_embeds n s n s n t c f a F (mem_maps embeddings n s n s a p))

      source : (g : List ℕ) → Memᴰ g every → (a : List ℕ) × Memᴰ a own × (after f a ≡ g)
      source g p =
          let G = mem_maps embeddings n s n t g p in
          (after (inverse n f) g, maps_mem embeddings n s n s (after (inverse n f) g) (after_embeds n s n t n s c (inverse n f) g (inverse_embeds n s t f F c) G), after_inverse n s t f F g G)

  empty_or : (l : List (List ℕ)) → (l ≡ []) ⊎ ((f : List ℕ) × Memᴰ f l)
  empty_or [] = inl refl
  empty_or (x ∷ l) = inr (x, Memᴰ.head refl)

  long : (every ≡ []) ⊎ (length every ≡ length own)
  long = go (empty_or every)
    where
      go : (every ≡ []) ⊎ ((f : List ℕ) × Memᴰ f every) → (every ≡ []) ⊎ (length every ≡ length own)
      go (inl e) = inl e
      go (inr m) = inr (sym (once m.0 m.1).as_long)

  -- ---- the same of the full lists of isomorphisms

  pub onto_itself : IsGroup n (maps isomorphisms n s n s)
  unfolding own
  onto_itself = subst (IsGroup n) (sym (one_order n s s)) group

  pub each_once : (f : List ℕ) → Memᴰ f (maps isomorphisms n s n t) → EachOnce f (maps isomorphisms n s n s) (maps isomorphisms n s n t)
  unfolding own every
  each_once f m = subst₂ (EachOnce f) (sym (one_order n s s)) (sym (one_order n s t)) (once f (subst (Memᴰ f) (one_order n s t) m))

  pub empty_or_as_long : (maps isomorphisms n s n t ≡ []) ⊎ (length (maps isomorphisms n s n t) ≡ length (maps isomorphisms n s n s))
  unfolding own every
  empty_or_as_long = subst₂ (λ (o e : List (List ℕ)). (e ≡ []) ⊎ (length e ≡ length o)) (sym (one_order n s s)) (sym (one_order n s t)) long

-- ---- what the two records say

-- The maps made are exactly the entries of `every`.
pub made_exactly : (f : List ℕ) (own every : List (List ℕ)) → EachOnce f own every → (g : List ℕ) → Memᴰ g (map (after f) own) ↔ Memᴰ g every
made_exactly f own every e g = (into, out)
  where
    into : Memᴰ g (map (after f) own) → Memᴰ g every
    into m =
        let a = Memᴰ.of_map (after f) own m in
        let k = mem_place [] own a.1 in
        Memᴰ.cast (sym (ap (after f) k.2 ∙ a.2)) (e.nothing_else k.0 k.1)

    out : Memᴰ g every → Memᴰ g (map (after f) own)
    out m = let k = e.at_one_place g m in Memᴰ.cast (sym k.2) (Memᴰ.map (after f) (place_mem [] own k.0 k.1))

-- No map is made twice.
pub made_once : (f : List ℕ) (own every : List (List ℕ)) → EachOnce f own every → NoRepeats (map (after f) own)
made_once f own every e = map_no_repeats (after f) own (places_no_repeats [] own (λ i j hi hj q. one_place i j hi hj (ap (after f) q))) cancels
  where
    one_place : (i j : ℕ) → i < length own → j < length own → after f (get_or own i []) ≡ after f (get_or own j []) → i ≡ j
    one_place i j hi hj q =
        let k = e.at_one_place (after f (get_or own j [])) (e.nothing_else j hj) in
        k.3 i hi q ∙ sym (k.3 j hj refl)

    cancels : (a b : List ℕ) → Memᴰ a own → Memᴰ b own → after f a ≡ after f b → a ≡ b
    cancels a b p q r =
        let i = mem_place [] own p in
        let j = mem_place [] own q in
        sym i.2 ∙ ap (λ (k : ℕ). get_or own k []) (one_place i.0 j.0 i.1 j.1 (ap (after f) i.2 ∙ r ∙ sym (ap (after f) j.2))) ∙ j.2

-- For any two entries a and b there is an entry that done after a gives b.
pub quotient : (n : ℕ) (own : List (List ℕ)) → IsGroup n own → ((a : List ℕ) → Memᴰ a own → IsList n n a) → (a b : List ℕ) → Memᴰ a own → Memᴰ b own
    → (x : List ℕ) × Memᴰ x own × (after x a ≡ b)
quotient n own g l a b p q =
    let undo = inverse n a in
    let A = l a p in
    let la = A.size in
    let lu = (l undo (g.has_inverses a p)).size in (
      after b undo,
      g.has_composites b undo q (g.has_inverses a p),
      ext_at n (after (after b undo) a) b (length_after (after b undo) a ∙ la) (l b q).size
          (λ i h.
          let w = list_at n n a A i h in
          at_after (after b undo) a i (omega arith) ∙ at_after b undo (at a i) (omega arith) ∙ ap (at b) (g.inverse_at a p i h)),
    )
