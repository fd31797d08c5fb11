-- The table of all transformations of d points embeds in that of d + 1 points, for any d: the new point stays. So a table that fits at one degree fits at
-- every larger one. Assumes nothing.
use mathlib.Core.Path.{◌≡◌, sym, ap, ap₂, ◌∙◌, subst}
use mathlib.Core.Logic.{◌⊎◌, inl, inr, ⊎_elim}
use mathlib.Core.List.Memᴰ
use mathlib.Core.List.{List, [], ◌∷◌, ◌++◌, map}
use Prim.Native.Nat.{ℕ, zero, suc, ◌+◌, ◌-◌}
use native.Mathlib.Omega.{arith}
use lib.ListN.{length, length-map}
use Rattle.semigroups.specs.Lists.{elements, at}
use Rattle.semigroups.specs.Tables.{Product, Element}
use Rattle.semigroups.specs.TablesLaws.{Closed}
use Rattle.semigroups.specs.InnerTables.{IsList}
use Rattle.semigroups.specs.InnerMaps.{Embedding}
use Rattle.semigroups.specs.Maps.{after}
use Rattle.semigroups.specs.Transformations.{transformation_order, transformation, number_of, transformation_product}
use Rattle.semigroups.proofs.Booleans.{equal_or_not}
use Rattle.semigroups.proofs.Lists.{length_elements, at_map, at_elements, at_front, at_seam, ext_at, length_snoc}
use Rattle.semigroups.proofs.Tables.{list_at}
use Rattle.semigroups.proofs.Maps.{embedding_agrees}
use Rattle.semigroups.proofs.Composition.{at_after, length_after, after_embeds}
use Rattle.semigroups.proofs.Transformations.{transformation_list, number_transformation, transformation_number, product_composite, transformations_closed}
use Rattle.planning.specs.Degrees.{degree_product}
use Rattle.planning.specs.DegreesLaws.{EmbedsAt, NextDegreeTheorem, LargerDegreeTheorem}
use Rattle.planning.proofs.Agreement.{agrees_table}

-- ---- one more point

-- A transformation of d points with the new point d + 1 fixed.
unfoldable extended : ℕ → List ℕ → List ℕ
extended d f = f ++ suc d ∷ []

-- The map of the table of d points in that of d + 1: each transformation extended.
unfoldable raised : ℕ → List ℕ
raised d = map (λ i. number_of (suc d) (extended d (transformation d i))) (elements (transformation_order d))

module _ (d : ℕ) where
  length_extended : (f : List ℕ) → length f ≡ d → length (extended d f) ≡ suc d
  unfolding extended
  length_extended f e = length_snoc f (suc d) ∙ ap suc e

  extended_front : (f : List ℕ) → length f ≡ d → (x : ℕ) → Element d x → at (extended d f) x ≡ at f x
  unfolding extended
  extended_front f e x h = at_front f (suc d ∷ []) x (omega arith)

  extended_new : (f : List ℕ) → length f ≡ d → at (extended d f) (suc d) ≡ suc d
  unfolding extended
  extended_new f e = at_seam f (suc d) [] (suc d) (ap suc (sym e))

  extended_list : (f : List ℕ) → IsList d d f → IsList (suc d) (suc d) (extended d f)
  unfolding extended
  extended_list f F =
      record {
        size = length_extended f F.size;
        entries = λ x k. ⊎_elim (λ m. let h = F.entries x m in omega arith) (λ m. let e = Memᴰ.eq_of_singleton m in omega arith) (Memᴰ.append_cases f k);
      }

  -- A list of d + 1 points is f extended if it agrees with f on the old points and fixes the new one.
  extended_ext : (l f : List ℕ) → length l ≡ suc d → length f ≡ d → at l (suc d) ≡ suc d → ((x : ℕ) → Element d x → at l x ≡ at f x) → l ≡ extended d f
  extended_ext l f el ef new old = ext_at (suc d) l (extended d f) el (length_extended f ef) by_point
    where
      old_or_new : (x : ℕ) → Element (suc d) x → (x ≡ suc d) ⊎ Element d x
      old_or_new x h = ⊎_elim (λ (e : x ≡ suc d). inl e) (λ (ne : x ≡ suc d → ⊥). inr (omega arith)) (equal_or_not x (suc d))

      by_point : (x : ℕ) → Element (suc d) x → at l x ≡ at (extended d f) x
      by_point x h =
          ⊎_elim (λ (e : x ≡ suc d). ap (at l) e ∙ new ∙ sym (ap (at (extended d f)) e ∙ extended_new f ef))
          (λ (u : Element d x). old x u ∙ sym (extended_front f ef x u)) (old_or_new x h)

  -- The composite of two extended transformations is their composite, extended.
  extended_after : (a b : List ℕ) → IsList d d a → IsList d d b → after (extended d a) (extended d b) ≡ extended d (after a b)
  extended_after a b A B =
      let la = A.size in
      let lb = B.size in
      let eb = length_extended b lb in
      extended_ext (after (extended d a) (extended d b)) (after a b) (length_after (extended d a) (extended d b) ∙ eb) (length_after a b ∙ lb)
      (at_after (extended d a) (extended d b) (suc d) (omega arith) ∙ ap (at (extended d a)) (extended_new b lb) ∙ extended_new a la)
      (λ x h.
      at_after (extended d a) (extended d b) x (omega arith) ∙ ap (at (extended d a)) (extended_front b lb x h) ∙ extended_front a la (at b x) (list_at d d b B x h)
      ∙ sym (at_after a b x (omega arith)))

  extended_apart : (a b : List ℕ) → length a ≡ d → length b ≡ d → extended d a ≡ extended d b → a ≡ b
  extended_apart a b la lb e = ext_at d a b la lb (λ x h. sym (extended_front a la x h) ∙ ap (λ (l : List ℕ). at l x) e ∙ extended_front b lb x h)

  -- ---- the map

  raised_at : (i : ℕ) → Element (transformation_order d) i → at (raised d) i ≡ number_of (suc d) (extended d (transformation d i))
  unfolding raised
  raised_at i h =
      at_map (λ j. number_of (suc d) (extended d (transformation d j))) (elements (transformation_order d)) i (omega (arith, length_elements (transformation_order d)))
      ∙ ap (λ (j : ℕ). number_of (suc d) (extended d (transformation d j))) (at_elements (transformation_order d) i h)

  -- The image of transformation i is transformation i with the new point fixed.
  raised_image : (i : ℕ) → Element (transformation_order d) i
      → Element (transformation_order (suc d)) (at (raised d) i) × (transformation (suc d) (at (raised d) i) ≡ extended d (transformation d i))
  raised_image i h =
      let r = transformation_number (suc d) (extended d (transformation d i)) (extended_list (transformation d i) (transformation_list d i h)) in
      (subst (Element (transformation_order (suc d))) (sym (raised_at i h)) r.0, ap (transformation (suc d)) (raised_at i h) ∙ r.1)

  length_raised : length (raised d) ≡ transformation_order d
  unfolding raised
  length_raised = length-map (elements (transformation_order d)) (λ i. number_of (suc d) (extended d (transformation d i))) ∙ length_elements (transformation_order d)

  raised_embeds : Embedding (transformation_order d) (transformation_product d) (transformation_order (suc d)) (transformation_product (suc d)) (raised d)
  unfolding transformation_product
  raised_embeds =
      let p = transformation_product d in
      let T = transformation d in
      record {
        homomorphism = record {
          size = length_raised;
          within = λ i h. (raised_image i h).0;
          keeps_product = λ i j hi hj.
              raised_at (p i j) (transformations_closed d i j hi hj)
              ∙ ap (λ (f : List ℕ). number_of (suc d) (extended d f)) (product_composite d i j hi hj)
              ∙ ap (number_of (suc d)) (sym (extended_after (T j) (T i) (transformation_list d j hj) (transformation_list d i hi)) ∙ ap₂ after (sym (raised_image j hj).1) (sym (raised_image i hi).1));
        };
        one_to_one = λ i j hi hj e.
            sym (number_transformation d i hi)
            ∙ ap (number_of d) (extended_apart (T i) (T j) (transformation_list d i hi).size (transformation_list d j hj).size
            (sym (raised_image i hi).1 ∙ ap (transformation (suc d)) e ∙ (raised_image j hj).1))
            ∙ number_transformation d j hj;
      }

  raised_embeds_table : EmbedsAt (transformation_order d) (degree_product d) (suc d) (raised d)
  raised_embeds_table =
      embedding_agrees (transformation_order d) (transformation_product d) (degree_product d) (transformation_order (suc d)) (transformation_product (suc d)) (degree_product (suc d))
      (agrees_table d) (agrees_table (suc d)) (raised d) raised_embeds

pub next_degree : NextDegreeTheorem
next_degree d = (raised d, raised_embeds_table d)

-- ---- larger degrees

further : (m : ℕ) (s : Product) → Closed m s → (d k : ℕ) (f : List ℕ) → EmbedsAt m s d f → (g : List ℕ) × EmbedsAt m s (k + d) g
further m s closed d zero f F = (f, subst (λ (c : ℕ). EmbedsAt m s c f) (let z : d ≡ 0 + d = omega arith in z) F)
further m s closed d (suc k) f F =
    let below = further m s closed d k f F in
    let c = k + d in
    let g = after (raised c) below.0 in
    let G : EmbedsAt m s (suc c) g =
    after_embeds m s (transformation_order c) (degree_product c) (transformation_order (suc c)) (degree_product (suc c)) closed (raised c) below.0 (raised_embeds_table c) below.1 in
    (g, subst (λ (e : ℕ). EmbedsAt m s e g) (let z : suc (k + d) ≡ suc k + d = omega arith in z) G)

pub larger_degree : LargerDegreeTheorem
larger_degree m s closed d e h f F =
    let r = further m s closed d (e - d) f F in
    (r.0, subst (λ (c : ℕ). EmbedsAt m s c r.0) (let z : e - d + d ≡ e = omega arith in z) r.1)
