-- A list of elements of the target is an embedding exactly if every pair of elements passes. Assumes nothing.
use mathlib.Core.Path.{◌≡◌}
use mathlib.Core.Bool.{true, ◌||◌, not}
use mathlib.Core.Logic.{⊎_elim}
use mathlib.Core.List.{List, [], ◌∷◌}
use Prim.Native.Nat.{ℕ}
use native.Mathlib.Omega.{arith}
use borrow.Author.Tests.{eqb-true, eq-eqb}
use lib.Dec.{eqb}
use Rattle.semigroups.specs.Lists.{at, all, lists}
use Rattle.semigroups.specs.Tables.{Product, Element}
use Rattle.semigroups.specs.InnerTables.{IsList}
use Rattle.semigroups.specs.InnerMaps.{Embedding}
use Rattle.semigroups.specs.Maps.{is_embedding}
use Rattle.semigroups.proofs.Booleans.{clash, unfalse, same_truth, both, and_left, and_right, or_holds, or_fails, not_of_true, not_of_false}
use Rattle.semigroups.proofs.ListOrder.{lists_mem, mem_lists}
use Rattle.semigroups.proofs.Lists.{all_at, all_of}
use Rattle.semigroups.proofs.Tables.{pair_list, list_at}
use Rattle.semigroups.proofs.Maps.{is_embedding_law, embedding_is}
use Rattle.plain.specs.InnerEnumeration.{keeps}

module _ (m : ℕ) (s : Product) (n : ℕ) (t : Product) (f : List ℕ) where
  -- A pair that passes keeps its product, and its images are different if its elements are.
  kept_product : (i j : ℕ) → keeps s t f (i ∷ j ∷ []) ≡ true → at f (s i j) ≡ t (at f i) (at f j)
  unfolding keeps at
  kept_product i j e = eqb-true _ _ (and_right (eqb i j || not (eqb (at f i) (at f j))) _ e)

  kept_apart : (i j : ℕ) → keeps s t f (i ∷ j ∷ []) ≡ true → at f i ≡ at f j → i ≡ j
  unfolding keeps at
  kept_apart i j e same =
      ⊎_elim (λ h. eqb-true i j h) (λ h. absurd (clash {b = not (eqb (at f i) (at f j))} h (not_of_true _ (eq-eqb _ _ same)))) (or_holds (eqb i j) (not (eqb (at f i) (at f j))) (and_left (eqb i j || not (eqb (at f i) (at f j))) _ e))

  embedding_keeps : Embedding m s n t f → (l : List ℕ) → IsList 2 m l → keeps s t f l ≡ true
  unfolding keeps
  embedding_keeps e l h =
      let i : Element m (at l 1) = list_at 2 m l h 1 (omega arith) in
      let j : Element m (at l 2) = list_at 2 m l h 2 (omega arith) in
      both (eqb (at l 1) (at l 2) || not (eqb (at f (at l 1)) (at f (at l 2)))) _ (apart i j) (eq-eqb _ _ (e.homomorphism.keeps_product (at l 1) (at l 2) i j))
    where
      apart : Element m (at l 1) → Element m (at l 2) → (eqb (at l 1) (at l 2) || not (eqb (at f (at l 1)) (at f (at l 2)))) ≡ true
      apart i j =
          unfalse (eqb (at l 1) (at l 2) || not (eqb (at f (at l 1)) (at f (at l 2))))
          (λ q.
          let w = or_fails (eqb (at l 1) (at l 2)) (not (eqb (at f (at l 1)) (at f (at l 2)))) q in
          let images : eqb (at f (at l 1)) (at f (at l 2)) ≡ true = unfalse _ (λ z. clash {b = not (eqb (at f (at l 1)) (at f (at l 2)))} (not_of_false _ z) w.1) in
          clash {b = eqb (at l 1) (at l 2)} (eq-eqb _ _ (e.one_to_one (at l 1) (at l 2) i j (eqb-true _ _ images))) w.0)

  pub embedding_pairs : IsList m n f → all (keeps s t f) (lists 2 m) ≡ is_embedding m s n t f
  embedding_pairs h =
      same_truth _ _
      (λ e.
      let passes : (i j : ℕ) → Element m i → Element m j → keeps s t f (i ∷ j ∷ []) ≡ true =
      λ i j hi hj. all_at (keeps s t f) (lists 2 m) e _ (lists_mem 2 m _ (pair_list m i j hi hj)) in
      embedding_is m s n t f
      (record {
        homomorphism =
            record {
              size = h.size;
              within = λ i hi. list_at m n f h i hi;
              keeps_product = λ i j hi hj. kept_product i j (passes i j hi hj);
            };
        one_to_one = λ i j hi hj same. kept_apart i j (passes i j hi hj) same;
      }))
      (λ e. all_of (keeps s t f) (lists 2 m) (λ l q. embedding_keeps (is_embedding_law m s n t f e) l (mem_lists 2 m l q)))
