-- The map check of m bytes says "holds" exactly for embeddings, and otherwise the earliest fault. The idea: where nothing is found among all elements
-- or all pairs, every one of them is right. Assumes nothing.
use mathlib.Core.Path.{◌≡◌, refl, sym, ap, subst}
use mathlib.Core.Bool.{Bool, ◌&&◌, not}
use mathlib.Core.Logic.{◌⊎◌, inl, inr, ⊎_elim, ◌↔◌}
use mathlib.Core.Option.{Option, none, some}
use mathlib.Core.List.{List, [], ◌∷◌}
use Prim.Native.Nat.{ℕ, ◌<◌}
use native.Mathlib.Omega.{arith}
use borrow.Author.Tests.{eqb-true, eqb-false, eq-eqb, ltb-true, lt-ltb, not-true, not-false}
use lib.Dec.{eqb, ltb}
use lib.ListN.{length}
use Rattle.semigroups.specs.Lists.{range, elements, at}
use Rattle.semigroups.specs.ListsLaws.{Earliest}
use Rattle.semigroups.specs.Tables.{Product, Element, is_element}
use Rattle.semigroups.specs.InnerMaps.{Embedding}
use Rattle.semigroups.specs.MapCheck.{Checked, holds, outside, equal_images, wrong_product, unless, first_outside, first_equal, first_wrong, check_map}
use Rattle.semigroups.specs.MapCheckLaws.{EqualPair, WrongPair, IsChecked, an_embedding, an_outsider, an_equal_pair, a_wrong_pair}
use Rattle.semigroups.proofs.Booleans.{clash, untrue, both, and_left, and_right, not_of_false, trichotomy}
use Rattle.semigroups.proofs.Lists.{mem_elements, elements_mem, is_element_law, element_is, find_some, find_none, find_first, sorted_range}
use Rattle.semigroups.proofs.ListOrder.{earliest_unique, find_earliest, find_nowhere}
use Rattle.semigroups.proofs.Tables.{pair_list, list_at}

module _ (m : ℕ) (s : Product) (n : ℕ) (t : Product) (f : List ℕ) where
  abbrev Within : Type 0
  Within = (i : ℕ) → Element m i → Element n (at f i)

  abbrev Apart : Type 0
  Apart = (i j : ℕ) → Element m i → Element m j → at f i ≡ at f j → i ≡ j

  strange : ℕ → Bool
  strange i = not (is_element n (at f i))

  equal : List ℕ → Bool
  equal l = ltb (at l 1) (at l 2) && eqb (at f (at l 1)) (at f (at l 2))

  wrong : List ℕ → Bool
  wrong l = not (eqb (at f (s (at l 1) (at l 2))) (t (at f (at l 1)) (at f (at l 2))))

  -- ---- where nothing is found

  within : first_outside m s n t f ≡ none → Within
  unfolding first_outside strange
  within e i h = is_element_law n (at f i) (not-false (is_element n (at f i)) (find_none strange (elements m) e i (elements_mem m i h)))

  not_both : first_equal m s n t f ≡ none → (i j : ℕ) → Element m i → Element m j → i < j → at f i ≡ at f j → ⊥
  unfolding first_equal equal at
  not_both e i j hi hj h q =
      clash {b = equal (i ∷ j ∷ [])} (both (ltb i j) (eqb (at f i) (at f j)) (lt-ltb i j h) (eq-eqb (at f i) (at f j) q)) (find_nowhere equal 2 m e (i ∷ j ∷ []) (pair_list m i j hi hj))

  apart : first_equal m s n t f ≡ none → Apart
  apart e i j hi hj q = go (trichotomy i j)
    where
      go : (i ≡ j) ⊎ ((i < j) ⊎ (j < i)) → i ≡ j
      go (inl h) = h
      go (inr (inl h)) = absurd (not_both e i j hi hj h q)
      go (inr (inr h)) = absurd (not_both e j i hj hi h (sym q))

  products : first_wrong m s n t f ≡ none → (i j : ℕ) → Element m i → Element m j → at f (s i j) ≡ t (at f i) (at f j)
  unfolding first_wrong wrong at
  products e i j hi hj =
      eqb-true (at f (s i j)) (t (at f i) (at f j))
      (not-false (eqb (at f (s i j)) (t (at f i) (at f j))) (find_nowhere wrong 2 m e (i ∷ j ∷ []) (pair_list m i j hi hj)))

  -- ---- where something is found

  outsider : (i : ℕ) → first_outside m s n t f ≡ some i → IsChecked m s n t f (outside i)
  unfolding first_outside strange elements
  outsider i e =
      let r = find_some strange (range 1 m) i e in
      an_outsider i (mem_elements m i r.0) (λ h. clash {b = is_element n (at f i)} (element_is n (at f i) h) (not-true (is_element n (at f i)) r.1))
      (λ j h u. is_element_law n (at f j) (not-false (is_element n (at f j)) (untrue (strange j) (λ q.
      let z : ⊥ = ⊎_elim (λ (w : j ≡ i). let y : ⊥ = omega arith in y) (λ (w : i < j). let y : ⊥ = omega arith in y) (find_first ◌<◌ strange (range 1 m) (sorted_range 1 m) i e j (elements_mem m j h) q) in z))))

  equal_pair : (l : List ℕ) → first_equal m s n t f ≡ some l → Earliest (EqualPair m f) l
  unfolding first_equal equal
  equal_pair l e =
      let r = find_earliest equal 2 m l e in
      let lt = ltb (at l 1) (at l 2) in
      let eq = eqb (at f (at l 1)) (at f (at l 2)) in
      record {
        has = record { pair = r.has.0; rising = ltb-true (at l 1) (at l 2) (and_left lt eq r.has.1); equal = eqb-true (at f (at l 1)) (at f (at l 2)) (and_right lt eq r.has.1) };
        before_others = λ g h. r.before_others g (h.pair, both (ltb (at g 1) (at g 2)) (eqb (at f (at g 1)) (at f (at g 2))) (lt-ltb (at g 1) (at g 2) h.rising) (eq-eqb (at f (at g 1)) (at f (at g 2)) h.equal));
      }

  wrong_pair : (l : List ℕ) → first_wrong m s n t f ≡ some l → Earliest (WrongPair m s t f) l
  unfolding first_wrong wrong
  wrong_pair l e =
      let r = find_earliest wrong 2 m l e in
      let image : List ℕ → ℕ = (λ g. at f (s (at g 1) (at g 2))) in
      let prod : List ℕ → ℕ = (λ g. t (at f (at g 1)) (at f (at g 2))) in
      record {
        has = record { pair = r.has.0; wrong = eqb-false (image l) (prod l) (not-true (eqb (image l) (prod l)) r.has.1) };
        before_others = λ g h. r.before_others g (h.pair, not_of_false (eqb (image g) (prod g)) (untrue (eqb (image g) (prod g)) (λ q. h.wrong (eqb-true (image g) (prod g) q))));
      }

  -- ---- the check

  -- What the check of m bytes says is true.
  pub checked : length f ≡ m → IsChecked m s n t f (check_map m s n t f)
  unfolding check_map
  checked size = at_outside (first_outside m s n t f) refl
    where
      at_wrong : Within → Apart → (o : Option (List ℕ)) → first_wrong m s n t f ≡ o → IsChecked m s n t f (unless wrong_product o holds)
      at_wrong w a none e = an_embedding (record { homomorphism = record { size = size; within = w; keeps_product = products e }; one_to_one = a })
      at_wrong w a (some l) e = a_wrong_pair l w a (wrong_pair l e)

      at_equal : Within → (o : Option (List ℕ)) → first_equal m s n t f ≡ o → IsChecked m s n t f (unless equal_images o (unless wrong_product (first_wrong m s n t f) holds))
      at_equal w none e = at_wrong w (apart e) (first_wrong m s n t f) refl
      at_equal w (some l) e = an_equal_pair l w (equal_pair l e)

      at_outside : (o : Option ℕ) → first_outside m s n t f ≡ o → IsChecked m s n t f (unless outside o (unless equal_images (first_equal m s n t f) (unless wrong_product (first_wrong m s n t f) holds)))
      at_outside none e = at_equal (within e) (first_equal m s n t f) refl
      at_outside (some i) e = outsider i e

  not_apart : (l : List ℕ) → EqualPair m f l → Apart → ⊥
  not_apart l h a =
      let r = h.rising in
      let e = a (at l 1) (at l 2) (list_at 2 m l h.pair 1 (omega arith)) (list_at 2 m l h.pair 2 (omega arith)) h.equal in
      omega arith

  same_outsider : (i j : ℕ) → Element m i → Element m j → (Element n (at f i) → ⊥) → (Element n (at f j) → ⊥)
      → ((k : ℕ) → Element m k → k < i → Element n (at f k)) → ((k : ℕ) → Element m k → k < j → Element n (at f k)) → i ≡ j
  same_outsider i j hi hj ui uj wi wj = go (trichotomy i j)
    where
      go : (i ≡ j) ⊎ ((i < j) ⊎ (j < i)) → i ≡ j
      go (inl e) = e
      go (inr (inl h)) = absurd (ui (wj i hi h))
      go (inr (inr h)) = absurd (uj (wi j hj h))

  holds_if : (c : Checked) → IsChecked m s n t f c → Embedding m s n t f → c ≡ holds
  holds_if c (an_embedding F) E = refl
  holds_if c (an_outsider i h u w) E = absurd (u (E.homomorphism.within i h))
  holds_if c (an_equal_pair l w q) E = absurd (not_apart l q.has E.one_to_one)
  holds_if c (a_wrong_pair l w a q) E =
      let h = q.has in
      absurd (h.wrong (E.homomorphism.keeps_product (at l 1) (at l 2) (list_at 2 m l h.pair 1 (omega arith)) (list_at 2 m l h.pair 2 (omega arith))))

  -- Only one answer of the check is true of a list.
  one_answer : (c d : Checked) → IsChecked m s n t f c → IsChecked m s n t f d → c ≡ d
  one_answer c d (an_embedding F) v = sym (holds_if d v F)
  one_answer c d (an_outsider i h u w) (an_embedding F) = absurd (u (F.homomorphism.within i h))
  one_answer c d (an_outsider i h u w) (an_outsider j k v x) = ap outside (same_outsider i j h k u v w x)
  one_answer c d (an_outsider i h u w) (an_equal_pair l x q) = absurd (u (x i h))
  one_answer c d (an_outsider i h u w) (a_wrong_pair l x a q) = absurd (u (x i h))
  one_answer c d (an_equal_pair l w q) (an_embedding F) = absurd (not_apart l q.has F.one_to_one)
  one_answer c d (an_equal_pair l w q) (an_outsider i h u x) = absurd (u (w i h))
  one_answer c d (an_equal_pair l w q) (an_equal_pair k x r) = ap equal_images (earliest_unique q r)
  one_answer c d (an_equal_pair l w q) (a_wrong_pair k x a r) = absurd (not_apart l q.has a)
  one_answer c d (a_wrong_pair l w a q) (an_embedding F) = holds_if c (a_wrong_pair l w a q) F
  one_answer c d (a_wrong_pair l w a q) (an_outsider i h u x) = absurd (u (w i h))
  one_answer c d (a_wrong_pair l w a q) (an_equal_pair k x r) = absurd (not_apart k r.has a)
  one_answer c d (a_wrong_pair l w a q) (a_wrong_pair k x b r) = ap wrong_product (earliest_unique q r)

  -- The check of m bytes says an answer exactly if it is true.
  pub checked_exactly : length f ≡ m → (c : Checked) → (check_map m s n t f ≡ c) ↔ IsChecked m s n t f c
  checked_exactly size c = ((λ e. subst (IsChecked m s n t f) e (checked size)), one_answer (check_map m s n t f) c (checked size))

  -- It says "holds" exactly for embeddings.
  pub holds_exactly : length f ≡ m → (check_map m s n t f ≡ holds) ↔ Embedding m s n t f
  holds_exactly size = ((λ e. embeds ((checked_exactly size holds).0 e)), λ F. (checked_exactly size holds).1 (an_embedding F))
    where
      embeds : IsChecked m s n t f holds → Embedding m s n t f
      embeds (an_embedding F) = F
