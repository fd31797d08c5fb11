-- The rules hold for any tables and any degree: each field is a law of its subject. Shown here are that the profile counts what it says, and that no
-- kind of candidates loses a map. Assumes nothing.
use mathlib.Core.Path.{◌≡◌, refl, sym, ap, ◌∙◌, subst}
use mathlib.Core.Bool.{Bool, true}
use mathlib.Core.Logic.{◌↔◌}
use mathlib.Core.List.{List, [], ◌∷◌, map, flat_map, Memᴰ}
use Prim.Native.Nat.{ℕ, ◌*◌, ◌≤◌, ◌<◌}
use native.Mathlib.Omega.{arith}
use borrow.Author.Tests.{eq-eqb, eqb-true}
use lib.Dec.{eqb}
use lib.ListN.{length, get_or, length-map}
use lib.Seq.{ext_get_or}
use Rattle.semigroups.specs.Lists.{range, elements, at, find, keep, sum, count, least, lists}
use Rattle.semigroups.specs.ListsLaws.{IsCount}
use Rattle.semigroups.specs.InnerLists.{NoRepeats}
use Rattle.semigroups.specs.Tables.{Product, product, turned, Element, Accepted, is_element}
use Rattle.semigroups.specs.TablesLaws.{Closed}
use Rattle.semigroups.specs.Invariants.{power, period_from, index, period, idempotent_power, index_period, frequency, diagonal_frequency, row_frequency, column_frequency, commuting, IndexPeriod, Profile, profile, same_profile, same_index_period}
use Rattle.semigroups.specs.InvariantsLaws.{IsIdempotentPower, IsProfile}
use Rattle.semigroups.specs.InvariantsExamples.{CommutingExamples}
use Rattle.semigroups.specs.MapsLaws.{Isomorphism, IsMap}
use Rattle.semigroups.specs.InnerMaps.{Embedding, Among}
use Rattle.semigroups.specs.Maps.{Kind, embeddings, isomorphisms, reversed}
use Rattle.semigroups.specs.MapCheck.{Checked, holds, wrong_product, first_outside, first_equal, first_wrong, check_map}
use Rattle.semigroups.specs.MapCheckLaws.{IsChecked}
use Rattle.semigroups.specs.Candidates.{candidate}
use Rattle.semigroups.specs.Transformations.{transformations, transformation_order}
use Rattle.semigroups.specs.Rules.{InvariantRules, MapRules, TransformationRules, TableRules}
use Rattle.semigroups.specs.Cases.{mat5}
use Rattle.semigroups.proofs.Lists.{length_range, get_d_range, mem_range, range_mem, mem_elements, elements_mem, get_d_map, mem_keep, keep_mem, sorted_keep, sorted_range}
use Rattle.semigroups.proofs.NoRepeats.{elements_no_repeats}
use Rattle.semigroups.proofs.ListOrder.{lists_increasing}
use Rattle.semigroups.proofs.Sums.{count_map}
use Rattle.semigroups.proofs.Tables.{accepted_closed, refused}
use Rattle.semigroups.proofs.Questions.{number_listed}
use Rattle.semigroups.proofs.IndexPeriod.{power_one, power_next, index_period_law, index_period_unique, index_period_bound}
use Rattle.semigroups.proofs.Idempotents.{the_idempotent_power, idempotent_power_at}
use Rattle.semigroups.proofs.Frequencies.{frequencies_sum, diagonal_frequencies_sum, frequency_cells}
use Rattle.semigroups.proofs.Generated.{rising_no_repeats, same_length}
use Rattle.semigroups.proofs.Copies.{length_keep}
use Rattle.semigroups.proofs.Turned.{turned_turns, turned_closed}
use Rattle.semigroups.proofs.Maps.{maps_increasing, maps_exactly, found_exactly, embedding_order, reversed_isomorphism}
use Rattle.semigroups.proofs.MapCheck.{checked_exactly}
use Rattle.semigroups.proofs.Candidates.{index_period_sound, profile_sound, marks_exactly}
use Rattle.semigroups.proofs.Reversed.{reversed_candidate}
use Rattle.semigroups.proofs.Transformations.{length_transformations, transformation_list, number_transformation, transformation_number, product_point, table_product, length_cells, degrees_accepted}
use Rattle.semigroups.proofs.Cases.{worked}

-- ---- counts

-- Only one number says how many numbers have a property.
count_unique : (P : ℕ → Type 0) (j k : ℕ) → IsCount P j → IsCount P k → j ≡ k
count_unique P j k a b =
    sym a.size
    ∙ same_length a.those b.those a.once b.once (λ x m. (b.exactly x).1 ((a.exactly x).0 m)) (λ x m. (a.exactly x).1 ((b.exactly x).0 m))
    ∙ b.size

-- If each entry stands once, the number of entries that pass a test is the number of those with the property tested.
test_count : (P : ℕ → Type 0) (p : ℕ → Bool) (l : List ℕ) → NoRepeats l → ((x : ℕ) → (Memᴰ x l × (p x ≡ true)) ↔ P x) → IsCount P (count p l)
test_count P p l once same =
    record {
      those = keep p l;
      once = sorted_keep (λ (x y : ℕ). x ≡ y → ⊥) p l once;
      exactly = λ x. ((λ m. (same x).0 (mem_keep p l x m)), λ h. let w = (same x).1 h in keep_mem p l x w.0 w.1);
      size = length_keep p l;
    }

-- How many elements have equal values under two functions is what the count says.
equal_count : (n : ℕ) (f g : ℕ → ℕ) → IsCount (λ i. Element n i × (f i ≡ g i)) (count (λ i. eqb (f i) (g i)) (elements n))
equal_count n f g =
    test_count (λ i. Element n i × (f i ≡ g i)) (λ i. eqb (f i) (g i)) (elements n) (elements_no_repeats n)
    (λ i. ((λ w. (mem_elements n i w.0, eqb-true (f i) (g i) w.1)), λ w. (elements_mem n i w.0, eq-eqb (f i) (g i) w.1)))

-- How many places of a list hold a is what the count says.
module _ (cells : List ℕ) where
  places : cells ≡ map (λ k. get_or cells k 0) (range 0 (length cells))
  places =
      let long = length-map (range 0 (length cells)) (λ k. get_or cells k 0) ∙ length_range 0 (length cells) in
      ext_get_or 0 cells (map (λ k. get_or cells k 0) (range 0 (length cells))) (sym long)
      (λ k h.
      let r = length_range 0 (length cells) in
      sym (get_d_map (λ j. get_or cells j 0) (range 0 (length cells)) 0 k (omega arith) ∙ ap (λ (j : ℕ). get_or cells j 0) (let e = get_d_range 0 (length cells) k h in let z : get_or (range 0 (length cells)) k 0 ≡ k = omega arith in z)))

  place_count : (a : ℕ) → IsCount (λ k. (k < length cells) × (get_or cells k 0 ≡ a)) (count (λ x. eqb x a) cells)
  place_count a =
      subst (IsCount (λ k. (k < length cells) × (get_or cells k 0 ≡ a)))
      (sym (count_map (λ x. eqb x a) (λ k. get_or cells k 0) (range 0 (length cells))) ∙ ap (count (λ x. eqb x a)) (sym places))
      (test_count (λ k. (k < length cells) × (get_or cells k 0 ≡ a)) (λ k. eqb (get_or cells k 0) a) (range 0 (length cells)) (rising_no_repeats (range 0 (length cells)) (sorted_range 0 (length cells)))
      (λ k. (
        (λ w. (let b = mem_range 0 (length cells) k w.0 in omega arith, eqb-true (get_or cells k 0) a w.1)),
        λ w. (range_mem 0 (length cells) k (omega arith) (let b = w.0 in omega arith), eq-eqb (get_or cells k 0) a w.1),
      )))

-- ---- the profile

profile_same : (u v : Profile) → u.powers.index ≡ v.powers.index → u.powers.period ≡ v.powers.period → u.powers.idempotent ≡ v.powers.idempotent → u.frequency ≡ v.frequency
    → u.diagonal ≡ v.diagonal → u.row ≡ v.row → u.column ≡ v.column → u.commuting ≡ v.commuting → u ≡ v
profile_same u v p r e f d w c k =
    let powers-same : ◌≡◌ {A = IndexPeriod} (powers u.powers.index u.powers.period u.powers.idempotent) (powers v.powers.index v.powers.period v.powers.idempotent) = cc in
    let same : ◌≡◌ {A = Profile} (made u.powers u.frequency u.diagonal u.row u.column u.commuting) (made v.powers v.frequency v.diagonal v.row v.column v.commuting) = cc in
    same
  where
    powers : ℕ → ℕ → ℕ → IndexPeriod
    powers i q x = record { index = i; period = q; idempotent = x }

    made : IndexPeriod → ℕ → ℕ → ℕ → ℕ → ℕ → Profile
    made x i j l m o = record { powers = x; frequency = i; diagonal = j; row = l; column = m; commuting = o }

module _ (n : ℕ) (cells : List ℕ) (a : ℕ) (accepted : Accepted n cells) (h : Element n a) where
  abbrev s : Product
  s = product n cells

  profile_counts : IsProfile n cells a (profile n s a)
  unfolding profile index_period diagonal_frequency row_frequency column_frequency commuting
  profile_counts =
      record {
        index_period_law = index_period_law n s a (accepted_closed n cells accepted) h;
        idempotent = (the_idempotent_power n s (accepted_closed n cells accepted) accepted.associative a h).is_one;
        in_table = subst (IsCount (λ k. (k < length cells) × (get_or cells k 0 ≡ a))) (sym (frequency_cells n cells accepted.filled.size a)) (place_count cells a);
        on_diagonal = equal_count n (λ i. s i i) (λ i. a);
        in_row_law = equal_count n (s a) (λ j. a);
        in_column = equal_count n (λ i. s i a) (λ i. a);
        commute = equal_count n (s a) (λ b. s b a);
      }

  profile_exactly : (v : Profile) → (profile n s a ≡ v) ↔ IsProfile n cells a v
  profile_exactly v = (
    (λ e. subst (IsProfile n cells a) e profile_counts),
    λ w.
        let u = profile_counts in
        let powers = index_period_unique s a (profile n s a).powers.index (profile n s a).powers.period v.powers.index v.powers.period u.index_period_law w.index_period_law in
        profile_same (profile n s a) v powers.0 powers.1 (only (profile n s a).powers.idempotent u.idempotent ∙ sym (only v.powers.idempotent w.idempotent))
        (count_unique _ _ _ u.in_table w.in_table) (count_unique _ _ _ u.on_diagonal w.on_diagonal) (count_unique _ _ _ u.in_row_law w.in_row_law)
        (count_unique _ _ _ u.in_column w.in_column) (count_unique _ _ _ u.commute w.commute),
  )
    where
      only : (e : ℕ) → IsIdempotentPower s a e → e ≡ idempotent_power n s a
      only e x = (the_idempotent_power n s (accepted_closed n cells accepted) accepted.associative a h).only e x

  settles_at : (k t : ℕ) → index n s a ≤ k → k ≡ t * period n s a → power s a k ≡ idempotent_power n s a
  settles_at k t l e = sym (idempotent_power_at n s (accepted_closed n cells accepted) accepted.associative a h k t l e)

invariant_rules : (n : ℕ) (cells : List ℕ) → Accepted n cells → InvariantRules n cells
invariant_rules n cells accepted =
    let s = product n cells in
    let closed = accepted_closed n cells accepted in
    record {
      first_power = power_one s;
      next_power = power_next s;
      counted = λ a h v. profile_exactly n cells a accepted h v;
      bound = λ a h. index_period_bound n s a closed h;
      frequencies = frequencies_sum n s closed;
      diagonal_frequencies = diagonal_frequencies_sum n s closed;
      one_idempotent = λ a h. the_idempotent_power n s closed accepted.associative a h;
      settles = λ a h. settles_at n cells a accepted h;
    }

-- ---- maps

module _ (m : ℕ) (source : List ℕ) (n : ℕ) (target : List ℕ) (a : Accepted m source) (b : Accepted n target) where
  -- An isomorphism has equal orders, and its profiles are kept; a reversed one is an isomorphism onto the turned target.
  isomorphism_among : (t : Product) → Closed n t → (f : List ℕ) → Isomorphism m (product m source) n t f → Among m (candidate isomorphisms m (product m source) n t) f
  isomorphism_among t closed f F = go F.same_order t closed F.embedding
    where
      go : {k : ℕ} → m ≡ k → (u : Product) → Closed k u → Embedding m (product m source) k u f → Among m (candidate isomorphisms m (product m source) k u) f
      go e =
          subst (λ (k : ℕ). (u : Product) → Closed k u → Embedding m (product m source) k u f → Among m (candidate isomorphisms m (product m source) k u) f) e
          (λ u c E. profile_sound m (product m source) u (accepted_closed m source a) c f E)

  none_lost : (kind : Kind) (f : List ℕ) → IsMap kind m (product m source) n (product n target) f → Among m (candidate kind m (product m source) n (product n target)) f
  none_lost embeddings f F = index_period_sound m (product m source) n (product n target) (accepted_closed m source a) (accepted_closed n target b) f F
  none_lost isomorphisms f F = isomorphism_among (product n target) (accepted_closed n target b) f F
  none_lost reversed f F =
      λ i h.
      let t = product n target in
      let closed = accepted_closed n target b in
      let I = reversed_isomorphism m (product m source) n t f F in
      sym (reversed_candidate m (product m source) n t (turned t) (turned_turns n t) closed b.associative i (at f i) (I.embedding.homomorphism.within i h))
      ∙ isomorphism_among (turned t) (turned_closed n t (turned t) (turned_turns n t) closed) f I i h

  map_rules : MapRules m source n target
  map_rules =
      let s = product m source in
      let t = product n target in
      record {
        increasing = λ kind. maps_increasing kind m s n t;
        exactly = λ kind. maps_exactly kind m s n t;
        first_or_next = λ kind. found_exactly kind m s n t;
        no_embedding = λ h f F. let e = embedding_order m s n t f F in omega arith;
        no_isomorphism = λ ne f F. ne F.same_order;
        none_lost = none_lost;
        marks_stand = λ kind. marks_exactly m n (candidate kind m s n t);
        checked = λ f. checked_exactly m s n t f;
      }

-- ---- all of them

transformation_rules : (d : ℕ) → TransformationRules d
unfolding transformations
transformation_rules d =
    record {
      in_order = lists_increasing d d;
      as_many = unfold transformation_order in length_transformations d;
      number = λ i h. (transformation_list d i h, number_transformation d i h);
      numbered = transformation_number d;
      first_then = λ s t hs ht. product_point d s t hs ht;
      stands = table_product d;
      cells = length_cells d;
      accepted = degrees_accepted d;
    }

pub table_rules : TableRules
table_rules =
    record {
      refused = refused;
      number_listed = number_listed;
      invariants_of = invariant_rules;
      maps_between = map_rules;
      transformation_tables = transformation_rules;
    }

-- ---- instances

accepted_mat5 : Accepted mat5.order mat5.cells
accepted_mat5 = worked.accepted mat5 (Memᴰ.tail (Memᴰ.tail (Memᴰ.tail (Memᴰ.tail (Memᴰ.tail (Memᴰ.tail (Memᴰ.head refl)))))))

-- Case 5 in plain words: 4 stands three times in mat5, once on the diagonal, twice in row 4 and in column 4, and commutes with two elements.
fourth : Profile
fourth = record { powers = record { index = 1; period = 1; idempotent = 4 }; frequency = 3; diagonal = 1; row = 2; column = 2; commuting = 2 }

fourth_counted : IsProfile mat5.order mat5.cells 4 fourth
fourth_counted =
    ((table_rules.invariants_of mat5.order mat5.cells accepted_mat5).counted 4 (omega arith, omega arith) fourth).0
    (unfold fourth range elements find sum count least product power period_from index period idempotent_power index_period frequency diagonal_frequency row_frequency column_frequency commuting profile in refl)

-- mat5 onto itself: the identity is an embedding; with the images of 1 and 2 exchanged 1·2 is the earliest product that fails.
checked_as : (f : List ℕ) → length f ≡ 5 → (c : Checked) → check_map 5 (product 5 mat5.cells) 5 (product 5 mat5.cells) f ≡ c → IsChecked 5 (product 5 mat5.cells) 5 (product 5 mat5.cells) f c
checked_as f long c = ((table_rules.maps_between 5 mat5.cells 5 mat5.cells accepted_mat5 accepted_mat5).checked f long c).0

identity_holds : IsChecked 5 (product 5 mat5.cells) 5 (product 5 mat5.cells) (1 ∷ 2 ∷ 3 ∷ 4 ∷ 5 ∷ []) holds
identity_holds = checked_as (1 ∷ 2 ∷ 3 ∷ 4 ∷ 5 ∷ []) refl holds (unfold range elements at find lists product is_element first_outside first_equal first_wrong check_map flat_map in refl)

exchanged_fails : IsChecked 5 (product 5 mat5.cells) 5 (product 5 mat5.cells) (2 ∷ 1 ∷ 3 ∷ 4 ∷ 5 ∷ []) (wrong_product (1 ∷ 2 ∷ []))
exchanged_fails =
    checked_as (2 ∷ 1 ∷ 3 ∷ 4 ∷ 5 ∷ []) refl (wrong_product (1 ∷ 2 ∷ [])) (unfold range elements at find lists product is_element first_outside first_equal first_wrong check_map flat_map in refl)

commuting_examples : CommutingExamples
unfolding range elements find sum count least product power period_from index period idempotent_power index_period frequency diagonal_frequency row_frequency column_frequency commuting profile same_index_period same_profile
commuting_examples = (refl, refl, refl)
