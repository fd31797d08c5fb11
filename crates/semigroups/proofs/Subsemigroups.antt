-- The part of a table that a list generates: its table is accepted where the whole is, and its elements embed it. Assumes nothing.
use mathlib.Core.Path.{◌≡◌, refl, sym, ap, ◌∙◌, subst₂}
use mathlib.Core.Bool.{Bool, true, false, ◌&&◌}
use mathlib.Core.Logic.{◌↔◌}
use mathlib.Core.Option.{none, some, or_else}
use mathlib.Core.List.Memᴰ
use mathlib.Core.List.{List, [], ◌∷◌, flat_map, Memᴰ}
use Prim.Native.Nat.{ℕ, suc, ◌-◌, ◌*◌, ◌≤◌, ◌<◌}
use native.Mathlib.Omega.{arith}
use borrow.Author.Tests.{eqb-true, eq-eqb, leb-true, le-leb, lt-leb}
use lib.Dec.{eqb, leb}
use lib.ListN.{length}
use Rattle.semigroups.specs.Lists.{range, elements, at, all, find, first_of, keep, least, member, lists}
use Rattle.semigroups.specs.InnerLists.{NoRepeats}
use Rattle.semigroups.specs.Tables.{Product, product, grid, Element, Associative, Accepted, is_element, associates, bad_cell, bad_triple}
use Rattle.semigroups.specs.TablesLaws.{Closed}
use Rattle.semigroups.specs.Questions.{Question, ask, Refusal, first_no, table_questions, table_refusal}
use Rattle.semigroups.specs.InnerQuestions.{no}
use Rattle.semigroups.specs.InnerMaps.{Embedding}
use Rattle.semigroups.specs.InnerGenerated.{Inside}
use Rattle.semigroups.specs.Generated.{set_of, products, grown, generated}
use Rattle.semigroups.specs.Subsemigroups.{number_in, renumbered, part_cells, subsemigroup_refusal}
use Rattle.semigroups.specs.SubsemigroupsLaws.{SubsemigroupPasses, Subsemigroup, SubsemigroupTheorem}
use Rattle.semigroups.specs.SubsemigroupsExamples.{SubsemigroupExamples}
use Rattle.semigroups.specs.Cases.{mat5}
use Rattle.semigroups.proofs.Booleans.{untrue, both, and_left, and_right}
use Rattle.semigroups.proofs.Lists.{length_elements, elements_mem, at_suc, least_first, all_at, all_of, is_element_law, element_is}
use Rattle.semigroups.proofs.NoRepeats.{length_inside, one_to_one, mem_place, place_mem, within_mem}
use Rattle.semigroups.proofs.Tables.{product_grid, grid_only, grid_accepted, accepted_closed}
use Rattle.semigroups.proofs.Questions.{failed_before, passed_before}
use Rattle.semigroups.proofs.Passing.{asked, room_asked, joined, table_passes}
use Rattle.semigroups.proofs.Generated.{ClosedList, rising_no_repeats, rising_same, generated_inside, generated_rising, generated_no_repeats, generated_closed, generated_holds, generated_smallest, smallest_unique}

-- ---- the entries of a list by their numbers

module _ (e : List ℕ) where
  pub at_mem : (i : ℕ) → Element (length e) i → Memᴰ (at e i) e
  unfolding at
  at_mem i h = place_mem 0 e (i - 1) (omega arith)

  pub number_at : (x : ℕ) → Memᴰ x e → Element (length e) (number_in e x) × (at e (number_in e x) ≡ x)
  unfolding number_in
  number_at x m =
      let p : ℕ → Bool = λ i. eqb (at e i) x in
      let o = mem_place 0 e m in
      let o1 = o.1 in
      let r = least_first (length e) p (suc o.0) (omega arith) (eq-eqb (at e (suc o.0)) x (at_suc e o.0 ∙ o.2)) in
      (r.0, eqb-true (at e (least (length e) p)) x r.2)

  -- Where no entry stands twice, the entry at i has the number i.
  pub at_number : NoRepeats e → (i : ℕ) → Element (length e) i → number_in e (at e i) ≡ i
  at_number u i h = let r = number_at (at e i) (at_mem i h) in one_to_one (length e) e refl u (number_in e (at e i)) i r.0 h r.1

-- ---- a list that holds its products, renumbered

module _ (n : ℕ) (s : Product) (e : List ℕ) (inside : Inside n e) (apart : NoRepeats e) (closed : ClosedList s e) where
  abbrev k : ℕ
  k = length e

  product_listed : (i j : ℕ) → Element k i → Element k j → Memᴰ (s (at e i) (at e j)) e
  product_listed i j hi hj = closed (at e i) (at e j) (at_mem e i hi) (at_mem e j hj)

  part_product : (i j : ℕ) → Element k i → Element k j → at e (renumbered s e i j) ≡ s (at e i) (at e j)
  unfolding renumbered
  part_product i j hi hj = (number_at e (s (at e i) (at e j)) (product_listed i j hi hj)).1

  part_closed : Closed k (renumbered s e)
  unfolding renumbered
  part_closed i j hi hj = (number_at e (s (at e i) (at e j)) (product_listed i j hi hj)).0

  part_associative : Associative n s → Associative k (renumbered s e)
  part_associative a i j l hi hj hl =
      let p = renumbered s e in
      let hij = part_closed i j hi hj in
      let hjl = part_closed j l hj hl in
      one_to_one k e refl apart (p (p i j) l) (p i (p j l)) (part_closed (p i j) l hij hl) (part_closed i (p j l) hi hjl)
      (part_product (p i j) l hij hl ∙ ap (λ (x : ℕ). s x (at e l)) (part_product i j hi hj)
      ∙ a (at e i) (at e j) (at e l) (inside (at e i) (at_mem e i hi)) (inside (at e j) (at_mem e j hj)) (inside (at e l) (at_mem e l hl))
      ∙ ap (s (at e i)) (sym (part_product j l hj hl)) ∙ sym (part_product i (p j l) hi hjl))

  part_order : k ≤ n
  part_order = let b = length_inside e (elements n) apart (λ x m. elements_mem n x (inside x m)) in omega (arith, length_elements n)

  pub part_accepted : Element 120 n → 1 ≤ k → Associative n s → Accepted k (part_cells s e)
  unfolding part_cells
  part_accepted h one a = let b = part_order in grid_accepted k (renumbered s e) (omega arith) part_closed (part_associative a)

  pub part_embeds : Embedding k (product k (part_cells s e)) n s e
  unfolding part_cells
  part_embeds =
      record {
        homomorphism = record {
          size = refl;
          within = λ i h. inside (at e i) (at_mem e i h);
          keeps_product = λ i j hi hj. ap (at e) (product_grid k (renumbered s e) i j hi hj) ∙ part_product i j hi hj;
        };
        one_to_one = one_to_one k e refl apart;
      }

-- ---- the subsemigroup

-- A list that is not empty generates something.
generated_some : (n : ℕ) (s : Product) → Closed n s → (l : List ℕ) → Inside n l → 1 ≤ length l → 1 ≤ length (generated n s l)
generated_some n s closed [] inside h = absurd (let z : ⊥ = omega arith in z)
generated_some n s closed (x ∷ l) inside h = some (generated n s (x ∷ l)) ((generated_holds n s (x ∷ l) closed inside).holds_list x (Memᴰ.head refl))
  where
    some : (r : List ℕ) → Memᴰ x r → 1 ≤ length r
    some [] m = absurd (Memᴰ.not-nil m)
    some (y ∷ r) m = omega arith

module _ (n : ℕ) (table l : List ℕ) (a : Accepted n table) (inside : Inside n l) where
  abbrev s : Product
  s = product n table

  abbrev closed : Closed n s
  closed = accepted_closed n table a

  the_part : 1 ≤ length l → Subsemigroup n table l (generated n s l) (part_cells s (generated n s l))
  the_part h =
      let e = generated n s l in
      let apart = generated_no_repeats n s l in
      let products = generated_closed n s l closed in
      record {
        smallest = generated_smallest n s l closed inside;
        rising = generated_rising n s l;
        embeds = part_embeds n s e (generated_inside n s l) apart products;
        accepted = part_accepted n s e (generated_inside n s l) apart products a.filled.order (generated_some n s closed l inside h) a.associative;
      }

  module _ (e cells : List ℕ) (S : Subsemigroup n table l e cells) where
    -- There is only one smallest set, and only one rising list of its members.
    only_elements : e ≡ generated n s l
    only_elements =
        let w = smallest_unique s l (λ x. Memᴰ x e) (λ x. Memᴰ x (generated n s l)) S.smallest (generated_smallest n s l closed inside) in
        rising_same e (generated n s l) S.rising (generated_rising n s l) (λ x m. (w x).0 m) (λ x m. (w x).1 m)

    -- The elements embed only one table, since a cell is determined by its image.
    only_table : cells ≡ part_cells s e
    unfolding part_cells product
    only_table =
        let k = length e in
        let F = S.embeds.homomorphism in
        let within : Inside n e = within_mem k n e refl F.within in
        let apart = rising_no_repeats e S.rising in
        let products = S.smallest.holds.holds_products in
        grid_only k k (renumbered s e) cells S.accepted.filled.size
        (λ i j hi hj.
        S.embeds.one_to_one (product k cells i j) (renumbered s e i j) (accepted_closed k cells S.accepted i j hi hj) (part_closed n s e within apart products i j hi hj)
        (F.keeps_product i j hi hj ∙ sym (part_product n s e within apart products i j hi hj)))

pub subsemigroup_theorem : SubsemigroupTheorem
subsemigroup_theorem n table l a inside h e cells = (
  (λ q. subst₂ (λ (e cells : List ℕ). Subsemigroup n table l e cells) (sym q.0) (sym q.1) (the_part n table l a inside h)),
  λ S. let f = only_elements n table l a inside e cells S in (f, only_table n table l a inside e cells S ∙ ap (part_cells (product n table)) f),
)

-- ---- the questions

module _ (n : ℕ) (cells l : List ℕ) (cellsLength elementsLength : ℕ) where
  abbrev order : ℕ
  order = length (generated n (product n cells) l)

  abbrev chosen : Bool
  chosen = leb 1 (length l) && all (is_element n) l

  chosen_inside : chosen ≡ true → (1 ≤ length l) × Inside n l
  chosen_inside e = (
    leb-true 1 (length l) (and_left (leb 1 (length l)) (all (is_element n) l) e),
    λ x m. is_element_law n x (all_at (is_element n) l (and_right (leb 1 (length l)) (all (is_element n) l) e) x m),
  )

  inside_chosen : (1 ≤ length l) × Inside n l → chosen ≡ true
  inside_chosen h = both (leb 1 (length l)) (all (is_element n) l) (le-leb 1 (length l) h.0) (all_of (is_element n) l (λ x m. element_is n x (h.1 x m)))

  -- The questions about the buffers; with question 60 before them, those that follow the table's four.
  abbrev rooms : List Question
  rooms = ask 61 (leb (order * order) cellsLength) ∷ ask 62 (leb order elementsLength) ∷ []

  abbrev more : List Question
  more = ask 60 chosen ∷ rooms

  -- The questions pass exactly where what the call needs holds.
  pub subsemigroup_passes : (subsemigroup_refusal n cells l cellsLength elementsLength ≡ none) ↔ SubsemigroupPasses n cells l cellsLength elementsLength
  unfolding subsemigroup_refusal table_refusal
  subsemigroup_passes =
      let room = joined (ask 61 (leb (order * order) cellsLength) ∷ []) (ask 62 (leb order elementsLength) ∷ []) (room_asked 61 (order * order) cellsLength) (room_asked 62 order elementsLength) in
      let w = joined (table_questions n cells) more (table_passes n cells) (joined (ask 60 chosen ∷ []) rooms (asked 60 chosen chosen_inside inside_chosen) room) in (
        (λ e. let h = w.0 e in record { table = h.0; one = h.1.0.0; inside = h.1.0.1; cells_room = h.1.1.0; elements_room = h.1.1.1 }),
        λ h. w.1 (h.table, ((h.one, h.inside), (h.cells_room, h.elements_room))),
      )

  -- What the refusal is for each question that may fail first.
  pub table_refused : (r : Refusal) → table_refusal n cells ≡ some r → subsemigroup_refusal n cells l cellsLength elementsLength ≡ some r
  unfolding subsemigroup_refusal table_refusal
  table_refused r e = failed_before (table_questions n cells) more e

  module _ (t : table_refusal n cells ≡ none) where
    table_passed : subsemigroup_refusal n cells l cellsLength elementsLength ≡ first_no more
    unfolding subsemigroup_refusal table_refusal
    table_passed = passed_before (table_questions n cells) more t

    chosen_refused : chosen ≡ false → subsemigroup_refusal n cells l cellsLength elementsLength ≡ some (no 60 [])
    unfolding first_of or_else
    chosen_refused e = table_passed ∙ rw e

    pub none_chosen : length l < 1 → subsemigroup_refusal n cells l cellsLength elementsLength ≡ some (no 60 [])
    none_chosen h = chosen_refused (rw (lt-leb 1 (length l) h))

    pub not_inside : (Inside n l → ⊥) → subsemigroup_refusal n cells l cellsLength elementsLength ≡ some (no 60 [])
    not_inside h = chosen_refused (untrue chosen (λ e. h (chosen_inside e).1))

    module _ (one : 1 ≤ length l) (inside : Inside n l) where
      pub cells_short : cellsLength < order * order → subsemigroup_refusal n cells l cellsLength elementsLength ≡ some (no 61 [])
      unfolding first_of or_else
      cells_short h = table_passed ∙ rw (inside_chosen (one, inside), lt-leb (order * order) cellsLength h)

      pub elements_short : order * order ≤ cellsLength → elementsLength < order → subsemigroup_refusal n cells l cellsLength elementsLength ≡ some (no 62 [])
      unfolding first_of or_else
      elements_short c h = table_passed ∙ rw (inside_chosen (one, inside), le-leb (order * order) cellsLength c, lt-leb order elementsLength h)

-- ---- examples

pub subsemigroup_examples : SubsemigroupExamples
unfolding subsemigroup_refusal first_of or_else is_element bad_cell bad_triple generated grown set_of products associates product grid part_cells renumbered number_in least lists elements range at all find keep member flat_map
subsemigroup_examples = (refl, refl, refl, refl, refl, refl, refl)

-- An instance: the part of mat5 in the example, in plain words.
mat5_part : Subsemigroup 5 mat5.cells (5 ∷ 2 ∷ []) (1 ∷ 2 ∷ 3 ∷ 5 ∷ []) (1 ∷ 1 ∷ 1 ∷ 1 ∷ 1 ∷ 2 ∷ 3 ∷ 3 ∷ 1 ∷ 1 ∷ 1 ∷ 3 ∷ 1 ∷ 1 ∷ 1 ∷ 4 ∷ [])
mat5_part =
    let passes = (subsemigroup_passes 5 mat5.cells (5 ∷ 2 ∷ []) 16 4).0 subsemigroup_examples.2 in
    let e = subsemigroup_examples.0 in
    (subsemigroup_theorem 5 mat5.cells (5 ∷ 2 ∷ []) passes.table passes.inside passes.one (1 ∷ 2 ∷ 3 ∷ 5 ∷ [])
    (1 ∷ 1 ∷ 1 ∷ 1 ∷ 1 ∷ 2 ∷ 3 ∷ 3 ∷ 1 ∷ 1 ∷ 1 ∷ 3 ∷ 1 ∷ 1 ∷ 1 ∷ 4 ∷ [])).0 (sym e, sym (ap (part_cells (product 5 mat5.cells)) e ∙ subsemigroup_examples.1))
