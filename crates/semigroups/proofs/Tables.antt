-- Tables: what stands in a grid; products of elements are elements; a table has no failed question exactly where it is accepted, and a failed one is
-- the earliest, with the earliest cell or triple. Assumes nothing.
use mathlib.Core.Path.{◌≡◌, refl, sym, ap, ap₂, ◌∙◌, subst}
use mathlib.Core.Bool.{Bool, true, false, not}
use mathlib.Core.Logic.{◌⊎◌, inl, inr, ⊎_elim, ◌↔◌}
use mathlib.Core.Option.{Option, none, some, or_else, map-eq-none_iff, none-ne-some}
use mathlib.Core.List.Memᴰ
use mathlib.Core.List.{List, [], ◌∷◌, map, Memᴰ}
use Prim.Native.Nat.{ℕ, suc, ◌+◌, ◌-◌, ◌*◌, ◌/◌, ◌%◌, ◌≤◌, ◌<◌}
use native.Mathlib.Nat.{mul-le-mul_right, suc-mul, div-add-mod', mod-lt, div-lt_iff_lt-mul}
use native.Mathlib.Omega.{arith}
use borrow.Author.Tests.{eqb-true, eqb-false, eq-eqb, ne_eqb, not-true, not-false}
use lib.Dec.{eqb}
use lib.ListN.{length, get_or, length-map}
use lib.Seq.{ext_get_or}
use Rattle.semigroups.specs.Lists.{range, elements, at, first_of, lists}
use Rattle.semigroups.specs.ListsLaws.{Earliest}
use Rattle.semigroups.specs.Tables.{Product, product, grid, Element, Associative, Filled, Accepted, is_element, associates, bad_cell, bad_triple, cell_place}
use Rattle.semigroups.specs.TablesLaws.{Closed, FailingTriple}
use Rattle.semigroups.specs.InnerTables.{IsList}
use Rattle.semigroups.specs.Questions.{Refusal, cells_questions, triple_question, table_refusal}
use Rattle.semigroups.specs.QuestionsLaws.{Refused, wrong_order, wrong_size, wrong_cell, wrong_triple}
use Rattle.semigroups.specs.InnerQuestions.{no, cells_refusal}
use Rattle.semigroups.proofs.Booleans.{either, clash, untrue, not_of_true, not_of_false, equal_or_not, trichotomy}
use Rattle.semigroups.proofs.Lists.{length_elements, mem_elements, get_d_map, mem_range, range_mem, sorted_range, at_suc, at_elements, is_element_law, element_is, find_some, find_none, none_find, find_first}
use Rattle.semigroups.proofs.FlatMap.{mem_flat_map, length_flat_map, get_d_flat_map}
use Rattle.semigroups.proofs.NoRepeats.{place_mem}
use Rattle.semigroups.proofs.ListOrder.{mem_lists, find_earliest, find_nowhere, earliest_unique}
use Rattle.semigroups.proofs.Questions.{ask_passed, all_passed, both_passed}

-- ---- cells row after row

-- The place of row i, column j lies among the m × n cells.
pub place_below : (m n i j : ℕ) → Element m i → Element n j → cell_place n i j < m * n
place_below m n i j hi hj =
    let b : suc (i - 1) * n ≤ m * n = mul-le-mul_right n (omega arith) in
    omega (arith, suc-mul (i - 1) n)

-- Place k is that of row k / n + 1 and column k modulo n, plus 1.
pub place_of : (n k : ℕ) → cell_place n (k / n + 1) (k % n + 1) ≡ k
place_of n k =
    ap₂ (λ (x y : ℕ). x * n + y) (let z : k / n + 1 - 1 ≡ k / n = omega arith in z) (let z : k % n + 1 - 1 ≡ k % n = omega arith in z) ∙ div-add-mod' k n

pub place_elements : (m n k : ℕ) → k < m * n → Element m (k / n + 1) × Element n (k % n + 1)
place_elements m n k h =
    let wide : 0 < n = ⊎_elim (λ (e : n ≡ 0). let z = ap (λ (x : ℕ). m * x) e in omega (arith, h)) (λ (ne : n ≡ 0 → ⊥). omega arith) (equal_or_not n 0) in
    let row = (div-lt_iff_lt-mul {k = n} {x = k} {y = m} wide).1 h in
    let column = mod-lt k wide in
    ((omega arith, omega arith), (omega arith, omega arith))

module _ (m n : ℕ) (f : ℕ → ℕ → ℕ) where
  row_long : (i : ℕ) → length (map (f i) (elements n)) ≡ n
  row_long i = length-map (elements n) (f i) ∙ length_elements n

  pub length_grid : length (grid m n f) ≡ m * n
  unfolding grid
  length_grid = length_flat_map (λ i. map (f i) (elements n)) n row_long (elements m) ∙ ap (λ (k : ℕ). k * n) (length_elements m)

  -- The cell of row i and column j.
  pub grid_at : (i j : ℕ) → Element m i → Element n j → get_or (grid m n f) (cell_place n i j) 0 ≡ f i j
  unfolding grid
  grid_at i j hi hj =
      get_d_flat_map (λ i. map (f i) (elements n)) n row_long (elements m) 0 0 (i - 1) (j - 1) (omega (arith, length_elements m)) (omega arith)
      ∙ get_d_map (f (get_or (elements m) (i - 1) 0)) (elements n) 0 (j - 1) (omega (arith, length_elements n))
      ∙ ap₂ f (unfold at in at_elements m i hi) (unfold at in at_elements n j hj)

  -- Cells that have f i j at each row i and column j are those of the grid.
  pub grid_only : (cells : List ℕ) → length cells ≡ m * n → ((i j : ℕ) → Element m i → Element n j → get_or cells (cell_place n i j) 0 ≡ f i j) → cells ≡ grid m n f
  grid_only cells size same =
      ext_get_or 0 cells (grid m n f) (size ∙ sym length_grid)
      (λ k h.
      let w = place_elements m n k (omega arith) in
      subst (λ (p : ℕ). get_or cells p 0 ≡ get_or (grid m n f) p 0) (place_of n k) (same (k / n + 1) (k % n + 1) w.0 w.1 ∙ sym (grid_at (k / n + 1) (k % n + 1) w.0 w.1)))

-- The product of the table with these cells.
pub product_grid : (n : ℕ) (s : Product) (i j : ℕ) → Element n i → Element n j → product n (grid n n s) i j ≡ s i j
unfolding product
product_grid n s i j hi hj = grid_at n n s i j hi hj

pub product_element : (n : ℕ) (cells : List ℕ) → length cells ≡ n * n → ((k : ℕ) → k < length cells → Element n (get_or cells k 0)) → Closed n (product n cells)
unfolding product
product_element n cells e h i j hi hj = h (cell_place n i j) (let b = place_below n n i j hi hj in omega arith)

pub filled_closed : (n : ℕ) (cells : List ℕ) → Filled n cells → Closed n (product n cells)
filled_closed n cells f = product_element n cells f.size f.in_range

pub accepted_closed : (n : ℕ) (cells : List ℕ) → Accepted n cells → Closed n (product n cells)
accepted_closed n cells a = filled_closed n cells a.filled

grid_element : (n : ℕ) (s : Product) → Closed n s → (x : ℕ) → Memᴰ x (grid n n s) → Element n x
unfolding grid
grid_element n s c x m =
    let w = mem_flat_map (λ i. map (s i) (elements n)) (elements n) x m in
    let v = Memᴰ.of_map (s w.0) (elements n) w.2 in
    subst (Element n) v.2 (c w.0 v.0 (mem_elements n w.0 w.1) (mem_elements n v.0 v.1))

-- The table with the cells of a product that stays within the order and associates is accepted.
pub grid_accepted : (n : ℕ) (s : Product) → Element 120 n → Closed n s → Associative n s → Accepted n (grid n n s)
grid_accepted n s h c a =
    let table : (i j : ℕ) → Element n i → Element n j → product n (grid n n s) i j ≡ s i j = product_grid n s in
    let q = product n (grid n n s) in
    record {
      filled = record { order = h; size = length_grid n n s; in_range = λ k u. grid_element n s c (get_or (grid n n s) k 0) (place_mem 0 (grid n n s) k u) };
      associative = λ i j k hi hj hk.
          ap (λ (x : ℕ). q x k) (table i j hi hj) ∙ table (s i j) k (c i j hi hj) hk ∙ a i j k hi hj hk
          ∙ sym (table i (s j k) hi (c j k hj hk)) ∙ ap (q i) (sym (table j k hj hk));
    }

-- ---- question 3

module _ (n : ℕ) (cells : List ℕ) where
  pub cells_in_range : bad_cell n cells ≡ none → (k : ℕ) → k < length cells → Element n (get_or cells k 0)
  unfolding bad_cell
  cells_in_range e k h =
      subst (Element n) (at_suc cells k)
      (is_element_law n (at cells (suc k)) (not-false (is_element n (at cells (suc k))) (find_none (λ i. not (is_element n (at cells i))) (range 1 (length cells)) e (suc k) (range_mem 1 (length cells) (suc k) (omega arith) (omega arith)))))

  pub no_bad_cell : ((k : ℕ) → k < length cells → Element n (get_or cells k 0)) → bad_cell n cells ≡ none
  unfolding bad_cell at
  no_bad_cell h =
      none_find (λ i. not (is_element n (at cells i))) (range 1 (length cells))
      (λ i m. let r = mem_range 1 (length cells) i m in not_of_true (is_element n (at cells i)) (element_is n (at cells i) (h (i - 1) (omega arith))))

  -- The bad cell is the first that is not 1 to n.
  bad_cell_first : (k : ℕ) → bad_cell n cells ≡ some k → Element (length cells) k × (Element n (at cells k) → ⊥) × ((j : ℕ) → 1 ≤ j → j < k → Element n (at cells j))
  unfolding bad_cell
  bad_cell_first k e =
      let p : ℕ → Bool = λ i. not (is_element n (at cells i)) in
      let r = find_some p (range 1 (length cells)) k e in
      let m = mem_range 1 (length cells) k r.0 in (
        omega arith,
        (λ h. clash {b = is_element n (at cells k)} (element_is n (at cells k) h) (not-true (is_element n (at cells k)) r.1)),
        λ j lo hi.
            is_element_law n (at cells j) (not-false (is_element n (at cells j)) (untrue (p j) (λ t.
            let z : ⊥ = ⊎_elim (λ (q : j ≡ k). let y : ⊥ = omega arith in y) (λ (q : k < j). let y : ⊥ = omega arith in y) (find_first ◌<◌ p (range 1 (length cells)) (sorted_range 1 (length cells)) k e j (range_mem 1 (length cells) j lo (omega arith)) t) in z))),
      )

  -- The first cell that is not 1 to n is the bad cell.
  first_bad_cell : (k : ℕ) → Element (length cells) k → (Element n (at cells k) → ⊥) → ((j : ℕ) → 1 ≤ j → j < k → Element n (at cells j)) → bad_cell n cells ≡ some k
  first_bad_cell k h wrong before = go (bad_cell n cells) refl
    where
      go : (o : Option ℕ) → bad_cell n cells ≡ o → bad_cell n cells ≡ some k
      go none e = absurd (wrong (unfold at in cells_in_range e (k - 1) (omega arith)))
      go (some j) e =
          let b = bad_cell_first j e in
          ⊎_elim (λ (q : k ≡ j). e ∙ ap {B = Option ℕ} some (sym q))
          (⊎_elim (λ (q : k < j). absurd (wrong (b.2 k h.0 q))) (λ (q : j < k). absurd (b.1 (before j b.0.0 q)))) (trichotomy k j)

-- ---- pairs and triples as lists

list_more : (m n x : ℕ) (l : List ℕ) → Element n x → IsList m n l → IsList (suc m) n (x ∷ l)
list_more m n x l hx h = record { size = ap suc h.size; entries = λ y k. ⊎_elim (λ e. subst (Element n) (sym e) hx) (h.entries y) (Memᴰ.cases_cons k) }

pub pair_list : (n i j : ℕ) → Element n i → Element n j → IsList 2 n (i ∷ j ∷ [])
pair_list n i j hi hj = list_more 1 n i (j ∷ []) hi (list_more 0 n j [] hj (record { size = refl; entries = λ y k. absurd (Memᴰ.not-nil k) }))

pub triple_list : (n i j k : ℕ) → Element n i → Element n j → Element n k → IsList 3 n (i ∷ j ∷ k ∷ [])
triple_list n i j k hi hj hk = list_more 2 n i (j ∷ k ∷ []) hi (pair_list n j k hj hk)

-- Entry i of a list of m elements is an element.
pub list_at : (m n : ℕ) (l : List ℕ) → IsList m n l → (i : ℕ) → Element m i → Element n (at l i)
unfolding at
list_at m n l h i hi = let e = h.size in h.entries (get_or l (i - 1) 0) (place_mem 0 l (i - 1) (omega arith))

-- ---- question 4

module _ (n : ℕ) (s : Product) where
  pub associative_of : bad_triple n s ≡ none → Associative n s
  unfolding bad_triple associates at
  associative_of e i j k hi hj hk =
      eqb-true (s (s i j) k) (s i (s j k))
      (not-false (associates s i j k) (find_nowhere (λ l. not (associates s (at l 1) (at l 2) (at l 3))) 3 n e (i ∷ j ∷ k ∷ []) (triple_list n i j k hi hj hk)))

  pub no_bad_triple : Associative n s → bad_triple n s ≡ none
  unfolding bad_triple associates
  no_bad_triple h =
      none_find (λ l. not (associates s (at l 1) (at l 2) (at l 3))) (lists 3 n)
      (λ l m.
      let w = list_at 3 n l (mem_lists 3 n l m) in
      not_of_true (associates s (at l 1) (at l 2) (at l 3)) (eq-eqb (s (s (at l 1) (at l 2)) (at l 3)) (s (at l 1) (s (at l 2) (at l 3))) (h (at l 1) (at l 2) (at l 3) (w 1 (omega arith)) (w 2 (omega arith)) (w 3 (omega arith)))))

  bad_triple_first : (l : List ℕ) → bad_triple n s ≡ some l → Earliest (FailingTriple n s) l
  unfolding bad_triple associates
  bad_triple_first l e =
      let r = find_earliest (λ l. not (associates s (at l 1) (at l 2) (at l 3))) 3 n l e in
      record {
        has = record { triple = r.has.0; fails = eqb-false (s (s (at l 1) (at l 2)) (at l 3)) (s (at l 1) (s (at l 2) (at l 3))) (not-true (associates s (at l 1) (at l 2) (at l 3)) r.has.1) };
        before_others = λ g h. r.before_others g (h.triple, not_of_false (associates s (at g 1) (at g 2) (at g 3)) (untrue (associates s (at g 1) (at g 2) (at g 3)) (λ t. h.fails (eqb-true (s (s (at g 1) (at g 2)) (at g 3)) (s (at g 1) (s (at g 2) (at g 3))) t))));
      }

  first_bad_triple : (l : List ℕ) → Earliest (FailingTriple n s) l → bad_triple n s ≡ some l
  first_bad_triple l h = go (bad_triple n s) refl
    where
      go : (o : Option (List ℕ)) → bad_triple n s ≡ o → bad_triple n s ≡ some l
      go none e =
          let w = list_at 3 n l h.has.triple in
          absurd (h.has.fails (associative_of e (at l 1) (at l 2) (at l 3) (w 1 (omega arith)) (w 2 (omega arith)) (w 3 (omega arith))))
      go (some g) e = e ∙ ap {B = Option (List ℕ)} some (earliest_unique (bad_triple_first g e) h)

-- ---- the four questions

module _ (n : ℕ) (cells : List ℕ) where
  -- The three questions before associativity pass exactly where the cells fill a table.
  pub filled : cells_refusal n cells ≡ none → Filled n cells
  unfolding cells_refusal
  filled e =
      let p = (all_passed (cells_questions n cells)).0 e in
      record {
        order = is_element_law 120 n (ask_passed 1 (is_element 120 n) p.0);
        size = eqb-true (length cells) (n * n) (ask_passed 2 (eqb (length cells) (n * n)) p.1.0);
        in_range = cells_in_range n cells ((map-eq-none_iff (λ k. k ∷ []) (bad_cell n cells)).0 p.1.1.0);
      }

  pub no_cells_refusal : Filled n cells → cells_refusal n cells ≡ none
  unfolding cells_refusal first_of or_else
  no_cells_refusal f = rw (element_is 120 n f.order, eq-eqb (length cells) (n * n) f.size, no_bad_cell n cells f.in_range)

  pub accepted : table_refusal n cells ≡ none → Accepted n cells
  unfolding table_refusal
  accepted e =
      let p = both_passed (cells_questions n cells) (triple_question n cells ∷ []) e in
      record { filled = filled (unfold cells_refusal in p.0); associative = associative_of n (product n cells) ((all_passed (triple_question n cells ∷ [])).0 p.1).0 }

  pub no_refusal_law : Accepted n cells → table_refusal n cells ≡ none
  unfolding table_refusal first_of or_else
  no_refusal_law a =
      let f = a.filled in
      rw (element_is 120 n f.order, eq-eqb (length cells) (n * n) f.size, no_bad_cell n cells f.in_range, no_bad_triple n (product n cells) a.associative)

  -- If one of the four refusals is due, it is what is said of the table.
  refusal_said_law : (r : Refusal) → Refused n cells r → table_refusal n cells ≡ some r
  unfolding table_refusal first_of or_else
  refusal_said_law r (wrong_order h) = rw (untrue (is_element 120 n) (λ e. h (is_element_law 120 n e)))
  refusal_said_law r (wrong_size o h) = rw (element_is 120 n o, ne_eqb (length cells) (n * n) h)
  refusal_said_law r (wrong_cell k o z i h b) = rw (element_is 120 n o, eq-eqb (length cells) (n * n) z, first_bad_cell n cells k i h b)
  refusal_said_law r (wrong_triple l o z i h) = rw (element_is 120 n o, eq-eqb (length cells) (n * n) z, no_bad_cell n cells i, first_bad_triple n (product n cells) l h)

  -- The table is accepted, or one of the four refusals is due.
  data Judged : Type 0 where
    passes : Accepted n cells → Judged
    fails : (r : Refusal) → Refused n cells r → Judged

  judged : Judged
  judged = by_order (either (is_element 120 n))
    where
      by_triple : Element 120 n → length cells ≡ n * n → ((k : ℕ) → k < length cells → Element n (get_or cells k 0)) → (o : Option (List ℕ)) → bad_triple n (product n cells) ≡ o → Judged
      by_triple o z i none e = passes (record { filled = record { order = o; size = z; in_range = i }; associative = associative_of n (product n cells) e })
      by_triple o z i (some l) e = fails (no 4 l) (wrong_triple l o z i (bad_triple_first n (product n cells) l e))

      by_cell : Element 120 n → length cells ≡ n * n → (o : Option ℕ) → bad_cell n cells ≡ o → Judged
      by_cell o z none e = by_triple o z (cells_in_range n cells e) (bad_triple n (product n cells)) refl
      by_cell o z (some k) e = let b = bad_cell_first n cells k e in fails (no 3 (k ∷ [])) (wrong_cell k o z b.0 b.1 b.2)

      by_size : Element 120 n → (length cells ≡ n * n) ⊎ (length cells ≡ n * n → ⊥) → Judged
      by_size o (inl z) = by_cell o z (bad_cell n cells) refl
      by_size o (inr z) = fails (no 2 []) (wrong_size o z)

      by_order : (is_element 120 n ≡ true) ⊎ (is_element 120 n ≡ false) → Judged
      by_order (inl e) = by_size (is_element_law 120 n e) (equal_or_not (length cells) (n * n))
      by_order (inr e) = fails (no 1 []) (wrong_order (λ o. clash {b = is_element 120 n} (element_is 120 n o) e))

  -- A refusal is that of the earliest failed question, with the earliest cell or triple; and where a question fails so, it is the refusal.
  pub refused : (r : Refusal) → (table_refusal n cells ≡ some r) ↔ Refused n cells r
  refused r = (go judged, refusal_said_law r)
    where
      go : Judged → table_refusal n cells ≡ some r → Refused n cells r
      go (passes a) e = absurd (none-ne-some r (sym (no_refusal_law a) ∙ e))
      go (fails q h) e = let w = refusal_said_law q h in subst (Refused n cells) (let s : q ≡ r = cc in s) h
