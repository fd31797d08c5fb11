-- Light's associativity test: where a list generates every element, a product is associative exactly if every triple with its middle on the list
-- associates; for if b and c are good middles, so is b·c. What the shorter check answers, against the full one. Assumes nothing.
use mathlib.Core.Path.{◌≡◌, refl, sym, ap, ◌∙◌, subst}
use mathlib.Core.Bool.{Bool, true, false, not, ◌&&◌}
use mathlib.Core.Logic.{◌⊎◌, ◌↔◌}
use mathlib.Core.Option.{Option, none, some, map, or_else, map-eq-none_iff, none-ne-some}
use mathlib.Core.List.Memᴰ
use mathlib.Core.List.{List, [], ◌∷◌, flat_map, Memᴰ}
use Prim.Native.Nat.{ℕ, ◌-◌}
use native.Mathlib.Omega.{arith}
use borrow.Author.Tests.{eqb-true, eqb-false, eq-eqb, not-true, not-false}
use lib.Dec.{eqb}
use lib.ListN.{length}
use Rattle.semigroups.specs.Lists.{range, elements, at, all, find, first_of, keep, member, earlier, lists}
use Rattle.semigroups.specs.ListsLaws.{Earliest}
use Rattle.semigroups.specs.Tables.{Product, product, Element, Filled, Accepted, is_element, associates, bad_cell}
use Rattle.semigroups.specs.TablesLaws.{Closed}
use Rattle.semigroups.specs.Questions.{Question, ask, seek, Refusal, first_no, cells_questions, table_refusal}
use Rattle.semigroups.specs.QuestionsLaws.{Refused, wrong_order, wrong_size, wrong_cell}
use Rattle.semigroups.specs.InnerQuestions.{no, cells_refusal}
use Rattle.semigroups.specs.QuestionsLaws as full
use Rattle.semigroups.specs.InnerGenerated.{Inside}
use Rattle.semigroups.specs.Generated.{set_of, products, grown, generated}
use Rattle.semigroups.specs.LightLaws.{Generates, AssociativeThrough, FailingThrough, GeneratorsRefused, wrong_cells, wrong_entry, not_generated, wrong_triple, GeneratorsPass, LightsLaw, LightsTheorem, EmptyRefused}
use Rattle.semigroups.specs.Light.{bad_triple_through, generators_refusal}
use Rattle.semigroups.specs.LightExamples.{LightsExamples}
use Rattle.semigroups.specs.Cases.{mat5}
use Rattle.semigroups.proofs.Booleans.{clash, untrue, both, and_left, and_right, not_of_false, impossible}
use Rattle.semigroups.proofs.Lists.{none_find, member_mem, mem_member, all_at, all_of, is_element_law, element_is}
use Rattle.semigroups.proofs.ListOrder.{mem_lists, find_earliest, find_nowhere, earliest_unique}
use Rattle.semigroups.proofs.Questions.{failed_before, passed_before}
use Rattle.semigroups.proofs.Tables.{triple_list, list_at, product_element, filled, no_cells_refusal, accepted, no_refusal_law, refused}
use Rattle.semigroups.proofs.Generated.{generated_smallest, all_generated}
use Rattle.semigroups.proofs.Cases.{worked}

-- ---- the theorem

-- j is an element, and every triple of elements with j in the middle associates.
abbrev GoodMiddle : ℕ → Product → ℕ → Type 0
GoodMiddle n s j = Element n j × ((i k : ℕ) → Element n i → Element n k → s (s i j) k ≡ s i (s j k))

-- The product of two good middles is one: (i(bc))k = ((ib)c)k = (ib)(ck) = i(b(ck)) = i((bc)k).
good_product : (n : ℕ) (s : Product) → Closed n s → (b c : ℕ) → GoodMiddle n s b → GoodMiddle n s c → GoodMiddle n s (s b c)
good_product n s closed b c p q = (
  closed b c p.0 q.0,
  λ i k hi hk.
      ap (λ (v : ℕ). s v k) (sym (p.1 i c hi q.0))
      ∙ q.1 (s i b) k (closed i b hi p.0) hk
      ∙ p.1 i (s c k) hi (closed c k q.0 hk)
      ∙ ap (s i) (sym (q.1 b k p.0 hk)),
)

pub lights_law : LightsLaw
lights_law n s l closed inside generates = (
  (λ h i j k hi m hk. h i j k hi (inside j m) hk),
  λ h i j k hi hj hk.
      ((generated_smallest n s l closed inside).inside_others (GoodMiddle n s)
      (record { holds_list = λ x m. (inside x m, λ i k hi hk. h i x k hi m hk); holds_products = good_product n s closed }) j (generates j hj)).1 i k hi hk,
)

-- ---- the first triple with its middle on the list

module _ (n : ℕ) (s : Product) (l : List ℕ) where
  -- `fine` says whether the triple associates, and `fails` whether it does not and has its middle on the list.
  abbrev fine : List ℕ → Bool
  fine t = associates s (at t 1) (at t 2) (at t 3)

  abbrev fails : List ℕ → Bool
  fails t = member (at t 2) l && not (fine t)

  associative_through : Inside n l → bad_triple_through n s l ≡ none → AssociativeThrough n s l
  unfolding bad_triple_through associates at
  associative_through inside e i j k hi m hk =
      eqb-true (s (s i j) k) (s i (s j k))
      (not-false (associates s i j k) (untrue (not (associates s i j k)) (λ t.
      clash {b = fails (i ∷ j ∷ k ∷ [])} (both (member j l) (not (associates s i j k)) (mem_member j l m) t) (find_nowhere fails 3 n e (i ∷ j ∷ k ∷ []) (triple_list n i j k hi (inside j m) hk)))))

  failing_of : (t : List ℕ) → fails t ≡ true → (s (s (at t 1) (at t 2)) (at t 3) ≡ s (at t 1) (s (at t 2) (at t 3)) → ⊥) × Memᴰ (at t 2) l
  unfolding associates
  failing_of t e = (
    eqb-false (s (s (at t 1) (at t 2)) (at t 3)) (s (at t 1) (s (at t 2) (at t 3))) (not-true (fine t) (and_right (member (at t 2) l) (not (fine t)) e)),
    member_mem (at t 2) l (and_left (member (at t 2) l) (not (fine t)) e),
  )

  fails_of : (t : List ℕ) → FailingThrough n s l t → fails t ≡ true
  unfolding associates
  fails_of t h =
      both (member (at t 2) l) (not (fine t)) (mem_member (at t 2) l h.middle)
      (not_of_false (fine t) (untrue (fine t) (λ e. h.failing.fails (eqb-true (s (s (at t 1) (at t 2)) (at t 3)) (s (at t 1) (s (at t 2) (at t 3))) e))))

  through_none : bad_triple_through n s l ≡ none → (t : List ℕ) → FailingThrough n s l t → s (s (at t 1) (at t 2)) (at t 3) ≡ s (at t 1) (s (at t 2) (at t 3))
  unfolding bad_triple_through
  through_none e t h = absurd (clash {b = fails t} (fails_of t h) (find_nowhere fails 3 n e t h.failing.triple))

  no_bad_through : AssociativeThrough n s l → bad_triple_through n s l ≡ none
  unfolding bad_triple_through
  no_bad_through h =
      none_find fails (lists 3 n)
      (λ t m.
      let w = list_at 3 n t (mem_lists 3 n t m) in
      untrue (fails t) (λ e. let f = failing_of t e in f.0 (h (at t 1) (at t 2) (at t 3) (w 1 (omega arith)) f.1 (w 3 (omega arith)))))

  bad_through_first : (t : List ℕ) → bad_triple_through n s l ≡ some t → Earliest (FailingThrough n s l) t
  unfolding bad_triple_through
  bad_through_first t e =
      let r = find_earliest fails 3 n t e in
      let f = failing_of t r.has.1 in
      record {
        has = record { failing = record { triple = r.has.0; fails = f.0 }; middle = f.1 };
        before_others = λ g h. r.before_others g (h.failing.triple, fails_of g h);
      }

  first_bad_through : (t : List ℕ) → Earliest (FailingThrough n s l) t → bad_triple_through n s l ≡ some t
  first_bad_through t h = go (bad_triple_through n s l) refl
    where
      go : (o : Option (List ℕ)) → bad_triple_through n s l ≡ o → bad_triple_through n s l ≡ some t
      go none e = absurd (h.has.failing.fails (through_none e t h.has))
      go (some g) e = e ∙ ap {B = Option (List ℕ)} some (earliest_unique (bad_through_first g e) h)

-- ---- what the shorter check answers

module _ (n : ℕ) (cells l : List ℕ) where
  abbrev s : Product
  s = product n cells

  inside_of : all (is_element n) l ≡ true → Inside n l
  inside_of e x m = is_element_law n x (all_at (is_element n) l e x m)

  all_inside : Inside n l → all (is_element n) l ≡ true
  all_inside h = all_of (is_element n) l (λ x m. element_is n x (h x m))

  generates_of : eqb (length (generated n s l)) n ≡ true → Generates n s l
  generates_of e = (all_generated n s l).0 (eqb-true (length (generated n s l)) n e)

  all_generates : Generates n s l → eqb (length (generated n s l)) n ≡ true
  all_generates h = eq-eqb (length (generated n s l)) n ((all_generated n s l).1 h)

  -- ---- each way out of the questions

  -- The questions after those about the cells.
  abbrev more : List Question
  more = ask 50 (all (is_element n) l) ∷ ask 51 (eqb (length (generated n s l)) n) ∷ seek 4 (bad_triple_through n s l) ∷ []

  pub cells_refused : (r : Refusal) → cells_refusal n cells ≡ some r → generators_refusal n cells l ≡ some r
  unfolding generators_refusal cells_refusal
  cells_refused r e = failed_before (cells_questions n cells) more e

  cells_passed : cells_refusal n cells ≡ none → generators_refusal n cells l ≡ first_no more
  unfolding generators_refusal cells_refusal
  cells_passed e = passed_before (cells_questions n cells) more e

  entry_refused : cells_refusal n cells ≡ none → all (is_element n) l ≡ false → generators_refusal n cells l ≡ some (no 50 [])
  unfolding first_of or_else
  entry_refused c e = cells_passed c ∙ rw e

  elements_refused : cells_refusal n cells ≡ none → all (is_element n) l ≡ true → eqb (length (generated n s l)) n ≡ false → generators_refusal n cells l ≡ some (no 51 [])
  unfolding first_of or_else
  elements_refused c e g = cells_passed c ∙ rw (e, g)

  triple_asked : (o : Option (List ℕ)) → cells_refusal n cells ≡ none → all (is_element n) l ≡ true → eqb (length (generated n s l)) n ≡ true → bad_triple_through n s l ≡ o
      → generators_refusal n cells l ≡ map (λ t. no 4 t) o
  unfolding first_of or_else
  triple_asked none c e g b = cells_passed c ∙ rw (e, g, b)
  triple_asked (some t) c e g b = cells_passed c ∙ rw (e, g, b)

  module _ (f : Filled n cells) where
    c : cells_refusal n cells ≡ none
    c = no_cells_refusal n cells f

    pub not_inside : (Inside n l → ⊥) → generators_refusal n cells l ≡ some (no 50 [])
    not_inside h = entry_refused c (untrue (all (is_element n) l) (λ e. h (inside_of e)))

    pub too_few : Inside n l → (Generates n s l → ⊥) → generators_refusal n cells l ≡ some (no 51 [])
    too_few i h = elements_refused c (all_inside i) (untrue (eqb (length (generated n s l)) n) (λ e. h (generates_of e)))

    pub triple_decides : Inside n l → Generates n s l → generators_refusal n cells l ≡ map (λ t. no 4 t) (bad_triple_through n s l)
    triple_decides i g = triple_asked (bad_triple_through n s l) c (all_inside i) (all_generates g) refl

  -- ---- what the answers mean

  -- How the questions went: the first one that fails, or that all pass.
  data Way : Type 0 where
    at_cells : (r : Refusal) → cells_refusal n cells ≡ some r → Way
    at_entries : Filled n cells → (Inside n l → ⊥) → Way
    at_elements : Filled n cells → Inside n l → (Generates n s l → ⊥) → Way
    at_triple : Filled n cells → Inside n l → Generates n s l → (t : List ℕ) → bad_triple_through n s l ≡ some t → Way
    to_end : Filled n cells → Inside n l → Generates n s l → bad_triple_through n s l ≡ none → Way

  way : Way
  way = by_cells (cells_refusal n cells) refl
    where
      by_triple : Filled n cells → Inside n l → Generates n s l → (o : Option (List ℕ)) → bad_triple_through n s l ≡ o → Way
      by_triple f i g none b = to_end f i g b
      by_triple f i g (some t) b = at_triple f i g t b

      by_elements : Filled n cells → Inside n l → (b : Bool) → eqb (length (generated n s l)) n ≡ b → Way
      by_elements f i true e = by_triple f i (generates_of e) (bad_triple_through n s l) refl
      by_elements f i false e = at_elements f i (λ g. clash (all_generates g) e)

      by_entries : Filled n cells → (b : Bool) → all (is_element n) l ≡ b → Way
      by_entries f true e = by_elements f (inside_of e) (eqb (length (generated n s l)) n) refl
      by_entries f false e = at_entries f (λ i. clash (all_inside i) e)

      by_cells : (o : Option Refusal) → cells_refusal n cells ≡ o → Way
      by_cells none e = by_entries (filled n cells e) (all (is_element n) l) refl
      by_cells (some r) e = at_cells r e

  refusal_meant : (r : Refusal) → generators_refusal n cells l ≡ some r → GeneratorsRefused n cells l r
  refusal_meant r e = go way
    where
      same : (q : Refusal) → generators_refusal n cells l ≡ some q → q ≡ r
      same q g = cc

      go : Way → GeneratorsRefused n cells l r
      go (at_cells q c) = subst (GeneratorsRefused n cells l) (same q (cells_refused q c)) (wrong_cells q c)
      go (at_entries f h) = subst (GeneratorsRefused n cells l) (same (no 50 []) (not_inside f h)) (wrong_entry f h)
      go (at_elements f i h) = subst (GeneratorsRefused n cells l) (same (no 51 []) (too_few f i h)) (not_generated f i h)
      go (at_triple f i g t b) =
          subst (GeneratorsRefused n cells l) (same (no 4 t) (triple_decides f i g ∙ ap (map (λ t. no 4 t)) b)) (wrong_triple t f i g (bad_through_first n s l t b))
      go (to_end f i g b) = let q = triple_decides f i g ∙ ap (map (λ t. no 4 t)) b in impossible (cc)

  refusal_said_law : (r : Refusal) → GeneratorsRefused n cells l r → generators_refusal n cells l ≡ some r
  refusal_said_law r (wrong_cells q c) = cells_refused q c
  refusal_said_law r (wrong_entry f h) = not_inside f h
  refusal_said_law r (not_generated f i h) = too_few f i h
  refusal_said_law r (wrong_triple t f i g h) = triple_decides f i g ∙ ap (map (λ t. no 4 t)) (first_bad_through n s l t h)

  -- A refusal is that of the earliest failed question, with the earliest triple; and where a question fails so, it is the refusal.
  pub generators_refused : (r : Refusal) → (generators_refusal n cells l ≡ some r) ↔ GeneratorsRefused n cells l r
  generators_refused r = (refusal_meant r, refusal_said_law r)

  module _ (f : Filled n cells) (inside : Inside n l) (generates : Generates n s l) where
    closed : Closed n s
    closed = product_element n cells f.size f.in_range

    whole : AssociativeThrough n s l → Accepted n cells
    whole h = record { filled = f; associative = (lights_law n s l closed inside generates).1 h }

    accepts : (generators_refusal n cells l ≡ none) ↔ (table_refusal n cells ≡ none)
    accepts = (
      (λ e. no_refusal_law n cells (whole (associative_through n s l inside ((map-eq-none_iff (λ t. no 4 t) (bad_triple_through n s l)).0 (sym (triple_decides f inside generates) ∙ e))))),
      λ e. triple_decides f inside generates ∙ ap (map (λ t. no 4 t)) (no_bad_through n s l ((lights_law n s l closed inside generates).0 (accepted n cells e).associative)),
    )

    refuses_later : (t : List ℕ) → generators_refusal n cells l ≡ some (no 4 t) → (u : List ℕ) × (table_refusal n cells ≡ some (no 4 u)) × ((t ≡ u) ⊎ (earlier u t ≡ true))
    refuses_later t e = by_table (table_refusal n cells) refl
      where
        first : (o : Option (List ℕ)) → bad_triple_through n s l ≡ o → map (λ t. no 4 t) o ≡ some (no 4 t) → FailingThrough n s l t
        first none b q = absurd (none-ne-some (no 4 t) q)
        first (some u) b q =
            let same : no 4 u ≡ no 4 t = cc in
            subst (FailingThrough n s l) (ap (λ (r : Refusal). r.values) same) (bad_through_first n s l u b).has

        failing : FailingThrough n s l t
        failing = first (bad_triple_through n s l) refl (sym (triple_decides f inside generates) ∙ e)

        by_refusal : (r : Refusal) → table_refusal n cells ≡ some r → Refused n cells r → (u : List ℕ) × (table_refusal n cells ≡ some (no 4 u)) × ((t ≡ u) ⊎ (earlier u t ≡ true))
        by_refusal r q (wrong_order h) = absurd (h f.order)
        by_refusal r q (wrong_size o h) = absurd (h f.size)
        by_refusal r q (wrong_cell k o z u h b) = absurd (h (unfold at in f.in_range (k - 1) (omega arith)))
        by_refusal r q (full.wrong_triple u o z i h) = (u, q, h.before_others t failing.failing)

        by_table : (o : Option Refusal) → table_refusal n cells ≡ o → (u : List ℕ) × (table_refusal n cells ≡ some (no 4 u)) × ((t ≡ u) ⊎ (earlier u t ≡ true))
        by_table none q = absurd (none-ne-some (no 4 t) (sym (accepts.1 q) ∙ e))
        by_table (some r) q = by_refusal r q ((refused n cells r).0 q)

pub lights_theorem : LightsTheorem
lights_theorem n cells l f i g = record { accepts = accepts n cells l f i g; refuses_later = refuses_later n cells l f i g }

pub generators_pass : (n : ℕ) (cells l : List ℕ) → (generators_refusal n cells l ≡ none) ↔ GeneratorsPass n cells l
generators_pass n cells l = (
  (λ e. go e (way n cells l)),
  λ a. (lights_theorem n cells l a.table.filled a.inside a.generates).accepts.1 (no_refusal_law n cells a.table),
)
  where
    clashes : (r : Refusal) → generators_refusal n cells l ≡ none → generators_refusal n cells l ≡ some r → ⊥
    clashes r e q = none-ne-some r (sym e ∙ q)

    go : generators_refusal n cells l ≡ none → Way n cells l → GeneratorsPass n cells l
    go e (at_cells r c) = absurd (clashes r e (cells_refused n cells l r c))
    go e (at_entries f h) = absurd (clashes (no 50 []) e (not_inside n cells l f h))
    go e (at_elements f i h) = absurd (clashes (no 51 []) e (too_few n cells l f i h))
    go e (at_triple f i g t b) = absurd (clashes (no 4 t) e (triple_decides n cells l f i g ∙ ap (map (λ t. no 4 t)) b))
    go e (to_end f i g b) = record { table = accepted n cells ((lights_theorem n cells l f i g).accepts.0 e); inside = i; generates = g }

-- ---- an empty list

-- What an empty list generates has no member, and every table has element 1.
pub empty_refused : EmptyRefused
empty_refused n cells f = too_few n cells [] f inside (λ g. nothing 1 (g 1 (omega arith, f.order.0)))
  where
    inside : Inside n []
    inside x m = absurd (Memᴰ.not-nil m)

    nothing : (x : ℕ) → Memᴰ x (generated n (product n cells) []) → ⊥
    nothing =
        (generated_smallest n (product n cells) [] (product_element n cells f.size f.in_range) inside).inside_others (λ x. ⊥)
        (record { holds_list = λ x m. Memᴰ.not-nil m; holds_products = λ x y p q. p })

-- ---- examples

-- An instance: mat5 with an empty list.
mat5_empty : generators_refusal 5 mat5.cells [] ≡ some (no 51 [])
mat5_empty = empty_refused 5 mat5.cells (worked.accepted mat5 (Memᴰ.tail (Memᴰ.tail (Memᴰ.tail (Memᴰ.tail (Memᴰ.tail (Memᴰ.tail (Memᴰ.head refl)))))))).filled

pub lights_examples : LightsExamples
unfolding generators_refusal first_of or_else is_element bad_cell bad_triple_through generated grown set_of products associates product lists elements range at all find keep member flat_map
lights_examples = (refl, refl, refl, refl, refl, refl)
