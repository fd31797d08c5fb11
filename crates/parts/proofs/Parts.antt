-- The table of a part as the code writes it: the marked elements in rising order, their numbers, and what each way out of the questions says.
-- Assumes nothing.
use mathlib.Core.Path.{◌≡◌, refl, sym, ap, ap₂, ◌∙◌, subst}
use mathlib.Core.Bool.{Bool, true, false, cond}
use mathlib.Core.Logic.{◌⊎◌, inl, inr}
use mathlib.Core.Option.{none, some}
use mathlib.Core.List.{List, [], ◌∷◌, ◌++◌, Memᴰ}
use Prim.Native.Nat.{ℕ, zero, suc, ◌+◌, ◌-◌, ◌*◌, ◌≤◌, ◌<◌}
use native.Mathlib.Nat.{add-sub_cancel}
use native.Mathlib.Numerals.{add-one}
use native.Mathlib.Omega.{arith}
use borrow.Author.Tests.{eq-eqb, ne_eqb}
use lib.Dec.{eqb}
use lib.ListN.{length, take, drop, get_or, set, replicate, length-map, length-set, length-drop, length-append}
use lib.Seq.{ext_get_or, get_or-set_same, get_or-set_other, take-suc, take_at, get_or-drop, drop-drop, length-take-le}
use Rattle.semigroups.specs.Lists.{range, elements, at, keep, member}
use Rattle.semigroups.specs.InnerLists.{NoRepeats}
use Rattle.semigroups.specs.Tables.{Product, product, Element, Accepted, grid}
use Rattle.semigroups.specs.Questions.{Refusal, table_refusal}
use Rattle.semigroups.specs.InnerQuestions.{no}
use Rattle.semigroups.specs.Calls.{Answer, refused, gives, overwritten}
use Rattle.semigroups.specs.InnerGenerated.{Inside}
use Rattle.semigroups.specs.Generated.{set_of, generated}
use Rattle.semigroups.specs.Subsemigroups.{number_in, renumbered, part_cells, subsemigroup_refusal}
use Rattle.semigroups.specs.SubsemigroupsLaws.{SubsemigroupPasses}
use Rattle.semigroups.proofs.Booleans.{either, equal_or_not}
use Rattle.semigroups.proofs.Lists.{length_range, get_d_range, get_d_map, length_elements, mem_elements, elements_mem, at_front, at_seam, length_snoc, member_mem, mem_member, not_member, unmember, mem_take, keep_agree}
use Rattle.semigroups.proofs.NoRepeats.{length_inside, place_mem}
use Rattle.semigroups.proofs.Tables.{length_grid, accepted, accepted_closed}
use Rattle.semigroups.proofs.Generated.{generated_inside, generated_no_repeats, generated_closed, generated_set}
use Rattle.semigroups.proofs.Subsemigroups.{number_at, at_number, cells_short, elements_short, subsemigroup_passes}
use Rattle.semigroups.proofs.Writing.{written, written_none, written_all, length_written, write_next}
use Rattle.light.specs.InnerFound.{indicator}
use Rattle.parts.specs.InnerParts.{marked_elements, numbering, ClosedPart}
use Rattle.calls.specs.Subsemigroups.{subsemigroup_says, part_after, elements_after}
use Rattle.parts.specs.CallsLaws.{SubsemigroupKeeps}
use Rattle.light.proofs.Indicators.{indicator_at}

-- ---- the marked elements, written one by one

module _ (n : ℕ) (marks b : List ℕ) where
  -- The marked elements from x on.
  unfoldable pub marked_from : ℕ → List ℕ
  marked_from x = keep (λ x. eqb (get_or marks x 0) 1) (range x (n + 1 - x))

  from_one : marked_elements n marks ≡ marked_from 1
  unfolding marked_elements marked_from elements
  from_one = ap (λ (k : ℕ). keep (λ x. eqb (get_or marks x 0) 1) (range 1 k)) (sym (add-sub_cancel n 1))

  from_step : (x : ℕ) → x ≤ n → marked_from x ≡ cond (eqb (get_or marks x 0) 1) (x ∷ marked_from (x + 1)) (marked_from (x + 1))
  unfolding marked_from keep range
  from_step x h =
      let p : ℕ → Bool = λ x. eqb (get_or marks x 0) 1 in
      let e : n + 1 - x ≡ suc (n + 1 - (x + 1)) = omega arith in
      ap (λ (k : ℕ). keep p (range x k)) e
      ∙ ap {B = List ℕ} (λ (y : ℕ). cond (p x) (x ∷ keep p (range y (n + 1 - (x + 1)))) (keep p (range y (n + 1 - (x + 1))))) (sym (add-one x))

  from_end : (x : ℕ) → n < x → marked_from x ≡ []
  unfolding marked_from keep range
  from_end x h = ap (λ (k : ℕ). keep (λ x. eqb (get_or marks x 0) 1) (range x k)) (let e : n + 1 - x ≡ 0 = omega arith in e)

  -- The marked elements before x stand in the buffer, which was b at first, up to `place`; those from x on are left.
  pub record AtElement (x place : ℕ) (buffer : List ℕ) : Type 0 where
    pub from_first : 1 ≤ x
    pub inside : place ≤ length (marked_elements n marks)
    pub left : drop place (marked_elements n marks) ≡ marked_from x
    pub so_far : buffer ≡ written (marked_elements n marks) b place

  pub elements_begin : AtElement 1 0 b
  elements_begin = record { from_first = omega arith; inside = omega arith; left = from_one; so_far = sym (written_none (marked_elements n marks) b) }

  module _ {x place : ℕ} {buffer : List ℕ} (a : AtElement x place buffer) where
    pub elements_length : length (marked_elements n marks) ≤ length b → length buffer ≡ length b
    elements_length room = let h = a.inside in ap length a.so_far ∙ length_written (marked_elements n marks) b place h (omega arith)

    module _ (h : x ≤ n) where
      pub element_skipped : (get_or marks x 0 ≡ 1 → ⊥) → AtElement (x + 1) place buffer
      element_skipped e =
          record {
            from_first = omega arith;
            inside = a.inside;
            left = a.left ∙ from_step x h ∙ ap {B = List ℕ} (λ (t : Bool). cond t (x ∷ marked_from (x + 1)) (marked_from (x + 1))) (ne_eqb (get_or marks x 0) 1 e);
            so_far = a.so_far;
          }

      module _ (e : get_or marks x 0 ≡ 1) where
        next : drop place (marked_elements n marks) ≡ x ∷ marked_from (x + 1)
        next = a.left ∙ from_step x h ∙ ap {B = List ℕ} (λ (t : Bool). cond t (x ∷ marked_from (x + 1)) (marked_from (x + 1))) (eq-eqb (get_or marks x 0) 1 e)

        pub element_room : place < length (marked_elements n marks)
        element_room = let l = ap length next in omega (arith, length-drop place (marked_elements n marks))

        pub element_written : length (marked_elements n marks) ≤ length b → AtElement (x + 1) (place + 1) (set buffer place x)
        element_written room =
            let r = element_room in
            let here : x ≡ get_or (marked_elements n marks) place 0 =
            sym (ap (λ (l : List ℕ). get_or l 0 0) next) ∙ get_or-drop place (marked_elements n marks) 0 0 ∙ ap (λ (k : ℕ). get_or (marked_elements n marks) k 0) (let z : place + 0 ≡ place = omega arith in z) in
            record {
              from_first = omega arith;
              inside = omega arith;
              left = sym (drop-drop 1 place (marked_elements n marks)) ∙ ap (drop 1) next;
              so_far = ap (λ (l : List ℕ). set l place x) a.so_far ∙ write_next (marked_elements n marks) b place x r (omega arith) here;
            }

    pub elements_end : n < x → buffer ≡ overwritten (marked_elements n marks) b
    elements_end h =
        let e : place ≡ length (marked_elements n marks) = let l = ap length (a.left ∙ from_end x h) in let i = a.inside in omega (arith, length-drop place (marked_elements n marks)) in
        a.so_far ∙ written_all (marked_elements n marks) b place e ∙ ap (λ (k : ℕ). marked_elements n marks ++ drop k b) e

-- The marks of a list mark its set.
marked_set : (n : ℕ) (r : List ℕ) → n ≤ 120 → marked_elements n (indicator r) ≡ set_of n r
unfolding marked_elements set_of
marked_set n r h =
    keep_agree (λ x. eqb (get_or (indicator r) x 0) 1) (λ x. member x r) (elements n)
    (λ x m. let u = mem_elements n x m in ap (λ (k : ℕ). eqb k 1) (indicator_at r x (omega arith)) ∙ test (member x r))
  where
    test : (b : Bool) → eqb (cond b 1 0) 1 ≡ b
    test true = eq-eqb 1 1 refl
    test false = ne_eqb 0 1 (λ e. let z : ⊥ = omega arith in z)

pub marked_generated : (n : ℕ) (s : Product) (l marks : List ℕ) → n ≤ 120 → marks ≡ indicator (generated n s l) → marked_elements n marks ≡ generated n s l
marked_generated n s l marks h e = ap (marked_elements n) e ∙ marked_set n (generated n s l) h ∙ generated_set n s l

-- ---- numbers

no_repeats_take : (k : ℕ) (l : List ℕ) → NoRepeats l → NoRepeats (take k l)
no_repeats_take zero l u = tt
no_repeats_take (suc k) [] u = tt
no_repeats_take (suc k) (x ∷ l) u = ((λ y m. u.0 y (mem_take k l y m)), no_repeats_take k l u.1)

length_numbering : (e : List ℕ) → length (numbering e) ≡ 121
unfolding numbering
length_numbering e = length-map (range 0 121) (λ x. cond (member x e) (number_in e x) 0) ∙ length_range 0 121

pub numbering_nil : replicate 121 0 ≡ numbering []
unfolding numbering range member
numbering_nil = refl

numbering_at : (e : List ℕ) (x : ℕ) → x ≤ 120 → get_or (numbering e) x 0 ≡ cond (member x e) (number_in e x) 0
unfolding numbering
numbering_at e x h =
    get_d_map (λ x. cond (member x e) (number_in e x) 0) (range 0 121) 0 x (omega (arith, length_range 0 121))
    ∙ ap (λ (y : ℕ). cond (member y e) (number_in e y) 0) (get_d_range 0 121 x (omega arith) ∙ (let z : 0 + x ≡ x = omega arith in z))

pub numbering_mem : (e : List ℕ) (x : ℕ) → x ≤ 120 → Memᴰ x e → get_or (numbering e) x 0 ≡ number_in e x
numbering_mem e x h m = numbering_at e x h ∙ ap {B = ℕ} (λ (b : Bool). cond b (number_in e x) 0) (mem_member x e m)

-- The numbering of a list with one more entry.
module _ (e : List ℕ) (x : ℕ) (u : NoRepeats (e ++ x ∷ [])) where
  abbrev more : List ℕ
  more = e ++ x ∷ []

  last_number : number_in more x ≡ length e + 1
  last_number =
      let here : at more (length e + 1) ≡ x = at_seam e x [] (length e + 1) (omega arith) in
      ap (number_in more) (sym here) ∙ at_number more u (length e + 1) (let z : Element (length more) (length e + 1) = omega (arith, length_snoc e x) in z)

  same_number : (y : ℕ) → Memᴰ y e → number_in more y ≡ number_in e y
  same_number y m =
      let r = number_at e y m in
      let h = r.0 in
      let here : at more (number_in e y) ≡ y = at_front e (x ∷ []) (number_in e y) h ∙ r.1 in
      ap (number_in more) (sym here) ∙ at_number more u (number_in e y) (let z : Element (length more) (number_in e y) = omega (arith, length_snoc e x) in z)

  numbering_set : x ≤ 120 → set (numbering e) x (length e + 1) ≡ numbering more
  numbering_set h =
      ext_get_or 0 (set (numbering e) x (length e + 1)) (numbering more) (simp length-set (length_numbering e ∙ sym (length_numbering more)))
      (λ y v. let small : y ≤ 120 = omega (arith, length_numbering e, length-set (numbering e) x (length e + 1)) in entry y small (equal_or_not y x) (either (member y e)))
    where
      absent : (y : ℕ) → (y ≡ x → ⊥) → member y e ≡ false → Memᴰ y e ⊎ Memᴰ y (x ∷ []) → ⊥
      absent y ne q (inl m) = not_member y e q m
      absent y ne q (inr m) = ne (mathlib.Core.List.Memᴰ.eq_of_singleton m)

      entry : (y : ℕ) → y ≤ 120 → (y ≡ x) ⊎ (y ≡ x → ⊥) → (member y e ≡ true) ⊎ (member y e ≡ false) → get_or (set (numbering e) x (length e + 1)) y 0 ≡ get_or (numbering more) y 0
      entry y small (inl q) d =
          ap (λ (z : ℕ). get_or (set (numbering e) x (length e + 1)) z 0) q ∙ get_or-set_same (numbering e) x (length e + 1) 0 (omega (arith, length_numbering e))
          ∙ sym (numbering_mem more y small (mathlib.Core.List.Memᴰ.append_right e (mathlib.Core.List.Memᴰ.head q)) ∙ ap (number_in more) q ∙ last_number)
      entry y small (inr ne) (inl q) =
          let m = member_mem y e q in
          get_or-set_other (numbering e) x y (length e + 1) 0 ne ∙ numbering_mem e y small m ∙ sym (numbering_mem more y small (mathlib.Core.List.Memᴰ.append_left (x ∷ []) m) ∙ same_number y m)
      entry y small (inr ne) (inr q) =
          let q' = unmember y more (λ m. absent y ne q (mathlib.Core.List.Memᴰ.append_cases e m)) in
          get_or-set_other (numbering e) x y (length e + 1) 0 ne ∙ numbering_at e y small ∙ ap {B = ℕ} (λ (b : Bool). cond b (number_in e y) 0) q
          ∙ sym (numbering_at more y small ∙ ap {B = ℕ} (λ (b : Bool). cond b (number_in more y) 0) q')

-- There are no more than n different entries from 1 to n.
few : (n : ℕ) (e : List ℕ) → Inside n e → NoRepeats e → length e ≤ n
few n e inside u = let b = length_inside e (elements n) u (λ x m. elements_mem n x (inside x m)) in omega (arith, length_elements n)

-- The loop over the elements, once i of them have their numbers.
module _ (l : List ℕ) (inside : Inside 120 l) where
  pub entry_small : (i : ℕ) → i < length l → get_or l i 0 ≤ 120
  entry_small i h = (inside (get_or l i 0) (place_mem 0 l i h)).1

  pub numbers_few : NoRepeats l → length l ≤ 120
  numbers_few u = few 120 l inside u

  pub numbers_next : NoRepeats l → (i : ℕ) (numbers : List ℕ) → i < length l → numbers ≡ numbering (take i l) → set numbers (get_or l i 0) (i + 1) ≡ numbering (take (i + 1) l)
  numbers_next u i numbers h e =
      let x = get_or l i 0 in
      let long = length-take-le i l (omega arith) in
      let longer : take (i + 1) l ≡ take i l ++ x ∷ [] = ap (λ (j : ℕ). take j l) (add-one i) ∙ take-suc l i 0 (omega arith) in
      let apart : NoRepeats (take i l ++ x ∷ []) = subst (λ (m : List ℕ). NoRepeats m) longer (no_repeats_take (i + 1) l u) in
      ap (λ (m : List ℕ). set m x (i + 1)) e ∙ ap (λ (j : ℕ). set (numbering (take i l)) x (j + 1)) (sym long) ∙ numbering_set (take i l) x apart (entry_small i h)
      ∙ ap numbering (sym longer)

-- ---- the cells

module _ (n : ℕ) (s : Product) (l : List ℕ) (P : ClosedPart n s l) where
  entry_at : (i : ℕ) → at l (i + 1) ≡ get_or l i 0
  unfolding at
  entry_at i = ap (λ (k : ℕ). get_or l k 0) (add-sub_cancel i 1)

  pub entry_element : (i : ℕ) → i < length l → Element n (get_or l i 0)
  entry_element i h = P.inside (get_or l i 0) (place_mem 0 l i h)

  -- What the code looks up for row i, column j, both counted from 0, is the cell of the part.
  pub cell_number : (i j z : ℕ) (numbers : List ℕ) → n ≤ 120 → i < length l → j < length l → z ≡ s (get_or l i 0) (get_or l j 0) → numbers ≡ numbering l → get_or numbers z 0 ≡ renumbered s l (i + 1) (j + 1)
  unfolding renumbered
  cell_number i j z numbers small hi hj e q =
      let m : Memᴰ z l = subst (λ (x : ℕ). Memᴰ x l) (sym e) (P.closed (get_or l i 0) (get_or l j 0) (place_mem 0 l i hi) (place_mem 0 l j hj)) in
      let h = P.inside z m in
      ap (λ (m : List ℕ). get_or m z 0) q ∙ numbering_mem l z (omega arith) m
      ∙ ap (number_in l) (e ∙ ap₂ s (sym (entry_at i)) (sym (entry_at j)))

  pub part_few : length l ≤ n
  part_few = few n l P.inside P.no_repeats

  pub part_written : (b : List ℕ) → grid (length l) (length l) (renumbered s l) ++ drop (length l * length l) b ≡ overwritten (part_cells s l) b
  unfolding part_cells
  part_written b = ap (λ (m : ℕ). grid (length l) (length l) (renumbered s l) ++ drop m b) (sym (length_grid (length l) (length l) (renumbered s l)))

-- What an accepted table's list generates is such a part.
module _ (n : ℕ) (cells l : List ℕ) (a : Accepted n cells) where
  generated_part : ClosedPart n (product n cells) (generated n (product n cells) l)
  generated_part =
      record {
        inside = generated_inside n (product n cells) l;
        no_repeats = generated_no_repeats n (product n cells) l;
        closed = generated_closed n (product n cells) l (accepted_closed n cells a);
      }

  pub order_small : length (generated n (product n cells) l) ≤ 120
  order_small = let t = a.filled.order.1 in let h = few n (generated n (product n cells) l) generated_part.inside generated_part.no_repeats in omega arith

-- ---- what each way out of the questions says, of the answer and of both buffers

-- The call with buffers p and q answers a, and leaves the buffers p' and q'.
abbrev pub Says : (n : ℕ) (cells l p q : List ℕ) (a : Answer ℕ) (p' q' : List ℕ) → Type 0
Says n cells l p q a p' q' =
    record {
      answer : a ≡ subsemigroup_says n cells l (length p) (length q);
      part : p' ≡ part_after n cells l p (length q);
      elements : q' ≡ elements_after n cells l (length p) q;
    }

module _ (n : ℕ) (cells l part listing : List ℕ) where
  abbrev Refused : Refusal → Type 0
  Refused r = Says n cells l part listing (refused r) part listing

  pub kept : (r : Refusal) → subsemigroup_refusal n cells l (length part) (length listing) ≡ some r → Refused r
  unfolding subsemigroup_says part_after elements_after
  kept r e = record { answer = rw e; part = rw e; elements = rw e }

  -- What is known if the table's four questions and 60 have passed, where k is the part's order.
  module _ (t : table_refusal n cells ≡ none) (one : 1 ≤ length l) (inside : Inside n l) (k : ℕ) (e : k ≡ length (generated n (product n cells) l)) where
    pub short_cells : length part < k * k → Refused (no 61 [])
    short_cells h = kept (no 61 []) (cells_short n cells l (length part) (length listing) t one inside (subst (λ (m : ℕ). length part < m * m) e h))

    pub short_elements : k * k ≤ length part → length listing < k → Refused (no 62 [])
    short_elements c h = kept (no 62 []) (elements_short n cells l (length part) (length listing) t one inside (subst (λ (m : ℕ). m * m ≤ length part) e c) (omega arith))

pub subsemigroup_keeps : SubsemigroupKeeps
subsemigroup_keeps n cells l part listing r e = let k = kept n cells l part listing r e in (sym k.part, sym k.elements)

-- Every question has passed; k is the part's order, and `marks` marks its elements.
pub record Ready (n : ℕ) (cells l part listing : List ℕ) (k : ℕ) (marks : List ℕ) : Type 0 where
  pub passes : SubsemigroupPasses n cells l (length part) (length listing)
  pub order : k ≡ length (generated n (product n cells) l)
  pub marked : marks ≡ indicator (generated n (product n cells) l)

pub ready : {n : ℕ} {cells l part listing : List ℕ} {k : ℕ} {marks : List ℕ} → none ≡ table_refusal n cells → 1 ≤ length l → Inside n l → k * k ≤ length part → k ≤ length listing → marks ≡ indicator (generated n (product n cells) l)
    → k ≡ length (generated n (product n cells) l) → Ready n cells l part listing k marks
ready {part} {listing} t one inside cells_room elements_room marked order =
    record {
      passes = record {
        table = accepted _ _ (sym t);
        one = one;
        inside = inside;
        cells_room = subst (λ (k : ℕ). k * k ≤ length part) order cells_room;
        elements_room = subst (λ (k : ℕ). k ≤ length listing) order elements_room;
      };
      order = order;
      marked = marked;
    }

-- The marked elements are written, and then their table.
module _ {n : ℕ} {cells l part listing : List ℕ} {k : ℕ} {marks : List ℕ} (p : Ready n cells l part listing k marks) where
  abbrev these : List ℕ
  these = generated n (product n cells) l

  none_failed : subsemigroup_refusal n cells l (length part) (length listing) ≡ none
  none_failed = (subsemigroup_passes n cells l (length part) (length listing)).1 p.passes

  marked_these : marked_elements n marks ≡ these
  marked_these = marked_generated n (product n cells) l marks p.passes.table.filled.order.1 p.marked

  pub marked_room : length (marked_elements n marks) ≤ length listing
  marked_room = let z = ap length marked_these in let h = p.passes.elements_room in omega arith

  module _ {after : List ℕ} (w : after ≡ overwritten (marked_elements n marks) listing) where
    listed_after : after ≡ overwritten these listing
    listed_after = w ∙ ap (λ (m : List ℕ). overwritten m listing) marked_these

    taken_after : take k after ≡ these
    taken_after = ap (take k) listed_after ∙ take_at these (drop (length these) listing) k (sym p.order)

    pub after_room : k ≤ length after
    after_room = let e = p.order in omega (arith, ap length listed_after, length-append these (drop (length these) listing))

    pub after_part : ClosedPart n (product n cells) (take k after)
    after_part = subst (ClosedPart n (product n cells)) (sym taken_after) (generated_part n cells l p.passes.table)

    pub given : {cells' : List ℕ} → cells' ≡ overwritten (part_cells (product n cells) (take k after)) part → Says n cells l part listing (gives k) cells' after
    unfolding subsemigroup_says part_after elements_after
    given {cells'} q =
        let whole : cells' ≡ overwritten (part_cells (product n cells) these) part = q ∙ ap (λ (m : List ℕ). overwritten (part_cells (product n cells) m) part) taken_after in
        record { answer = rw (none_failed, p.order); part = rw none_failed whole; elements = rw none_failed listed_after }
