-- The list in which the products come last has each element once, so it is an isomorphism of the renamed table onto the old one, and the renamed table is
-- accepted if the old one is. Assumes nothing.
use mathlib.Core.Path.{◌≡◌, refl, sym, ap, ◌∙◌, subst}
use mathlib.Core.Bool.{Bool, true, false, not, cond}
use mathlib.Core.Logic.{⊎_elim}
use mathlib.Core.List.Memᴰ
use mathlib.Core.List.{List, [], ◌∷◌, ◌++◌, append-nil, Memᴰ}
use Prim.Native.Nat.{ℕ, ◌+◌, ◌-◌, ◌*◌, ◌≤◌}
use native.Mathlib.Nat.{add_comm}
use native.Mathlib.Numerals.{add-one}
use native.Mathlib.Omega.{arith}
use borrow.Author.Tests.{eq-eqb, ne_eqb}
use lib.Dec.{eqb}
use lib.ListN.{length, take, drop, get_or}
use lib.Seq.{take_at, take_all}
use Rattle.semigroups.specs.Lists.{range, elements, keep, sum, count, member}
use Rattle.semigroups.specs.InnerLists.{NoRepeats}
use Rattle.semigroups.specs.Tables.{Product, product, Element, Filled, Accepted}
use Rattle.semigroups.specs.Calls.{overwritten}
use Rattle.semigroups.specs.InnerMaps.{Embedding}
use Rattle.semigroups.specs.InnerGenerated.{Inside}
use Rattle.semigroups.specs.Invariants.{frequency}
use Rattle.semigroups.specs.Subsemigroups.{part_cells}
use Rattle.semigroups.proofs.Booleans.{either, unfalse, not_of_true, not_of_false, equal_or_not}
use Rattle.semigroups.proofs.Lists.{range_snoc, length_elements, elements_mem, mem_elements, mem_keep, keep_mem, sorted_keep, member_mem, not_member, unmember}
use Rattle.semigroups.proofs.NoRepeats.{mem_place, elements_no_repeats, sum_inside}
use Rattle.semigroups.proofs.Tables.{filled_closed}
use Rattle.semigroups.proofs.Frequencies.{frequency_cells}
use Rattle.semigroups.proofs.Generated.{same_length}
use Rattle.semigroups.proofs.Subsemigroups.{part_accepted, part_embeds}
use Rattle.semigroups.proofs.Copies.{count_zero}
use Rattle.products.specs.InnerPerElement.{per_element}
use Rattle.products.proofs.PerElement.{per_element_at}
use Rattle.light.specs.InnerFound.{adding, adding_all, Found}
use Rattle.light.proofs.Found.{adding_new, mem_all, all_keeps, all_holds, found_kept, found_added}
use Rattle.parts.specs.InnerParts.{ClosedPart}
use Rattle.renaming.specs.InnerRenaming.{non_products, products_last, renamed_cells}

-- Some arrays hold the list as found elements.
abbrev Holds : List ℕ → Type 0
Holds r = (found : List ℕ) × (marks : List ℕ) × (count : ℕ) × Found r found marks count

added_once : (r l : List ℕ) → Inside 120 l → Holds r → Holds (adding_all r l)
unfolding adding_all
added_once r [] inside f = f
added_once r (x ∷ l) inside f =
    let h = inside x (Memᴰ.head refl) in
    added_once (adding r x) l (λ y k. inside y (Memᴰ.tail k)) (⊎_elim (λ e. (_, _, _, found_added f.3 x h e)) (λ e. (_, _, _, found_kept f.3 x h e)) (equal_or_not (get_or f.1 x 0) 0))

-- ---- the elements that are no product

keep_last : (p : ℕ → Bool) (l : List ℕ) (x : ℕ) → keep p (l ++ x ∷ []) ≡ keep p l ++ cond (p x) (x ∷ []) []
unfolding keep
keep_last p [] x = refl
keep_last p (y ∷ l) x =
    elim (p y) as (λ b. cond b (y ∷ keep p (l ++ x ∷ [])) (keep p (l ++ x ∷ [])) ≡ cond b (y ∷ keep p l) (keep p l) ++ cond (p x) (x ∷ []) [])
    [ true ↦ ap (λ (r : List ℕ). y ∷ r) (keep_last p l x) | false ↦ keep_last p l x ]

occurs_once : (x : ℕ) (l : List ℕ) → Memᴰ x l → 1 ≤ count (λ y. eqb y x) l
unfolding count sum
occurs_once x l k =
    let h = sum_inside (λ y. cond (eqb y x) 1 0) (x ∷ []) l ((λ y m. absurd (Memᴰ.not-nil m)), tt) (λ y m. Memᴰ.cast (Memᴰ.eq_of_singleton m) k) in
    omega (arith, ap {B = ℕ} (λ (b : Bool). cond b 1 0) (eq-eqb x x refl))

module _ (cells : List ℕ) where
  abbrev missing : ℕ → Bool
  missing x = not (member x cells)

  pub none_passed : [] ≡ non_products 0 cells
  unfolding non_products elements range keep
  none_passed = refl

  one_passed : (x : ℕ) (b : Bool) → missing (x + 1) ≡ b → non_products (x + 1) cells ≡ non_products x cells ++ cond b ((x + 1) ∷ []) []
  unfolding non_products elements
  one_passed x b e =
      ap (λ (k : ℕ). keep missing (range 1 k)) (add-one x) ∙ ap (keep missing) (range_snoc 1 x ∙ ap (λ (y : ℕ). range 1 x ++ y ∷ []) (add_comm 1 x))
      ∙ keep_last missing (range 1 x) (x + 1) ∙ ap (λ (m : Bool). keep missing (range 1 x) ++ cond m ((x + 1) ∷ []) []) e

  non_product : (n x : ℕ) → Memᴰ x (non_products n cells) → Element n x
  unfolding non_products
  non_product n x k = mem_elements n x (mem_keep missing (elements n) x k).0

  non_products_once : (n : ℕ) → NoRepeats (non_products n cells)
  unfolding non_products
  non_products_once n = sorted_keep (λ (x y : ℕ). x ≡ y → ⊥) missing (elements n) (elements_no_repeats n)

  missing_kept : (n x : ℕ) → Element n x → member x cells ≡ false → Memᴰ x (non_products n cells)
  unfolding non_products
  missing_kept n x h e = keep_mem missing (elements n) x (elements_mem n x h) (not_of_false (member x cells) e)

module _ (n : ℕ) (cells : List ℕ) (F : Filled n cells) where
  abbrev s : Product
  s = product n cells

  abbrev list : List ℕ
  list = products_last n cells

  wide : (x : ℕ) → Element n x → Element 120 x
  wide x h = let o = F.order in omega arith

  cells_inside : Inside n cells
  cells_inside x k = let r = mem_place 0 cells k in subst (Element n) r.2 (F.in_range r.0 r.1)

  listed_inside : Inside n list
  unfolding products_last
  listed_inside x k = ⊎_elim (non_product cells n x) (cells_inside x) (mem_all (non_products n cells) cells x k)

  listed_once : NoRepeats list
  unfolding products_last
  listed_once =
      (added_once (non_products n cells) cells (λ x k. wide x (cells_inside x k))
      (_, _, _, record { listed = refl; marked = refl; counted = refl; inside = λ x k. wide x (non_product cells n x k); no_repeats = non_products_once cells n })).3.no_repeats

  -- Every element is in the list: it stands in the cells, or it is among those that stand nowhere there.
  listed_all : (x : ℕ) → Element n x → Memᴰ x list
  unfolding products_last
  listed_all x h =
      ⊎_elim (λ e. all_holds (non_products n cells) cells x (member_mem x cells e)) (λ e. all_keeps (non_products n cells) cells x (missing_kept cells n x h e)) (either (member x cells))

  pub length_listed : length list ≡ n
  length_listed = same_length list (elements n) listed_once (elements_no_repeats n) (λ x k. elements_mem n x (listed_inside x k)) (λ x k. listed_all x (mem_elements n x k)) ∙ length_elements n

  listed_closed : (x y : ℕ) → Memᴰ x list → Memᴰ y list → Memᴰ (s x y) list
  listed_closed x y hx hy = listed_all (s x y) (filled_closed n cells F x y (listed_inside x hx) (listed_inside y hy))

  -- ---- the elements found

  -- The next element is x, and `counts` says how often each occurs.
  module _ (counts : List ℕ) (is : counts ≡ per_element n (frequency n s)) (x : ℕ) (h : Element n x) where
    occurs : get_or counts (x - 1) 0 ≡ count (λ y. eqb y x) cells
    occurs = ap (λ (l : List ℕ). get_or l (x - 1) 0) is ∙ per_element_at n (frequency n s) x h ∙ frequency_cells n cells F.size x

    next : (b : Bool) → missing cells x ≡ b → non_products x cells ≡ non_products (x - 1) cells ++ cond b (x ∷ []) []
    next b e =
        let up : x - 1 + 1 ≡ x = omega arith in
        subst (λ (k : ℕ). non_products k cells ≡ non_products (x - 1) cells ++ cond b (k ∷ []) []) up (one_passed cells (x - 1) b (ap (missing cells) up ∙ e))

    -- If it occurs, nothing is added.
    pub product_passed : (get_or counts (x - 1) 0 ≡ 0 → ⊥) → non_products (x - 1) cells ≡ non_products x cells
    product_passed e =
        let there : member x cells ≡ true =
        unfalse (member x cells) (λ q. e (occurs ∙ count_zero (λ y. eqb y x) cells (λ y k. ne_eqb y x (λ z. not_member x cells q (Memᴰ.cast (sym z) k))))) in
        sym (next false (not_of_true (member x cells) there) ∙ append-nil (non_products (x - 1) cells))

    -- If it occurs nowhere, it is added.
    pub non_product_added : get_or counts (x - 1) 0 ≡ 0 → adding (non_products (x - 1) cells) x ≡ non_products x cells
    non_product_added e =
        let nowhere : member x cells ≡ false = unmember x cells (λ k. let z = occurs_once x cells k in let o = occurs in omega arith) in
        let new : member x (non_products (x - 1) cells) ≡ false = unmember x (non_products (x - 1) cells) (λ k. let r = non_product cells (x - 1) x k in omega arith) in
        adding_new (non_products (x - 1) cells) x new ∙ sym (next true (not_of_false (member x cells) nowhere))

  -- Once all elements are passed, no cell is added yet.
  pub elements_passed : (x : ℕ) → x ≡ n → non_products x cells ≡ adding_all (non_products n cells) []
  unfolding adding_all
  elements_passed x e = ap (λ (k : ℕ). non_products k cells) e

  -- Once all cells are added, the list is complete.
  pub cells_added : (i : ℕ) → length cells ≤ i → adding_all (non_products n cells) (take i cells) ≡ list
  unfolding products_last
  cells_added i h = ap (adding_all (non_products n cells)) (take_all i cells h)

  pub listed_part : ClosedPart n s list
  listed_part = record { inside = listed_inside; no_repeats = listed_once; closed = listed_closed }

  -- ---- the renamed table

  -- That list is an isomorphism of the renamed table onto the old one.
  pub renamed_embeds : Embedding n (product n (renamed_cells n cells)) n s list
  unfolding renamed_cells
  renamed_embeds = subst (λ (k : ℕ). Embedding k (product k (part_cells s list)) n s list) length_listed (part_embeds n s list listed_inside listed_once listed_closed)

pub renamed_accepted : (n : ℕ) (cells : List ℕ) → Accepted n cells → Accepted n (renamed_cells n cells)
unfolding renamed_cells
renamed_accepted n cells a =
    let F = a.filled in
    let l = length_listed n cells F in
    let o = F.order in
    subst (λ (k : ℕ). Accepted k (part_cells (product n cells) (products_last n cells))) l (part_accepted n (product n cells) (products_last n cells) (listed_inside n cells F) (listed_once n cells F) (listed_closed n cells F) o (omega arith) a.associative)

-- A buffer that the renamed table is written to begins with it.
module _ (n : ℕ) (cells before room : List ℕ) (a : Accepted n cells) (e : room ≡ overwritten (renamed_cells n cells) before) where
  pub renamed_front : take (n * n) room ≡ renamed_cells n cells
  renamed_front = ap (take (n * n)) e ∙ take_at (renamed_cells n cells) (drop (length (renamed_cells n cells)) before) (n * n) (renamed_accepted n cells a).filled.size

  pub front_accepted : Accepted n (take (n * n) room)
  front_accepted = subst (Accepted n) (sym renamed_front) (renamed_accepted n cells a)
