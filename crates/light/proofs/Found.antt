-- Elements found one by one: what an addition makes of the list, of its array and of its marks. Assumes nothing.
use mathlib.Core.Path.{◌≡◌, refl, sym, ap, ◌∙◌, subst}
use mathlib.Core.Bool.{Bool, true, false, cond, not}
use lib.Dec.{eqb}
use mathlib.Core.Logic.{◌⊎◌, inl, inr, ⊎_elim}
use mathlib.Core.List.Memᴰ
use mathlib.Core.List.{List, [], ◌∷◌, ◌++◌, append-nil, append_assoc, Memᴰ}
use Prim.Native.Nat.{ℕ, suc, ◌+◌, ◌-◌, ◌≤◌, ◌<◌}
use native.Mathlib.Numerals.{add-one}
use native.Mathlib.Omega.{arith}
use lib.ListN.{length, take, get_or, set, replicate, length-append, get_or-append}
use lib.Seq.{take-suc, take_at, set_at}
use Rattle.semigroups.specs.Lists.{elements, member}
use Rattle.semigroups.specs.InnerLists.{NoRepeats}
use Rattle.semigroups.specs.Tables.{Element}
use Rattle.semigroups.specs.InnerGenerated.{Inside}
use Rattle.semigroups.proofs.Booleans.{either}
use Rattle.semigroups.proofs.Lists.{length_elements, elements_mem, length_snoc, member_mem, not_member, sorted_append}
use Rattle.semigroups.proofs.NoRepeats.{length_inside}
use Rattle.light.specs.InnerFound.{adding, adding_all, Found}
use Rattle.light.proofs.Indicators.{indicator_nil, indicator_at, unmarked, is_marked_law, indicator_set}

-- ---- one entry added

module _ (r : List ℕ) (x : ℕ) where
  pub adding_old : member x r ≡ true → adding r x ≡ r
  unfolding adding
  adding_old e = rw e

  pub adding_new : member x r ≡ false → adding r x ≡ r ++ x ∷ []
  unfolding adding
  adding_new e = rw e

  pub adding_holds : Memᴰ x (adding r x)
  adding_holds = go (either (member x r))
    where
      go : (member x r ≡ true) ⊎ (member x r ≡ false) → Memᴰ x (adding r x)
      go (inl e) = rw (adding_old e) (member_mem x r e)
      go (inr e) = rw (adding_new e) (Memᴰ.append_right r (Memᴰ.head refl))

  pub mem_adding : (y : ℕ) → Memᴰ y (adding r x) → Memᴰ y r ⊎ (y ≡ x)
  mem_adding y m = go (either (member x r))
    where
      go : (member x r ≡ true) ⊎ (member x r ≡ false) → Memᴰ y r ⊎ (y ≡ x)
      go (inl e) = inl (subst (Memᴰ y) (adding_old e) m)
      go (inr e) = ⊎_elim (λ k. inl k) (λ k. inr (Memᴰ.eq_of_singleton k)) (Memᴰ.append_cases r (subst (Memᴰ y) (adding_new e) m))

  -- An addition leaves the list as it is or writes after its end.
  pub adding_more : (q : List ℕ) × (adding r x ≡ r ++ q)
  adding_more = go (either (member x r))
    where
      go : (member x r ≡ true) ⊎ (member x r ≡ false) → (q : List ℕ) × (adding r x ≡ r ++ q)
      go (inl e) = ([], adding_old e ∙ sym (append-nil r))
      go (inr e) = (x ∷ [], adding_new e)

-- ---- the entries of a list added in turn

pub adding_none : (r : List ℕ) → r ≡ adding_all r []
unfolding adding_all
adding_none r = refl

pub adding_last : (r l : List ℕ) (x : ℕ) → adding_all r (l ++ x ∷ []) ≡ adding (adding_all r l) x
unfolding adding_all
adding_last r [] x = refl
adding_last r (y ∷ l) x = adding_last (adding r y) l x

pub all_more : (r l : List ℕ) → (q : List ℕ) × (adding_all r l ≡ r ++ q)
unfolding adding_all
all_more r [] = ([], sym (append-nil r))
all_more r (x ∷ l) =
    let p = adding_more r x in
    let u = all_more (adding r x) l in
    (p.0 ++ u.0, u.1 ∙ ap (λ (a : List ℕ). a ++ u.0) p.1 ∙ append_assoc r p.0 u.0)

pub mem_all : (r l : List ℕ) (y : ℕ) → Memᴰ y (adding_all r l) → Memᴰ y r ⊎ Memᴰ y l
unfolding adding_all
mem_all r [] y m = inl m
mem_all r (x ∷ l) y m = go (mem_all (adding r x) l y m)
  where
    go : Memᴰ y (adding r x) ⊎ Memᴰ y l → Memᴰ y r ⊎ Memᴰ y (x ∷ l)
    go (inl k) = ⊎_elim (λ h. inl h) (λ e. inr (Memᴰ.head e)) (mem_adding r x y k)
    go (inr k) = inr (Memᴰ.tail k)

module _ (r l : List ℕ) where
  pub all_keeps : (y : ℕ) → Memᴰ y r → Memᴰ y (adding_all r l)
  all_keeps y m = let u = all_more r l in rw u.1 (Memᴰ.append_left u.0 m)

  -- What was found stays in its place.
  pub all_longer : length r ≤ length (adding_all r l)
  all_longer = let u = all_more r l in omega (arith, ap length u.1, length-append r u.0)

  pub all_place : (i : ℕ) → i < length r → get_or (adding_all r l) i 0 ≡ get_or r i 0
  all_place i h = let u = all_more r l in ap (λ (a : List ℕ). get_or a i 0) u.1 ∙ get_or-append r u.0 0 i h

pub all_holds : (r l : List ℕ) (y : ℕ) → Memᴰ y l → Memᴰ y (adding_all r l)
unfolding adding_all
all_holds r [] y m = absurd (Memᴰ.not-nil m)
all_holds r (x ∷ l) y (Memᴰ.head e) = all_keeps (adding r x) l y (subst (λ (z : ℕ). Memᴰ z (adding r x)) (sym e) (adding_holds r x))
all_holds r (x ∷ l) y (Memᴰ.tail m) = all_holds (adding r x) l y m

-- ---- the arrays

pub found_nil : Found [] (replicate 120 0) (replicate 121 0) 0
found_nil = record { listed = refl; marked = indicator_nil; counted = refl; inside = λ x m. absurd (Memᴰ.not-nil m); no_repeats = tt }

module _ {r found marks : List ℕ} {count : ℕ} (f : Found r found marks count) where
  pub found_list : take count found ≡ r
  found_list = ap (take count) f.listed ∙ take_at r (replicate (120 - length r) 0) count (sym f.counted)

  -- The first entries of the array are what was found.
  pub found_again : Found (take count found) found marks count
  found_again = subst (λ (l : List ℕ). Found l found marks count) (sym found_list) f

  -- An element has a mark if it is found.
  pub found_holds : (x : ℕ) → x ≤ 120 → not (eqb (get_or marks x 0) 0) ≡ member x r
  found_holds x h = ap (λ (v : ℕ). not (eqb v 0)) (ap (λ (l : List ℕ). get_or l x 0) f.marked ∙ indicator_at r x h) ∙ by (member x r)
    where
      by : (b : Bool) → not (eqb (cond b 1 0) 0) ≡ b
      by true = refl
      by false = refl

  module _ (x : ℕ) (h : Element 120 x) where
    -- An element with a mark is there already, so nothing changes.
    pub found_kept : (get_or marks x 0 ≡ 0 → ⊥) → Found (adding r x) found marks count
    found_kept e =
        let there : member x r ≡ true = is_marked_law r x h.1 (λ q. e (ap (λ (l : List ℕ). get_or l x 0) f.marked ∙ q)) in
        subst (λ (l : List ℕ). Found l found marks count) (sym (adding_old r x there)) f

    -- An element without a mark is new.
    module _ (e : get_or marks x 0 ≡ 0) where
      absent : member x r ≡ false
      absent = unmarked r x h.1 (sym (ap (λ (l : List ℕ). get_or l x 0) f.marked) ∙ e)

      more_inside : Inside 120 (r ++ x ∷ [])
      more_inside y m = ⊎_elim (λ k. f.inside y k) (λ k. subst (Element 120) (sym (Memᴰ.eq_of_singleton k)) h) (Memᴰ.append_cases r m)

      more_no_repeats : NoRepeats (r ++ x ∷ [])
      more_no_repeats =
          sorted_append (λ (a b : ℕ). a ≡ b → ⊥) r (x ∷ []) f.no_repeats ((λ y m. absurd (Memᴰ.not-nil m)), tt)
          (λ a b p q eq. not_member x r absent (Memᴰ.cast (sym (eq ∙ Memᴰ.eq_of_singleton q)) p))

      pub found_space : count < 120
      found_space =
          let c = f.counted in
          omega (arith, length_inside (r ++ x ∷ []) (elements 120) more_no_repeats (λ y m. elements_mem 120 y (more_inside y m)), length_elements 120, length_snoc r x)

      pub found_added : Found (adding r x) (set found count x) (set marks x 1) (count + 1)
      found_added =
          let c = f.counted in
          let space = found_space in
          let rest = 120 - length (r ++ x ∷ []) in
          let one : 120 - length r ≡ suc rest = omega (arith, length_snoc r x) in
          subst (λ (l : List ℕ). Found l (set found count x) (set marks x 1) (count + 1)) (sym (adding_new r x absent))
          (record {
            listed = ap (λ (l : List ℕ). set l count x) (f.listed ∙ ap (λ (k : ℕ). r ++ replicate k 0) one) ∙ set_at r 0 (replicate rest 0) x count (sym c) ∙ sym (append_assoc r (x ∷ []) (replicate rest 0));
            marked = ap (λ (l : List ℕ). set l x 1) f.marked ∙ indicator_set r x h.1;
            counted = omega (arith, length_snoc r x);
            inside = more_inside;
            no_repeats = more_no_repeats;
          })

-- Entries are added in turn; this adds the next one.
pub adding_next : (r l : List ℕ) (i x : ℕ) → i < length l → x ≡ get_or l i 0 → adding (adding_all r (take i l)) x ≡ adding_all r (take (i + 1) l)
adding_next r l i x h e =
    sym (adding_last r (take i l) x)
    ∙ ap (adding_all r) (sym (ap (λ (k : ℕ). take k l) (add-one i) ∙ take-suc l i 0 h ∙ ap (λ (y : ℕ). take i l ++ y ∷ []) (sym e)))
