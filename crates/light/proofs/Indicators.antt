-- The marks of a list's entries in an array. Assumes nothing.
use mathlib.Core.Path.{◌≡◌, refl, sym, ap, ◌∙◌}
use mathlib.Core.Bool.{Bool, true, false, cond}
use mathlib.Core.Logic.{◌⊎◌, inl, inr}
use mathlib.Core.List.Memᴰ
use mathlib.Core.List.{List, [], ◌∷◌, ◌++◌, Memᴰ}
use Prim.Native.Nat.{ℕ, ◌+◌, ◌≤◌, ◌<◌}
use native.Mathlib.Numerals.{add-one}
use native.Mathlib.Omega.{arith}
use lib.ListN.{length, take, get_or, set, replicate, length-map, length-set}
use lib.Seq.{ext_get_or, get_or-set_same, get_or-set_other, take-suc, take_all}
use Rattle.semigroups.specs.Lists.{range, member}
use Rattle.semigroups.proofs.Booleans.{same_truth, equal_or_not}
use Rattle.semigroups.proofs.Lists.{length_range, get_d_range, get_d_map, member_mem, mem_member}
use Rattle.light.specs.InnerFound.{indicator}

pub length_indicator : (l : List ℕ) → length (indicator l) ≡ 121
unfolding indicator
length_indicator l = length-map (range 0 121) (λ x. cond (member x l) 1 0) ∙ length_range 0 121

pub indicator_nil : replicate 121 0 ≡ indicator []
unfolding indicator range member
indicator_nil = refl

module _ (l : List ℕ) (x : ℕ) (h : x ≤ 120) where
  pub indicator_at : get_or (indicator l) x 0 ≡ cond (member x l) 1 0
  unfolding indicator
  indicator_at =
      get_d_map (λ x. cond (member x l) 1 0) (range 0 121) 0 x (omega (arith, length_range 0 121))
      ∙ ap (λ (y : ℕ). cond (member y l) 1 0) (get_d_range 0 121 x (omega arith) ∙ (let z : 0 + x ≡ x = omega arith in z))

  -- An element without a mark is not in the list, and one with a mark is.
  pub unmarked : get_or (indicator l) x 0 ≡ 0 → member x l ≡ false
  unmarked e = go (member x l) refl (sym indicator_at ∙ e)
    where
      go : (b : Bool) → member x l ≡ b → ◌≡◌ {A = ℕ} (cond b 1 0) 0 → member x l ≡ false
      go true q r = absurd (let z : ⊥ = omega arith in z)
      go false q r = q

  pub is_marked_law : (get_or (indicator l) x 0 ≡ 0 → ⊥) → member x l ≡ true
  is_marked_law e = go (member x l) refl (λ q. e (indicator_at ∙ q))
    where
      go : (b : Bool) → member x l ≡ b → (◌≡◌ {A = ℕ} (cond b 1 0) 0 → ⊥) → member x l ≡ true
      go true q r = q
      go false q r = absurd (r refl)

-- Lists with the same members have one indicator.
pub indicator_same : (p q : List ℕ) → ((x : ℕ) → Memᴰ x p → Memᴰ x q) → ((x : ℕ) → Memᴰ x q → Memᴰ x p) → indicator p ≡ indicator q
indicator_same p q to from =
    ext_get_or 0 (indicator p) (indicator q) (length_indicator p ∙ sym (length_indicator q))
    (λ x h.
    let small : x ≤ 120 = omega (arith, length_indicator p) in
    indicator_at p x small
    ∙ ap {B = ℕ} (λ (b : Bool). cond b 1 0) (same_truth (member x p) (member x q) (λ e. mem_member x q (to x (member_mem x p e))) (λ e. mem_member x p (from x (member_mem x q e))))
    ∙ sym (indicator_at q x small))

-- The marks of a list with one entry more have one mark more.
pub indicator_set : (l : List ℕ) (x : ℕ) → x ≤ 120 → set (indicator l) x 1 ≡ indicator (l ++ x ∷ [])
indicator_set l x h =
    ext_get_or 0 (set (indicator l) x 1) (indicator (l ++ x ∷ [])) (simp length-set (length_indicator l ∙ sym (length_indicator (l ++ x ∷ []))))
    (λ y u. let small : y ≤ 120 = omega (arith, length_indicator l, length-set (indicator l) x 1) in entry y small (equal_or_not y x))
  where
    back : (y : ℕ) → (y ≡ x → ⊥) → Memᴰ y l ⊎ Memᴰ y (x ∷ []) → Memᴰ y l
    back y ne (inl m) = m
    back y ne (inr m) = absurd (ne (Memᴰ.eq_of_singleton m))

    entry : (y : ℕ) → y ≤ 120 → (y ≡ x) ⊎ (y ≡ x → ⊥) → get_or (set (indicator l) x 1) y 0 ≡ get_or (indicator (l ++ x ∷ [])) y 0
    entry y small (inl e) =
        ap (λ (z : ℕ). get_or (set (indicator l) x 1) z 0) e ∙ get_or-set_same (indicator l) x 1 0 (omega (arith, length_indicator l))
        ∙ sym (indicator_at (l ++ x ∷ []) y small ∙ ap {B = ℕ} (λ (b : Bool). cond b 1 0) (mem_member y (l ++ x ∷ []) (Memᴰ.append_right l (Memᴰ.head e))))
    entry y small (inr ne) =
        get_or-set_other (indicator l) x y 1 0 ne ∙ indicator_at l y small
        ∙ ap {B = ℕ} (λ (b : Bool). cond b 1 0)
        (same_truth (member y l) (member y (l ++ x ∷ [])) (λ e. mem_member y (l ++ x ∷ []) (Memᴰ.append_left (x ∷ []) (member_mem y l e)))
        (λ e. mem_member y l (back y ne (Memᴰ.append_cases l (member_mem y (l ++ x ∷ []) e)))))
        ∙ sym (indicator_at (l ++ x ∷ []) y small)

-- ---- a list marked entry by entry

module _ (l marks : List ℕ) (i : ℕ) (e : marks ≡ indicator (take i l)) where
  pub indicator_next : i < length l → (x : ℕ) → x ≤ 120 → x ≡ get_or l i 0 → set marks x 1 ≡ indicator (take (i + 1) l)
  indicator_next h x small q =
      ap (λ (m : List ℕ). set m x 1) e ∙ indicator_set (take i l) x small
      ∙ ap indicator (sym (ap (λ (k : ℕ). take k l) (add-one i) ∙ take-suc l i 0 h ∙ ap (λ (y : ℕ). take i l ++ y ∷ []) (sym q)))

  pub indicator_all : length l ≤ i → marks ≡ indicator l
  indicator_all h = e ∙ ap indicator (take_all i l h)
