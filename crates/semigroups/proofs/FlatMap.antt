-- Laws of lists joined from the lists that each entry gives; where these have one length, as rows do, what stands at each place. Assumes nothing.
use mathlib.Core.Path.{◌≡◌, refl, sym, ap, ◌∙◌, subst}
use mathlib.Core.Logic.{◌⊎◌, inl, inr}
use mathlib.Core.Bool.{Bool}
use mathlib.Core.Option.{or_else}
use mathlib.Core.List.Memᴰ
use mathlib.Core.List.{List, [], ◌∷◌, ◌++◌, flat_map, Memᴰ}
use Prim.Native.Nat.{ℕ, zero, suc, ◌+◌, ◌*◌, ◌<◌}
use native.Mathlib.Nat.{suc-mul, zero-mul}
use native.Mathlib.Omega.{arith}
use lib.ListN.{length, get_or, length-append, get_or-append}
use lib.Seq.{get_or-append-add}
use Rattle.semigroups.specs.Lists.{find, first_of}
use Rattle.semigroups.specs.InnerLists.{Sorted}
use Rattle.semigroups.proofs.Lists.{find_append, sorted_append}

module _ {A B : Type 0} (g : A → List B) where
  pub mem_flat_map : (l : List A) (y : B) → Memᴰ y (flat_map g l) → (x : A) × Memᴰ x l × Memᴰ y (g x)
  unfolding flat_map
  mem_flat_map [] y m = absurd (Memᴰ.not-nil m)
  mem_flat_map (x ∷ l) y m = go (λ h. mem_flat_map l y h) (Memᴰ.append_cases (g x) m)
    where
      go : (Memᴰ y (flat_map g l) → (z : A) × Memᴰ z l × Memᴰ y (g z)) → Memᴰ y (g x) ⊎ Memᴰ y (flat_map g l) → (z : A) × Memᴰ z (x ∷ l) × Memᴰ y (g z)
      go below (inl h) = (x, Memᴰ.head refl, h)
      go below (inr h) = let r = below h in (r.0, Memᴰ.tail r.1, r.2)

  pub flat_map_mem : (l : List A) (x : A) (y : B) → Memᴰ x l → Memᴰ y (g x) → Memᴰ y (flat_map g l)
  unfolding flat_map
  flat_map_mem [] x y m k = absurd (Memᴰ.not-nil m)
  flat_map_mem (z ∷ l) x y (Memᴰ.head e) k = Memᴰ.append_left (flat_map g l) (subst (λ (w : A). Memᴰ y (g w)) e k)
  flat_map_mem (z ∷ l) x y (Memᴰ.tail m) k = Memᴰ.append_right (g z) (flat_map_mem l x y m k)

  pub sorted_flat_map : (R : A → A → Type 0) (S : B → B → Type 0) → ((x : A) → Sorted S (g x)) → ((x y : A) → R x y → (a b : B) → Memᴰ a (g x) → Memᴰ b (g y) → S a b)
      → (l : List A) → Sorted R l → Sorted S (flat_map g l)
  unfolding flat_map
  sorted_flat_map R S own across [] s = tt
  sorted_flat_map R S own across (x ∷ l) s =
      sorted_append S (g x) (flat_map g l) (own x) (sorted_flat_map R S own across l s.1)
      (λ a b p q. let w = mem_flat_map l b q in across x w.0 (s.0 w.0 w.1) a b p w.2)

  -- If each entry gives a list of one length k, these lists are rows.
  module _ (k : ℕ) (long : (x : A) → length (g x) ≡ k) where
    pub length_flat_map : (l : List A) → length (flat_map g l) ≡ length l * k
    unfolding flat_map
    length_flat_map [] = sym (zero-mul k)
    length_flat_map (x ∷ l) = let e = length-append (g x) (flat_map g l) in let f = length_flat_map l in let h = long x in omega (arith, suc-mul (length l) k)

    -- What stands in row i, column j, both counted from 0.
    pub get_d_flat_map : (l : List A) (d : A) (e : B) (i j : ℕ) → i < length l → j < k → get_or (flat_map g l) (i * k + j) e ≡ get_or (g (get_or l i d)) j e
    unfolding flat_map
    get_d_flat_map [] d e i j h u = absurd (let z : ⊥ = omega arith in z)
    get_d_flat_map (x ∷ l) d e zero j h u =
        ap (λ (p : ℕ). get_or (g x ++ flat_map g l) p e) (let z : 0 * k + j ≡ j = omega (arith, zero-mul k) in z) ∙ get_or-append (g x) (flat_map g l) e j (let w = long x in omega arith)
    get_d_flat_map (x ∷ l) d e (suc i) j h u =
        ap (λ (p : ℕ). get_or (g x ++ flat_map g l) p e) (let w = long x in let z : suc i * k + j ≡ length (g x) + (i * k + j) = omega (arith, suc-mul i k) in z)
        ∙ get_or-append-add (g x) (flat_map g l) (i * k + j) e ∙ get_d_flat_map l d e i j (let z : i < length l = omega arith in z) u

  -- The first entry of the joined list that passes is the first that passes in one of the lists joined.
  pub find_flat_map : (p : B → Bool) (l : List A) → find p (flat_map g l) ≡ first_of (λ x. find p (g x)) l
  unfolding flat_map find first_of
  find_flat_map p [] = refl
  find_flat_map p (x ∷ l) = find_append p (g x) (flat_map g l) ∙ ap (or_else (find p (g x))) (find_flat_map p l)
