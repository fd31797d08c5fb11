-- A list of entries from 1 to n as a number in base n: its entries less one are the digits. This number is the list's place, from 0, among all lists
-- of its length. Assumes nothing.
use mathlib.Core.Path.{◌≡◌, refl, sym, ap, ◌∙◌, subst}
use mathlib.Core.List.Memᴰ
use mathlib.Core.List.{List, [], ◌∷◌, ◌++◌, map}
use Prim.Native.Nat.{ℕ, zero, suc, ◌+◌, ◌-◌, ◌*◌, ◌/◌, ◌%◌, ◌^◌, ◌≤◌, ◌<◌}
use native.Mathlib.Nat.{zero-mul, suc-mul, add-mul, mul_assoc, mul-le-mul_right, mul-add-div_right, div-eq_of_lt, mul-add-mod_self_right, mod-eq_of_lt, pow-zero, pow-succ'}
use native.Mathlib.Omega.{arith}
use lib.ListN.{length, take, get_or, length-map}
use lib.Seq.{take-suc}
use Rattle.semigroups.specs.Lists.{elements, at, lists}
use Rattle.semigroups.specs.Tables.{Element}
use Rattle.semigroups.specs.InnerTables.{IsList}
use Rattle.semigroups.proofs.Lists.{length_elements, at_elements}
use Rattle.semigroups.proofs.FlatMap.{get_d_flat_map}
use Rattle.semigroups.proofs.ListOrder.{length_lists}

-- The number whose digits in base n are those of a, then the entries of the list less one.
unfoldable pub digits : ℕ → ℕ → List ℕ → ℕ
digits n a [] = a
digits n a (x ∷ f) = digits n (a * n + (x - 1)) f

get_d_map_in : {A B : Type 0} (g : A → B) (l : List A) (d : A) (e : B) (k : ℕ) → k < length l → get_or (map g l) k e ≡ g (get_or l k d)
get_d_map_in g [] d e k h = absurd (let z : ⊥ = omega arith in z)
get_d_map_in g (x ∷ l) d e zero h = refl
get_d_map_in g (x ∷ l) d e (suc k) h = get_d_map_in g l d e k (omega arith)

element_place : (n x : ℕ) → Element n x → get_or (elements n) (x - 1) 0 ≡ x
unfolding at
element_place n x h = at_elements n x h

module _ (n : ℕ) where
  digits_last : (a : ℕ) (f : List ℕ) (x : ℕ) → digits n a (f ++ x ∷ []) ≡ digits n a f * n + (x - 1)
  unfolding digits
  digits_last a [] x = refl
  digits_last a (y ∷ f) x = digits_last (a * n + (y - 1)) f x

  digits_above : (a : ℕ) (f : List ℕ) → digits n a f ≡ a * n ^ length f + digits n 0 f
  unfolding digits
  digits_above a [] = (let z : a ≡ a * 1 + 0 = omega arith in z) ∙ ap (λ (q : ℕ). a * q + 0) (sym (pow-zero n))
  digits_above a (x ∷ f) =
      let p = n ^ length f in
      let y = x - 1 in
      let one : digits n (a * n + y) f ≡ (a * n + y) * p + digits n 0 f = digits_above (a * n + y) f in
      let two : digits n (0 * n + y) f ≡ (0 * n + y) * p + digits n 0 f = digits_above (0 * n + y) f in
      let power : a * n ^ suc (length f) ≡ a * (n * p) = ap (λ (q : ℕ). a * q) (pow-succ' n (length f)) in
      let zeros : (0 * n + y) * p ≡ y * p = ap (λ (q : ℕ). (q + y) * p) (zero-mul n) ∙ ap (λ (q : ℕ). q * p) (let z : 0 + y ≡ y = omega arith in z) in
      omega (arith, add-mul (a * n) y p, mul_assoc a n p)

  -- The list stands at that place among all lists of its length.
  pub list_place : (m : ℕ) (f : List ℕ) → IsList m n f → (digits n 0 f < n ^ m) × (get_or (lists m n) (digits n 0 f) [] ≡ f)
  unfolding digits lists
  list_place zero [] h = (subst (λ (q : ℕ). 0 < q) (sym (pow-zero n)) (let z : 0 < 1 = omega arith in z), refl)
  list_place zero (x ∷ f) h = absurd (let e = h.size in let z : ⊥ = omega arith in z)
  list_place (suc m) [] h = absurd (let e = h.size in let z : ⊥ = omega arith in z)
  list_place (suc m) (x ∷ f) h =
      let p = n ^ m in
      let size : length f ≡ m = let e = h.size in omega arith in
      let element : Element n x = h.entries x (Memᴰ.head refl) in
      let below = list_place m f (record { size = size; entries = λ y k. h.entries y (Memᴰ.tail k) }) in
      let small = below.0 in
      let split : digits n (0 * n + (x - 1)) f ≡ (x - 1) * p + digits n 0 f =
      digits_above (0 * n + (x - 1)) f
      ∙ ap (λ (q : ℕ). (q + (x - 1)) * n ^ length f + digits n 0 f) (zero-mul n)
      ∙ ap (λ (q : ℕ). q * n ^ length f + digits n 0 f) (let z : 0 + (x - 1) ≡ x - 1 = omega arith in z)
      ∙ ap (λ (q : ℕ). (x - 1) * n ^ q + digits n 0 f) size in
      let rows : suc (x - 1) * p ≤ n * p = mul-le-mul_right p (omega arith) in
      let room : (x - 1) * p + digits n 0 f < n * p = omega (arith, suc-mul (x - 1) p) in (
        subst (λ (q : ℕ). q < n ^ suc m) (sym split) (subst (λ (q : ℕ). (x - 1) * p + digits n 0 f < q) (sym (pow-succ' n m)) room),
        ap (λ (q : ℕ). get_or (lists (suc m) n) q []) split
            ∙ get_d_flat_map (λ y. map (λ l. y ∷ l) (lists m n)) p (λ y. length-map (lists m n) (λ l. y ∷ l) ∙ length_lists m n) (elements n) 0 [] (x - 1) (digits n 0 f) (omega (arith, length_elements n)) small
            ∙ get_d_map_in (λ l. get_or (elements n) (x - 1) 0 ∷ l) (lists m n) [] [] (digits n 0 f) (omega (arith, length_lists m n))
            ∙ ap (λ (y : ℕ). y ∷ get_or (lists m n) (digits n 0 f) []) (element_place n x element)
            ∙ ap (λ (l : List ℕ). x ∷ l) below.1,
      )

-- ---- the digits one by one

module _ (n : ℕ) (f : List ℕ) where
  pub digits_take : (x : ℕ) → Element (length f) x → digits n 0 (take x f) ≡ digits n 0 (take (x - 1) f) * n + (at f x - 1)
  unfolding at
  digits_take x h =
      let e : suc (x - 1) ≡ x = omega arith in
      ap (λ (q : ℕ). digits n 0 (take q f)) (sym e) ∙ ap (digits n 0) (take-suc f (x - 1) 0 (omega arith)) ∙ digits_last n 0 (take (x - 1) f) (get_or f (x - 1) 0)

  module _ (x : ℕ) (h : Element (length f) x) (e : Element n (at f x)) where
    -- Division by the base drops the last digit; the remainder is that digit.
    pub drop_digit : digits n 0 (take x f) / n ≡ digits n 0 (take (x - 1) f)
    drop_digit =
        let a = digits n 0 (take (x - 1) f) in
        ap (λ (q : ℕ). q / n) (digits_take x h) ∙ mul-add-div_right (let z : 0 < n = omega arith in z) a (at f x - 1)
        ∙ ap (λ (q : ℕ). a + q) (div-eq_of_lt (let z : at f x - 1 < n = omega arith in z)) ∙ (let z : a + 0 ≡ a = omega arith in z)

    pub last_digit : digits n 0 (take x f) % n ≡ at f x - 1
    last_digit =
        ap (λ (q : ℕ). q % n) (digits_take x h) ∙ mul-add-mod_self_right (digits n 0 (take (x - 1) f)) n (at f x - 1) ∙ mod-eq_of_lt (let z : at f x - 1 < n = omega arith in z)
