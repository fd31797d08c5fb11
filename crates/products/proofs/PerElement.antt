-- Arrays that hold a value for each element, followed by zeros: they are filled place by place, and raised by one at a place. Assumes nothing.
use mathlib.Core.Path.{◌≡◌, refl, sym, ap, ap₂, ◌∙◌}
use mathlib.Core.Logic.{⊎_elim}
use mathlib.Core.List.{List, [], ◌∷◌, ◌++◌, map, append_assoc}
use Prim.Native.Nat.{ℕ, suc, ◌+◌, ◌-◌, ◌≤◌, ◌<◌}
use native.Mathlib.Omega.{arith}
use lib.ListN.{length, get_or, set, replicate, length-map, length-set, replicate-append-replicate, get_or-append}
use lib.Seq.{ext_get_or, set_at, set-append_left, get_or-set_same, get_or-set_other}
use Rattle.semigroups.specs.Lists.{range, elements}
use Rattle.semigroups.specs.Tables.{Element}
use Rattle.semigroups.proofs.Booleans.{equal_or_not}
use Rattle.semigroups.proofs.Lists.{length_elements, get_d_map, get_d_range, mem_elements}
use Rattle.products.specs.InnerPerElement.{per_element}
use Rattle.products.proofs.Values.{map_range_snoc, map_same, map_zeros}

width : (n : ℕ) (w : ℕ → ℕ) → length (map w (elements n)) ≡ n
width n w = length-map (elements n) w ∙ length_elements n

value : (n : ℕ) (w : ℕ → ℕ) (a : ℕ) → Element n a → get_or (map w (elements n)) (a - 1) 0 ≡ w a
unfolding elements
value n w a h = get_d_map w (elements n) 0 (a - 1) (let e = length_elements n in omega arith) ∙ ap w (get_d_range 1 n (a - 1) (omega arith) ∙ (let z : 1 + (a - 1) ≡ a = omega arith in z))

-- The value of element a stands at place a - 1.
pub per_element_at : (n : ℕ) (w : ℕ → ℕ) (a : ℕ) → Element n a → get_or (per_element n w) (a - 1) 0 ≡ w a
unfolding per_element
per_element_at n w a h = get_or-append (map w (elements n)) (replicate (120 - n) 0) 0 (a - 1) (let e = width n w in omega arith) ∙ value n w a h

pub per_element_same : (n : ℕ) (v w : ℕ → ℕ) → ((a : ℕ) → Element n a → v a ≡ w a) → per_element n v ≡ per_element n w
unfolding per_element
per_element_same n v w h = ap (λ (l : List ℕ). l ++ replicate (120 - n) 0) (map_same v w (elements n) (λ x m. h x (mem_elements n x m)))

-- ---- filled place by place: the array holds the values at the elements before a

module _ (w : ℕ → ℕ) where
  pub fill_start : replicate 120 0 ≡ per_element (1 - 1) w
  fill_start = unfold per_element elements range in refl

  pub fill_step : (a v : ℕ) (array : List ℕ) → array ≡ per_element (a - 1) w → Element 120 a → v ≡ w a → set array (a - 1) v ≡ per_element (a + 1 - 1) w
  unfolding per_element elements
  fill_step a v array so_far h e =
      ap (λ (l : List ℕ). set l (a - 1) v) so_far
      ∙ ap (λ (k : ℕ). set (before ++ replicate k 0) (a - 1) v) (let z : 120 - (a - 1) ≡ suc (120 - a) = omega arith in z)
      ∙ set_at before 0 (replicate (120 - a) 0) v (a - 1) (width (a - 1) w)
      ∙ sym (append_assoc before (v ∷ []) (replicate (120 - a) 0))
      ∙ ap₂ {C = List ℕ} (λ (l : List ℕ) (k : ℕ). l ++ replicate k 0) filled (let z : 120 - a ≡ 120 - (a + 1 - 1) = omega arith in z)
    where
      before : List ℕ
      before = map w (elements (a - 1))

      filled : before ++ v ∷ [] ≡ map w (elements (a + 1 - 1))
      filled =
          ap {B = List ℕ} (λ (x : ℕ). before ++ x ∷ []) (e ∙ ap w (let z : a ≡ 1 + (a - 1) = omega arith in z)) ∙ sym (map_range_snoc w 1 (a - 1))
          ∙ ap (λ (k : ℕ). map w (elements k)) (let z : suc (a - 1) ≡ a + 1 - 1 = omega arith in z)

  pub fill_end : (n a : ℕ) (array : List ℕ) → array ≡ per_element (a - 1) w → Element (n + 1) a → n < a → array ≡ per_element n w
  fill_end n a array so_far h end = so_far ∙ ap (λ (k : ℕ). per_element k w) (let z : a - 1 ≡ n = omega arith in z)

-- ---- raised by one

pub zero_start : (n : ℕ) (w : ℕ → ℕ) → n ≤ 120 → ((x : ℕ) → w x ≡ 0) → replicate 120 0 ≡ per_element n w
unfolding per_element
zero_start n w h e =
    sym (ap (λ (l : List ℕ). l ++ replicate (120 - n) 0) (map_zeros w (elements n) e ∙ ap (λ (k : ℕ). replicate k 0) (length_elements n))
    ∙ replicate-append-replicate n (120 - n) 0 ∙ ap (λ (k : ℕ). replicate k 0) (let z : n + (120 - n) ≡ 120 = omega arith in z))

pub raise : (n : ℕ) (w w' : ℕ → ℕ) (x v : ℕ) → Element n x → v ≡ w x + 1 → w' x ≡ w x + 1 → ((a : ℕ) → (x ≡ a → ⊥) → w' a ≡ w a) → set (per_element n w) (x - 1) v ≡ per_element n w'
unfolding per_element
raise n w w' x v h e hit miss =
    set-append_left (map w (elements n)) (replicate (120 - n) 0) (x - 1) v (let z = width n w in omega arith)
    ∙ ap (λ (l : List ℕ). l ++ replicate (120 - n) 0) (ext_get_or 0 raised (map w' (elements n)) (long ∙ sym (width n w')) entry)
  where
    raised : List ℕ
    raised = set (map w (elements n)) (x - 1) v

    long : length raised ≡ n
    long = length-set (map w (elements n)) (x - 1) v ∙ width n w

    entry : (j : ℕ) → j < length raised → get_or raised j 0 ≡ get_or (map w' (elements n)) j 0
    entry j u =
        let below : j < n = omega (arith, long) in
        let place : j ≡ suc j - 1 = omega arith in
        let new : get_or (map w' (elements n)) j 0 ≡ w' (suc j) = ap (λ (k : ℕ). get_or (map w' (elements n)) k 0) place ∙ value n w' (suc j) (omega arith, omega arith) in
        let old : get_or (map w (elements n)) j 0 ≡ w (suc j) = ap (λ (k : ℕ). get_or (map w (elements n)) k 0) place ∙ value n w (suc j) (omega arith, omega arith) in
        ⊎_elim
        (λ (q : x ≡ suc j).
        ap (λ (k : ℕ). get_or raised k 0) (let z : j ≡ x - 1 = omega arith in z) ∙ get_or-set_same (map w (elements n)) (x - 1) v 0 (let z = width n w in omega arith) ∙ e ∙ sym hit ∙ ap w' q ∙ sym new)
        (λ (q : x ≡ suc j → ⊥).
        get_or-set_other (map w (elements n)) (x - 1) j v 0 (λ r. q (let z : x ≡ suc j = omega arith in z)) ∙ old ∙ sym (miss (suc j) q) ∙ sym new) (equal_or_not x (suc j))
