-- Laws of lists: entries of a list of values, lists that agree on the entries, the least number that passes. Assumes nothing.
use mathlib.Core.Path.{◌≡◌, refl, ap, ap₂, ◌∙◌}
use mathlib.Core.Bool.{Bool}
use mathlib.Core.List.{List, [], ◌∷◌, map, Memᴰ}
use mathlib.Core.Option
use mathlib.Core.Option.{Option}
use Prim.Native.Nat.{ℕ, zero, suc, ◌+◌, ◌-◌, ◌<◌}
use native.Mathlib.Omega.{arith}
use lib.ListN.{length, get_or}
use Rattle.semigroups.specs.Lists.{range, elements, least}
use Rattle.semigroups.specs.Tables.{Element}
use Rattle.semigroups.proofs.Lists.{mem_range, mem_elements, find_same}

pub get_d_map_range : {A : Type 0} (f : ℕ → A) (d : A) (i n k : ℕ) → k < n → get_or (map f (range i n)) k d ≡ f (i + k)
unfolding range
get_d_map_range f d i zero k h = absurd (let z : ⊥ = omega arith in z)
get_d_map_range f d i (suc n) zero h = ap f (let z : i ≡ i + 0 = omega arith in z)
get_d_map_range f d i (suc n) (suc k) h = get_d_map_range f d (suc i) n k (omega arith) ∙ ap f (let z : suc i + k ≡ i + suc k = omega arith in z)

pub map_within : {A B : Type 0} (f g : A → B) (l : List A) → ((x : A) → Memᴰ x l → f x ≡ g x) → map f l ≡ map g l
map_within f g [] h = refl
map_within {B = B} f g (x ∷ l) h = ap₂ {C = List B} (λ (y : B) (r : List B). y ∷ r) (h x (Memᴰ.head refl)) (map_within f g l (λ y m. h y (Memᴰ.tail m)))

-- The entries of a list, one after another, are the list.
pub entries : {A : Type 0} (d : A) (l : List A) (i : ℕ) → map (λ k. get_or l (k - i) d) (range i (length l)) ≡ l
unfolding range
entries d [] i = refl
entries {A} d (x ∷ l) i =
    ap₂ {C = List A} (λ (y : A) (r : List A). y ∷ r) (ap (λ (k : ℕ). get_or (x ∷ l) k d) (let z : i - i ≡ 0 = omega arith in z))
    (map_within (λ k. get_or (x ∷ l) (k - i) d) (λ k. get_or l (k - suc i) d) (range (suc i) (length l)) (λ k m. let r = mem_range (suc i) (length l) k m in ap (λ (j : ℕ). get_or (x ∷ l) j d) (let z : k - i ≡ suc (k - suc i) = omega arith in z))
    ∙ entries d l (suc i))

pub least_same : (n : ℕ) (p q : ℕ → Bool) → ((j : ℕ) → Element n j → p j ≡ q j) → least n p ≡ least n q
unfolding least
least_same n p q h = ap (λ (o : Option ℕ). Option.get_or o (n + 1)) (find_same p q (elements n) (λ x m. h x (mem_elements n x m)))
