-- Values at consecutive numbers: with one more number, if values are equal, and if they are zeros. Assumes nothing.
use mathlib.Core.Path.{◌≡◌, refl, ap, ap₂, ◌∙◌}
use mathlib.Core.List.{List, [], ◌∷◌, ◌++◌, map, map-append, Memᴰ}
use Prim.Native.Nat.{ℕ, zero, suc, ◌+◌}
use lib.ListN.{length, get_or, replicate}
use Rattle.semigroups.specs.Lists.{range}
use Rattle.semigroups.proofs.Lists.{range_snoc}

pub map_range_snoc : (w : ℕ → ℕ) (i k : ℕ) → map w (range i (suc k)) ≡ map w (range i k) ++ w (i + k) ∷ []
map_range_snoc w i k = ap (map w) (range_snoc i k) ∙ map-append w (range i k) ((i + k) ∷ [])

pub map_same : (v w : ℕ → ℕ) (l : List ℕ) → ((x : ℕ) → Memᴰ x l → v x ≡ w x) → map v l ≡ map w l
map_same v w [] h = refl
map_same v w (x ∷ l) h = ap₂ {C = List ℕ} (λ (y : ℕ) (m : List ℕ). y ∷ m) (h x (Memᴰ.head refl)) (map_same v w l (λ y m. h y (Memᴰ.tail m)))

pub map_zeros : (w : ℕ → ℕ) (l : List ℕ) → ((x : ℕ) → w x ≡ 0) → map w l ≡ replicate (length l) 0
map_zeros w [] h = refl
map_zeros w (x ∷ l) h = ap₂ {C = List ℕ} (λ (y : ℕ) (m : List ℕ). y ∷ m) (h x) (map_zeros w l h)

-- Zeros hold 0 at every place, also past their end.
pub get_d_zeros : (n x : ℕ) → ◌≡◌ {A = ℕ} (get_or (replicate n 0) x 0) 0
get_d_zeros zero x = refl
get_d_zeros (suc n) zero = refl
get_d_zeros (suc n) (suc x) = get_d_zeros n x
