-- Lists in which each entry stands in a relation to every later one, and lists without repeats. Assumes nothing.
use Rattle.std.specs.Prelude.{◌≡◌}
use mathlib.Core.List.{List, [], ◌∷◌, Memᴰ}

-- Each entry stands in the relation R to every later entry.
abbrev pub Sorted : {A : Type 0} → (A → A → Type 0) → List A → Type 0
Sorted R [] = Unit {0}
Sorted {A} R (x ∷ l) = ((y : A) → Memᴰ y l → R x y) × Sorted R l

-- No entry equals a later one.
abbrev pub NoRepeats : {A : Type 0} → List A → Type 0
NoRepeats {A} l = Sorted (λ (x y : A). x ≡ y → ⊥) l
