-- The products by which the elements that a list generates are found: those of an element with itself and with each one found before it. Assumes nothing.
use mathlib.Core.List.{List, [], ◌∷◌, flat_map}
use Rattle.std.specs.Prelude.{ℕ, ◌+◌, take, get_or}
use Rattle.semigroups.specs.Tables.{Product}

-- The products of x with each entry of the list, from both sides.
unfoldable pub products_with : Product → ℕ → List ℕ → List ℕ
products_with s x l = flat_map (λ y. s x y ∷ s y x ∷ []) l

-- The products of the entry of r at `place`, counted from 0, with itself and each one before it.
unfoldable pub products_up_to : Product → List ℕ → ℕ → List ℕ
products_up_to s r place = products_with s (get_or r place 0) (take (place + 1) r)
