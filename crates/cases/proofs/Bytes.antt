-- When two buffers hold the same bytes. Assumes nothing.
use mathlib.Core.Path.{◌≡◌, refl, sym}
use mathlib.Core.Bool.{Bool, true, false}
use mathlib.Core.List.{List}
use Prim.Native.Nat.{ℕ}
use Rattle.semigroups.specs.Copies.{same_list}
use Rattle.semigroups.proofs.Copies.{same_list_law, list_same}

-- A test that holds exactly of equal lists is `same_list`.
pub same_bytes : (a b : List ℕ) (r : Bool) → (r ≡ true → a ≡ b) → (a ≡ b → r ≡ true) → r ≡ same_list a b
same_bytes a b true to from = sym (list_same a b (to refl))
same_bytes a b false to from = go (same_list a b) refl
  where
    go : (s : Bool) → same_list a b ≡ s → false ≡ s
    go true e = from (same_list_law a b e)
    go false e = refl
