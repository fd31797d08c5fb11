-- The questions about a list: question 50 is asked of its entries as question 3 is asked of cells; and triples with their middle on the list.
-- Assumes nothing.
use mathlib.Core.Path.{◌≡◌, refl, subst}
use mathlib.Core.Bool.{Bool, true, false, ◌&&◌}
use mathlib.Core.List.{List, [], ◌∷◌}
use mathlib.Core.Option.{none, some}
use Prim.Native.Nat.{ℕ}
use lib.ListN.{get_or}
use Rattle.semigroups.specs.Lists.{at, member}
use Rattle.semigroups.specs.Tables.{Product, Element, associates, bad_cell}
use Rattle.semigroups.specs.InnerGenerated.{Inside}
use Rattle.semigroups.proofs.Booleans.{both, not_of_true, not_of_false, impossible}
use Rattle.semigroups.proofs.NoRepeats.{mem_place, place_mem}
use Rattle.semigroups.proofs.Tables.{cells_in_range, no_bad_cell}
use Rattle.products.proofs.Triples.{fails}

module _ (n : ℕ) (l : List ℕ) where
  pub entries_inside : bad_cell n l ≡ none → Inside n l
  entries_inside e x m = let w = mem_place 0 l m in subst (Element n) w.2 (cells_in_range n l e w.0 w.1)

  pub entry_outside : (k : ℕ) → bad_cell n l ≡ some k → Inside n l → ⊥
  entry_outside k e h =
      let q : bad_cell n l ≡ none = no_bad_cell n l (λ i u. h (get_or l i 0) (place_mem 0 l i u)) in
      impossible (cc)

-- ---- triples with their middle on the list

module _ (s : Product) (l : List ℕ) where
  -- Whether the triple t has its middle on the list and does not associate.
  abbrev pub fails_through : List ℕ → Bool
  fails_through t = member (at t 2) l && fails s t

  module _ (i j k : ℕ) where
    pub unlisted : member j l ≡ false → fails_through (i ∷ j ∷ k ∷ []) ≡ false
    unfolding at
    unlisted e = rw e

    pub no_failing_through : associates s i j k ≡ true → fails_through (i ∷ j ∷ k ∷ []) ≡ false
    unfolding at
    no_failing_through e = fine (member j l) (fails s (i ∷ j ∷ k ∷ [])) (not_of_true (associates s i j k) e)
      where
        fine : (a b : Bool) → b ≡ false → (a && b) ≡ false
        fine true b q = q
        fine false b q = refl

    pub failing_through : member j l ≡ true → associates s i j k ≡ false → fails_through (i ∷ j ∷ k ∷ []) ≡ true
    unfolding at
    failing_through m e = both (member j l) (fails s (i ∷ j ∷ k ∷ [])) m (not_of_false (associates s i j k) e)
