-- The earliest map of a kind as the first list that passes a test. Assumes nothing.
use mathlib.Core.Path.{◌≡◌}
use mathlib.Core.Bool.{Bool, ◌&&◌}
use mathlib.Core.List.{List}
use Prim.Native.Nat.{ℕ}
use Rattle.semigroups.specs.Lists.{find, earlier, lists}
use Rattle.semigroups.specs.Tables.{Product}
use Rattle.semigroups.specs.Maps.{Kind, is_map, maps, next, earliest}
use Rattle.semigroups.proofs.Lists.{find_keep}

module _ (m : ℕ) (s : Product) (n : ℕ) (t : Product) where
  module _ (kind : Kind) (b : List ℕ) where
    -- Whether f is a map of the kind that is later than b.
    abbrev pub later : List ℕ → Bool
    later f = is_map kind m s n t f && earlier b f

    pub earliest_later : earliest (next b) (maps kind m s n t) ≡ find later (lists m n)
    unfolding earliest maps
    earliest_later = find_keep (is_map kind m s n t) (earlier b) (lists m n)
