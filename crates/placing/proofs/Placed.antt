-- What holds of a map holds when it is handed on with one more image. Assumes nothing.
use mathlib.Core.Path.{◌≡◌}
use mathlib.Core.List.{List}
use Prim.Native.Nat.{ℕ, ◌+◌, ◌-◌}
use native.Mathlib.Omega.{arith}
use lib.ListN.{take}
use Rattle.semigroups.specs.Tables.{Product}
use Rattle.constraints.specs.InnerTracking.{Tracks}
use Rattle.placing.specs.declared.Partial.{Partial}
use Rattle.placing.specs.InnerPlaced.{prefix}

-- The constraints still track a map that is handed on with one more image.
pub handed_on : (s t : Product) (p q : Partial) → q.len ≡ p.len + 1 → take p.len q.image ≡ prefix p → (forced owner : List ℕ) → Tracks s t (prefix p) p.len 0 forced owner
    → Tracks s t (take (q.len - 1) q.image) (q.len - 1) 0 forced owner
handed_on s t p q el ep forced owner W = let e : q.len - 1 ≡ p.len = omega arith in rw (e, ep) W
