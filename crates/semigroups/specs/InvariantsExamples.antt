-- Invariants of some elements, computed from the definitions.
-- Assumes nothing.
use Rattle.std.specs.Prelude.{◌≡◌, false, [], ◌∷◌}
use Rattle.semigroups.specs.Tables.{product}
use Rattle.semigroups.specs.Invariants.{IndexPeriod, profile, same_profile}

-- The two tables of order 3 `1,1,1/1,1,1/1,1,3` and `1,1,1/1,1,1/1,2,3`: their elements 3 have index, period and all four frequencies equal, and only the
-- count of commuting elements tells them apart (RULES 4.5).
abbrev pub CommutingExamples : Type 0
CommutingExamples =
    let s = product 3 (1 ∷ 1 ∷ 1 ∷ 1 ∷ 1 ∷ 1 ∷ 1 ∷ 1 ∷ 3 ∷ []) in
    let t = product 3 (1 ∷ 1 ∷ 1 ∷ 1 ∷ 1 ∷ 1 ∷ 1 ∷ 2 ∷ 3 ∷ []) in
    let powers : IndexPeriod = record { index = 1; period = 1; idempotent = 3 } in
    (profile 3 s 3 ≡ record { powers = powers; frequency = 1; diagonal = 1; row = 1; column = 1; commuting = 3 })
    × (profile 3 t 3 ≡ record { powers = powers; frequency = 1; diagonal = 1; row = 1; column = 1; commuting = 2 })
    × (same_profile (profile 3 s 3) (profile 3 t 3) ≡ false)
