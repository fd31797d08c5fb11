-- The trials of some searches, computed from the definitions.
-- Assumes nothing.
use Rattle.std.specs.Prelude.{◌≡◌, [], ◌∷◌}
use Rattle.std.proofs.Math.Option.{none, some}
use Rattle.semigroups.specs.Tables.{product}
use Rattle.semigroups.specs.Maps.{embeddings, nothing}
use Rattle.semigroups.specs.Candidates.{candidate}
use Rattle.semigroups.specs.Cases.{swap, left, two}
use Rattle.semigroups.specs.Trials.{work, search_work, limited, stopped, ended}

-- From `1,1,1/1,3,3/1,3,3` to `1,1,3/1,1,3/3,3,3`: placing 1 on 1 and 2 on 2 fails, since 2·2 is 3, which is not placed, and 2·2 in the target is 1, an image
-- already used. So five trials find `3,2,1`; if products outside the list were not looked at, placing 3 on 3 would be a sixth.
abbrev pub OutsideExample : Type 0
OutsideExample =
    let s = product 3 (1 ∷ 1 ∷ 1 ∷ 1 ∷ 3 ∷ 3 ∷ 1 ∷ 3 ∷ 3 ∷ []) in
    let t = product 3 (1 ∷ 1 ∷ 3 ∷ 1 ∷ 1 ∷ 3 ∷ 3 ∷ 3 ∷ 3 ∷ []) in
    search_work s t (candidate embeddings 3 s 3 t) 3 3 [] ≡ work (some (3 ∷ 2 ∷ 1 ∷ [])) 5

-- From swap to the degree 2 table, where 1 may go to 1, 2 and 4, and 2 may go to 3: the placings 1 on 1, 2 on 3, 1 on 2, 2 on 3 make four trials, and the
-- last one completes the map `2,3`. From the degree 2 table to swap, 2 may only go where 1 went: one trial. From a group whose element 1 has period 2 to
-- left, which has no such element: no trial.
abbrev pub TrialsExamples : Type 0
TrialsExamples =
    let s = product 2 swap.cells in
    let t = product 4 two.cells in
    let u = product 2 (2 ∷ 1 ∷ 1 ∷ 2 ∷ []) in
    let v = product 2 left.cells in
    (search_work s t (candidate embeddings 2 s 4 t) 4 2 [] ≡ work (some (2 ∷ 3 ∷ [])) 4)
    × (search_work t s (candidate embeddings 4 t 2 s) 2 4 [] ≡ work none 1)
    × (search_work u v (candidate embeddings 2 u 2 v) 2 2 [] ≡ work none 0)
    × (limited 3 (work none 4) ≡ stopped) × (limited 4 (work none 4) ≡ ended nothing 4)
