-- Searches with a limit between the worked tables, computed from the definitions.
-- Assumes nothing.
use Rattle.std.specs.Prelude.{◌≡◌, [], ◌∷◌, replicate}
use Rattle.std.proofs.Math.Option.{none, some}
use Rattle.semigroups.specs.Calls.{gives}
use Rattle.semigroups.specs.Maps.{embeddings, isomorphisms, reversed, found, nothing}
use Rattle.semigroups.specs.Trials.{work, stopped, ended}
use Rattle.semigroups.specs.Cases.{swap, left, right, two}
use Rattle.calls.specs.Calls.{Lent, lend}
use Rattle.calls.specs.Limited.{first_work, limited_call}

-- A call with swap as the source and the degree 2 table as the target.
abbrev pub swap_in_two : Lent
swap_in_two = lend swap.cells 2 two.cells 4 (0 ∷ 0 ∷ []) (replicate 8 0)

-- A call the other way round.
abbrev pub two_in_swap : Lent
two_in_swap = lend two.cells 4 swap.cells 2 (replicate 4 0) (replicate 8 0)

-- The search from swap to the degree 2 table takes four trials to the map `2,3`; in the other direction the orders rule a map out.
abbrev pub LimitsExamples : Type 0
LimitsExamples =
    ((limited_call embeddings 3 swap_in_two).says ≡ gives stopped)
    × ((limited_call embeddings 4 swap_in_two).says ≡ gives (ended found 4)) × ((limited_call embeddings 4 swap_in_two).map_bytes ≡ 2 ∷ 3 ∷ [])
    × ((limited_call embeddings 0 two_in_swap).says ≡ gives (ended nothing 0)) × ((limited_call isomorphisms 0 swap_in_two).says ≡ gives (ended nothing 0))

-- A call with left as the source and right as the target.
abbrev left_onto_right : Lent
left_onto_right = lend left.cells 2 right.cells 2 (0 ∷ 0 ∷ []) (replicate 4 0)

-- From left onto right a reversed map is found after two trials, and there is no candidate for a plain one; between tables of different orders no reversed
-- map is tried.
abbrev pub ReversedTrialsExamples : Type 0
ReversedTrialsExamples =
    (first_work reversed left_onto_right ≡ work (some (1 ∷ 2 ∷ [])) 2) × (first_work isomorphisms left_onto_right ≡ work none 0)
    × ((limited_call reversed 0 swap_in_two).says ≡ gives (ended nothing 0))
