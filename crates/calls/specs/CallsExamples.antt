-- What some calls say and leave, computed from the definitions: the group of order 2, whose element 1 is its identity, and the table of all transformations
-- of two points. In it the group stands once, as the identity 2 and the exchange 3. Bytes 7, 8 and 9 are what the buffers held before.
-- Assumes nothing.
use Rattle.std.specs.Prelude.{◌≡◌, List, [], ◌∷◌, ℕ}
use Rattle.semigroups.specs.Calls.{gives}
use Rattle.semigroups.specs.Maps.{embeddings, first, next, found, nothing}
use Rattle.semigroups.specs.Trials.{stopped, ended}
use Rattle.semigroups.specs.Copies as copies
use Rattle.calls.specs.Calls.{Lent, lend, call}
use Rattle.calls.specs.Limited.{limited_call}
use Rattle.calls.specs.Among.{call_among}
use Rattle.calls.specs.Subsemigroups.{subsemigroup_says, part_after, elements_after}
use Rattle.calls.specs.Copies.{copies_says, copies_scratch}

-- The group of order 2.
abbrev pub group : List ℕ
group = 1 ∷ 2 ∷ 2 ∷ 1 ∷ []

-- The table of all transformations of two points.
abbrev pub degree_two : List ℕ
degree_two = 1 ∷ 1 ∷ 4 ∷ 4 ∷ 1 ∷ 2 ∷ 3 ∷ 4 ∷ 1 ∷ 3 ∷ 2 ∷ 4 ∷ 1 ∷ 4 ∷ 1 ∷ 4 ∷ []

-- A call with the group as the source and that table as the target.
abbrev pub group_in_two : Lent
group_in_two = lend group 2 degree_two 4 (7 ∷ 8 ∷ []) (9 ∷ 9 ∷ [])

-- The embedding `2,3` is found and is the only one. 1 may go to 1, 2 and 4, and 2 to 3: the bits worth 1, 2, 8 and 64.
abbrev pub SearchExamples : Type 0
SearchExamples =
    ((call embeddings first group_in_two).says ≡ gives found) × ((call embeddings first group_in_two).map_bytes ≡ 2 ∷ 3 ∷ []) × ((call embeddings first group_in_two).scratch ≡ 75 ∷ 9 ∷ [])
    × ((call embeddings (next (2 ∷ 3 ∷ [])) group_in_two).says ≡ gives nothing) × ((call embeddings (next (2 ∷ 3 ∷ [])) group_in_two).map_bytes ≡ 7 ∷ 8 ∷ [])

-- It takes four trials.
abbrev pub LimitedExamples : Type 0
LimitedExamples =
    ((limited_call embeddings 4 group_in_two).says ≡ gives (ended found 4)) × ((limited_call embeddings 4 group_in_two).map_bytes ≡ 2 ∷ 3 ∷ [])
    × ((limited_call embeddings 3 group_in_two).says ≡ gives stopped) × ((limited_call embeddings 3 group_in_two).map_bytes ≡ 7 ∷ 8 ∷ [])

-- All pairs allow it; without the pair of 1 and 2 it is not allowed, and that mark is cleared.
abbrev pub CallAmongExamples : Type 0
CallAmongExamples =
    ((call_among first (255 ∷ []) group_in_two).says ≡ gives found) × ((call_among first (255 ∷ []) group_in_two).map_bytes ≡ 2 ∷ 3 ∷ [])
    × ((call_among first (253 ∷ []) group_in_two).says ≡ gives nothing) × ((call_among first (253 ∷ []) group_in_two).scratch ≡ 73 ∷ 9 ∷ [])

-- The exchange generates the group.
abbrev pub SubsemigroupCallExamples : Type 0
SubsemigroupCallExamples =
    (subsemigroup_says 4 degree_two (3 ∷ []) 5 3 ≡ gives 2) × (elements_after 4 degree_two (3 ∷ []) 5 (9 ∷ 9 ∷ 9 ∷ []) ≡ 2 ∷ 3 ∷ 9 ∷ [])
    × (part_after 4 degree_two (3 ∷ []) (9 ∷ 9 ∷ 9 ∷ 9 ∷ 9 ∷ []) 3 ≡ 1 ∷ 2 ∷ 2 ∷ 1 ∷ 9 ∷ [])

-- The group has one copy in that table.
abbrev pub CopiesCallExamples : Type 0
CopiesCallExamples = (copies_says 2 group 4 degree_two 2 ≡ gives (copies.number 1)) × (copies_scratch 2 group 4 degree_two (9 ∷ 9 ∷ []) ≡ 75 ∷ 9 ∷ [])
