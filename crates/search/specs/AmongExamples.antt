-- Searches among given pairs between the worked tables, computed from the definitions.
-- Assumes nothing.
use Rattle.std.specs.Prelude.{◌≡◌, List, [], ◌∷◌, ℕ}
use Rattle.semigroups.specs.InnerQuestions.{no}
use Rattle.semigroups.specs.Calls.{refused, gives}
use Rattle.semigroups.specs.Maps.{first, next, found, nothing}
use Rattle.semigroups.specs.Cases.{left}
use Rattle.calls.specs.Calls.{Lent, lend, called}
use Rattle.calls.specs.Among.{call_among}

-- A call with the table left as source and target, and these bytes in the map buffer.
abbrev pub left_in_left : List ℕ → Lent
left_in_left bytes = lend left.cells 2 left.cells 2 bytes (0 ∷ 7 ∷ [])

-- Calls with pairs that allow only the exchange; with other unused bits and a later byte; after the exchange; with pairs that leave element 2 no image;
-- and with no byte of pairs.
abbrev pub AmongExamples : Type 0
AmongExamples =
    (call_among first (6 ∷ []) (left_in_left (0 ∷ 0 ∷ [])) ≡ called (gives found) (2 ∷ 1 ∷ []) (6 ∷ 7 ∷ []))
    × (call_among (next (1 ∷ 2 ∷ [])) (246 ∷ 9 ∷ []) (left_in_left (1 ∷ 2 ∷ [])) ≡ called (gives found) (2 ∷ 1 ∷ []) (6 ∷ 7 ∷ []))
    × (call_among (next (2 ∷ 1 ∷ [])) (6 ∷ []) (left_in_left (2 ∷ 1 ∷ [])) ≡ called (gives nothing) (2 ∷ 1 ∷ []) (6 ∷ 7 ∷ []))
    × (call_among first (3 ∷ []) (left_in_left (0 ∷ 0 ∷ [])) ≡ called (gives nothing) (0 ∷ 0 ∷ []) (3 ∷ 7 ∷ []))
    × (call_among first [] (left_in_left (0 ∷ 0 ∷ [])) ≡ called (refused (no 70 [])) (0 ∷ 0 ∷ []) (0 ∷ 7 ∷ []))
