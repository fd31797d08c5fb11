-- A refused call, and "none of these", change no byte.
-- Assumes nothing.
use Rattle.std.specs.Prelude.{◌≡◌, List, ℕ, length}
use Rattle.std.proofs.Math.Option.{none}
use Rattle.semigroups.specs.Questions.{Refusal}
use Rattle.semigroups.specs.Calls.{refused, gives}
use Rattle.planning.specs.Calls.{degree_says, positions_after}

-- A refusal and "none of these" change no byte of the buffer.
abbrev pub PositionsKept : Type 0
PositionsKept =
    (m : ℕ) (cells before : List ℕ)
    → ((r : Refusal) → degree_says m cells (length before) ≡ refused r → positions_after m cells before ≡ before) × (degree_says m cells (length before) ≡ gives none → positions_after m cells before ≡ before)
