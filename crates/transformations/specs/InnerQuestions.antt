-- Question 9, as the function that writes a table asks it. No contract of an entry point cites this. Assumes nothing.
use Rattle.std.specs.Prelude.{[], ◌∷◌, ℕ, leb}
use Rattle.std.proofs.Math.Option.{Option}
use Rattle.semigroups.specs.Questions.{Refusal, ask, first_no}

-- The refusal by question 9 of a buffer of `size` bytes for a table of `need` cells, if it fails.
abbrev pub room_refusal : ℕ → ℕ → Option Refusal
room_refusal need size = first_no (ask 9 (leb need size) ∷ [])
