-- A refusal loses nothing when it is given as numbers. Assumes nothing.
use Rattle.std.specs.Prelude.{◌≤◌, length}
use Rattle.semigroups.specs.Questions.{Refusal}

-- A refusal carries at most three values, so its numbers lose nothing.
abbrev pub Brief : Refusal → Type 0
Brief r = length r.values ≤ 3
