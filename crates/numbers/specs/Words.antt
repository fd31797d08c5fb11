-- The layout of an answer as sixteen numbers (RULES 7.6). Assumes nothing.
use Rattle.std.specs.Prelude.{List, ◌∷◌, ◌++◌, ℕ, ◌-◌, length, replicate}

-- A number, a side and all the values, followed by zeros: sixteen numbers in all if there are at most fourteen values.
abbrev pub words : ℕ → ℕ → List ℕ → List ℕ
words number side values = number ∷ side ∷ (values ++ replicate (14 - length values) 0)
