-- How the numbers of a refusal stand among the sixteen of an answer. Assumes nothing.
use Rattle.std.specs.Prelude.{List, [], ◌∷◌, ℕ}
use Rattle.numbers.specs.Words.{words}
use Rattle.answers.specs.declared.Refusal.{Refusal as Numbers}

-- The sixteen numbers of a refusal that is given as numbers.
abbrev pub numbers_words : Numbers → List ℕ
numbers_words r = words r.number r.side (r.first ∷ r.second ∷ r.third ∷ [])
