-- What is placed, and x as the next image, of an attempt. Assumes nothing.
use Rattle.std.specs.Prelude.{List, [], ◌∷◌, ◌++◌, ℕ, take}
use Rattle.constraints.specs.declared.Attempt.{Attempt}

-- The list placed so far.
abbrev pub placed_in : Attempt → List ℕ
placed_in a = take a.len a.image.now

-- The list placed so far, and x.
abbrev pub longer : Attempt → List ℕ
longer a = placed_in a ++ a.x ∷ []
