-- What a partial map has placed. Assumes nothing.
use Rattle.std.specs.Prelude.{List, ℕ, take, Result, Ok, Err}
use Rattle.placing.specs.declared.Partial.{Partial}

-- The list placed so far.
abbrev pub prefix : Partial → List ℕ
prefix p = take p.len p.image

-- The map that a test hands back, whether its list passes or not.
abbrev pub handed_back : Result Partial Partial → Partial
handed_back (Ok p) = p
handed_back (Err p) = p
