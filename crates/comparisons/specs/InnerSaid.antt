-- The answer of a search, with a refusal as the number of its question (RULES 7). Assumes nothing.
use mathlib.Core.Bool.{beq}
use Rattle.std.specs.Prelude.{Bool, true, false, ℕ, eqb, Result, Ok, Err}
use Rattle.std.specs.Result.{result_eq}
use Rattle.semigroups.specs.Calls.{Answer, refused, gives}
use Rattle.semigroups.specs.Maps.{Sought, found, nothing}

-- The answer of a search: whether a map is found, or the number of the question that fails.
abbrev pub search_said : Answer Sought → Result Bool ℕ
search_said (gives found) = Ok true
search_said (gives nothing) = Ok false
search_said (refused r) = Err r.number

-- Whether both say that a map is found, or none, or that the same question fails.
abbrev pub same_search : Result Bool ℕ → Result Bool ℕ → Bool
same_search = result_eq beq eqb
