-- One call of a search, compared with constants: what RULES 23.2 prints of it. Assumes nothing.
use Rattle.std.specs.Prelude.{Bool, true, false, List, ◌++◌, ℕ, Result, Ok, take, drop, replicate}
use Rattle.semigroups.specs.Calls.{Answer}
use Rattle.semigroups.specs.Maps.{Kind, Sought}
use Rattle.semigroups.specs.Copies.{same_list}
use Rattle.calls.specs.Calls.{Called, lend, call}
use Rattle.backtrack.specs.InnerState.{bounded}
use Rattle.judging.specs.declared.tally.Tally.{Tally}
use Rattle.judging.specs.InnerTally.{counted}
use Rattle.comparisons.specs.InnerSaid.{search_said, same_search}

module _ (kind : Kind) (next : Bool) (source : List ℕ) (m : ℕ) (target : List ℕ) (n : ℕ) (before : List ℕ) where
  -- The call on the first m bytes of an array of 5.
  abbrev pub told_call : Called (Answer Sought)
  told_call = call kind (bounded next (take m before)) (lend source m target n (take m before) (replicate 140 7))

  -- The tally after two comparisons: whether the call says this, and whether the array is this afterwards.
  abbrev pub told_tally : Result Bool ℕ → List ℕ → Tally → Tally
  told_tally said after t = counted (counted t (same_search (search_said told_call.says) said)) (same_list (told_call.map_bytes ++ drop m before) after)

-- The tally after both comparisons of two calls: the first, which finds a map and leaves it in the array, and the next one, which starts from that map.
abbrev pub first_two : Kind → List ℕ → ℕ → List ℕ → ℕ → List ℕ → Result Bool ℕ → List ℕ → Tally → Tally
first_two kind source m target n first said second t = told_tally kind true source m target n first said second (told_tally kind false source m target n (replicate 5 0) (Ok true) first t)
