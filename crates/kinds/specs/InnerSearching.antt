-- What a search returns and leaves once every question has passed, with a limit or without. No contract of an entry point cites this.
-- Assumes nothing.
use Rattle.std.specs.Prelude.{Bool, cond, List, [], ℕ, take, Option as Optional, None, Some, Result, Ok, Err}
use Rattle.std.proofs.Math.Option.{none, Option}
use Rattle.semigroups.specs.Calls.{Answer}
use Rattle.semigroups.specs.Maps.{Kind, Ask, Sought, sought}
use Rattle.semigroups.specs.Candidates.{candidate}
use Rattle.semigroups.specs.Tables.{product}
use Rattle.semigroups.specs.Scratch.{marked}
use Rattle.semigroups.specs.Trials.{Work, work}
use Rattle.semigroups.specs.InnerTrials.{counted}
use Rattle.backtrack.specs.declared.Ended.{Ended}
use Rattle.backtrack.specs.declared.Stopped.{Stopped}
use Rattle.backtrack.specs.InnerState.{bounded, Remainder, exhausted, remaining, within, ended_of}
use Rattle.calls.specs.Calls.{Lent, Called, leaving, answer_of, marks_of}
use Rattle.calls.specs.Kinds.{order_fits}
use Rattle.calls.specs.Limited.{read_by}

-- What a call says and leaves once every question has passed.
unfoldable pub answered : Kind → Ask → Lent → Called (Answer Sought)
answered kind ask l = leaving (marks_of kind l) l none (sought (answer_of kind ask l)) (answer_of kind ask l)

-- The work of the search for the map of the kind that is asked for. If the orders rule a map out, there is no trial and no map.
unfoldable pub work_of : Kind → Ask → ℕ → List ℕ → ℕ → List ℕ → Work
work_of kind ask m source n target =
    let s = product m source in
    let t = product n target in
    let searched = counted s (read_by kind t) (candidate kind m s n t) ask n m [] in
    cond (order_fits kind m n) searched (work none 0)

-- How many trials a limit allows; 0 without a limit, since trials are not counted then.
abbrev pub trials_in : Optional ℕ → ℕ
trials_in None = 0
trials_in (Some limit) = limit

-- What becomes of the work under a limit; without a limit the trials are not counted, and none is left.
abbrev pub remainder_under : Optional ℕ → Work → Remainder
remainder_under None w = remaining 0 w.found
remainder_under (Some limit) w = within limit w

-- The map that is found, or none.
abbrev pub map_in : Remainder → Option (List ℕ)
map_in exhausted = none
map_in (remaining left o) = o

-- The result of a search between accepted tables, for the first map or, with `next`, for the next one after the bytes of the map buffer.
unfoldable pub searched : Kind → Bool → Optional ℕ → Lent → Called (Answer (Result Ended Stopped))
searched kind next limit l =
    let r = remainder_under limit (work_of kind (bounded next l.map_bytes) l.m l.source l.n l.target) in
    leaving (marks_of kind l) l none (ended_of r) (map_in r)

-- The work of the search over the marks in scratch.
abbrev pub marked_work : Bool → ℕ → List ℕ → ℕ → List ℕ → List ℕ → List ℕ → Work
marked_work next m source n target bytes scratch = counted (product m source) (product n target) (marked n scratch) (bounded next bytes) n m []

-- The images that a search found, as the code holds them.
abbrev pub image_in : Result Ended Stopped → Optional (List ℕ)
image_in (Ok e) = e.map
image_in (Err e) = None

-- What the map buffer holds once the m images that were found, if any, are written to it.
abbrev pub put : ℕ → Optional (List ℕ) → List ℕ → List ℕ
put m (Some image) bytes = take m image
put m None bytes = bytes
