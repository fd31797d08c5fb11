-- What the contracts of the search say of its state, a partial map, and of its result. Assumes nothing.
use Rattle.std.specs.Prelude.{◌≡◌, Bool, true, false, cond, List, [], ◌++◌, ℕ, ◌-◌, ◌≤◌, leb, length, take, replicate, Option as Optional, None, Some, Result, Ok, Err}
use Rattle.std.proofs.Math.Option.{Option, none, some}
use Rattle.semigroups.specs.Lists.{is_some}
use Rattle.semigroups.specs.Scratch.{marked}
use Rattle.semigroups.specs.Maps.{Ask, first, next}
use Rattle.semigroups.specs.Trials.{passes, Work}
use Rattle.semigroups.specs.InnerTrials.{counted}
use Rattle.products.specs.Tables.{times_of}
use Rattle.constraints.specs.declared.Required.{Required}
use Rattle.constraints.specs.InnerTracking.{Placing, Tracks}
use Rattle.placing.specs.declared.Partial.{Partial}
use Rattle.placing.specs.InnerPlaced.{prefix}
use Rattle.backtrack.specs.declared.Outcome.{Outcome}
use Rattle.backtrack.specs.declared.asked.Search.{Search}
use Rattle.backtrack.specs.declared.Ended.{Ended}
use Rattle.backtrack.specs.declared.Stopped.{Stopped}

-- How many trials a search without a limit makes at most before a search with rows takes over.
abbrev pub first_trials : ℕ
first_trials = 8000

-- What becomes of the trials that a search may take: they are not enough; or this many are left, with what is found.
pub data Remainder : Type 0 where
  exhausted : Remainder
  remaining : ℕ → Option (List ℕ) → Remainder

-- The result of a search that may take this many trials.
unfoldable pub within : ℕ → Work → Remainder
within limit w = cond (leb w.trials limit) (remaining (limit - w.trials) w.found) exhausted

-- The images of a map, followed by zeros; only zeros if there is none.
unfoldable pub images_in : Option (List ℕ) → List ℕ
images_in (some f) = f ++ replicate (120 - length f) 0
images_in none = replicate 120 0

-- The result of a search as the code holds it.
unfoldable pub outcome_of : Remainder → Outcome
outcome_of exhausted = record { stopped = true; left = 0; ok = false; image = replicate 120 0 }
outcome_of (remaining left o) = record { stopped = false; left = left; ok = is_some o; image = images_in o }

-- The result of a search without a limit, which counts no trials.
abbrev pub found_in : Option (List ℕ) → Outcome
found_in o = outcome_of (remaining 0 o)

-- What is asked of a search: for true the next map after the list, for false the first one.
abbrev pub bounded : Bool → List ℕ → Ask
bounded true after = next after
bounded false after = first

-- The map of a search as the code holds it: its images, followed by zeros.
abbrev pub padded : Option (List ℕ) → Optional (List ℕ)
padded none = None
padded (some f) = Some (f ++ replicate (120 - length f) 0)

-- The result of a search as the code answers it.
unfoldable pub ended_of : Remainder → Result Ended Stopped
ended_of exhausted = Err (record {})
ended_of (remaining left o) = Ok (record { left = left; map = padded o })

-- The work of the whole search: for the first map or, for true, for the next one.
abbrev pub asked : Search → Bool → Work
asked w later = counted (times_of w.source.now) (times_of w.target.now) (marked w.target.now.order w.scratch.now) (bounded later w.after.now) w.target.now.order w.source.now.order []

-- The work of the search that goes on from a partial map.
abbrev pub ahead : Search → Bool → Partial → Work
ahead w tight p =
    counted (times_of w.source.now) (times_of w.target.now) (marked w.target.now.order w.scratch.now) (bounded tight w.after.now) w.target.now.order (w.source.now.order - p.len) (prefix p)

-- What holds whenever the search goes on from a partial map, with what its list requires without the newest element.
pub record Ready (w : Search) (tight : Bool) (known : Required) (p : Partial) : Type 0 where
  pub placing : Placing w.target.now.order p.image p.used p.len
  pub tracks : Tracks (times_of w.source.now) (times_of w.target.now) (take (p.len - 1) p.image) (p.len - 1) 0 known.forced known.owner
  pub within : p.len ≤ w.source.now.order
  pub passed : passes (times_of w.source.now) (times_of w.target.now) (prefix p) ≡ true
  pub same : tight ≡ true → take p.len w.after.now ≡ prefix p
