-- What the functions that ask no questions leave, from the work that is done. Assumes nothing.
use mathlib.Core.Path.{◌≡◌, refl, sym, ap, ◌∙◌}
use mathlib.Core.Bool.{Bool, true, false, cond}
use mathlib.Core.List.{List}
use mathlib.Core.Option.{Option, none, some, get_or}
use Prim.Native.Nat.{ℕ}
use Rattle.semigroups.specs.Tables.{product, Accepted}
use Rattle.semigroups.specs.Calls.{Answer, gives}
use Rattle.semigroups.specs.InnerCalls.{scratch_after}
use Rattle.semigroups.specs.Maps.{Kind, Ask, Sought, sought}
use Rattle.semigroups.specs.Candidates.{candidate}
use Rattle.semigroups.specs.Trials.{Work}
use Rattle.semigroups.proofs.Calls.{found_ne_nothing}
use Rattle.std.specs.Prelude.{None, Option as Optional, Result, is_some}
use Rattle.backtrack.specs.declared.Ended.{Ended}
use Rattle.backtrack.specs.declared.Stopped.{Stopped}
use Rattle.backtrack.specs.InnerState.{bounded, ended_of}
use Rattle.kinds.specs.Answers.{sought_if}
use Rattle.calls.specs.Calls.{Lent, Called, called, answer_of, leaving, marks_of}
use Rattle.calls.specs.Allowed.{allowed_candidate}
use Rattle.calls.specs.Among.{answer_among}
use Rattle.kinds.specs.InnerSearching.{answered, remainder_under, map_in, searched, work_of, image_in}
use Rattle.kinds.specs.InnerAmong.{leaving_among, answered_among}
use Rattle.kinds.proofs.Marked.{unlimited_says}
use Rattle.kinds.proofs.Works.{work_finds}

-- The three parts of a call are equal if the calls are.
pub parts : {A : Type 0} {says : Answer A} {bytes scratch : List ℕ} {c : Called (Answer A)} → called says bytes scratch ≡ c → (says ≡ c.says) × ((bytes ≡ c.map_bytes) × (scratch ≡ c.scratch))
parts {A = A} e = (ap (λ (c : Called (Answer A)). c.says) e, (ap (λ (c : Called (Answer A)). c.map_bytes) e, ap (λ (c : Called (Answer A)). c.scratch) e))

module _ (kind : Kind) (next : Bool) (limit : Optional ℕ) (l : Lent) where
  -- What a search says and leaves, from the outcome, the map and the marks, by its work.
  pub as_searched : (r : Result Ended Stopped) {bytes scratch : List ℕ} (w : Work) → work_of kind (bounded next l.map_bytes) l.m l.source l.n l.target ≡ w
      → r ≡ ended_of (remainder_under limit w) → bytes ≡ get_or (map_in (remainder_under limit w)) l.map_bytes
      → scratch ≡ scratch_after l.m l.n (candidate kind l.m (product l.m l.source) l.n (product l.n l.target)) l.scratch
      → called (gives r) bytes scratch ≡ searched kind next limit l
  unfolding searched scratch_after
  as_searched r {bytes = bytes} {scratch = scratch} w e f g h =
      let made : called (gives r) bytes scratch ≡ leaving (marks_of kind l) l none (ended_of (remainder_under limit w)) (map_in (remainder_under limit w)) = cc in
      made ∙ ap (λ (w : Work). leaving (marks_of kind l) l none (ended_of (remainder_under limit w)) (map_in (remainder_under limit w))) (sym e)

-- ---- without a limit

pub given : {A : Type 0} {a b : A} → gives a ≡ gives b → a ≡ b
given e = cc

module _ (kind : Kind) (next : Bool) (l : Lent) (a : Accepted l.m l.source) (b : Accepted l.n l.target) where
  -- What a search without a limit finds is the map asked for.
  pub as_answered : (r : Result Ended Stopped) {bytes scratch : List ℕ} → called (gives r) bytes scratch ≡ searched kind next None l
      → called (gives (sought_if (is_some (image_in r)))) bytes scratch ≡ answered kind (bounded next l.map_bytes) l
  unfolding searched answered
  as_answered r {bytes = bytes} {scratch = scratch} e =
      let w = work_of kind (bounded next l.map_bytes) l.m l.source l.n l.target in
      let says = unlimited_says w r (given (ap (λ (c : Called (Answer (Result Ended Stopped))). c.says) e)) in
      let map = ap (λ (c : Called (Answer (Result Ended Stopped))). c.map_bytes) e in
      let marks = ap (λ (c : Called (Answer (Result Ended Stopped))). c.scratch) e in
      let made : called (gives (sought_if (is_some (image_in r)))) bytes scratch ≡ leaving (marks_of kind l) l none (sought w.found) w.found = cc in
      made ∙ ap (λ (o : Option (List ℕ)). leaving (marks_of kind l) l none (sought o) o) (work_finds kind (bounded next l.map_bytes) l.m l.source l.n l.target a b)

module _ (kind : Kind) (l : Lent) (ask : Ask) where
  -- The map asked for, from whether there is one and what is left in the map buffer.
  pub map_asked : (r : Bool) {bytes scratch : List ℕ} → called (gives (sought_if r)) bytes scratch ≡ answered kind ask l → cond r (some bytes) none ≡ answer_of kind ask l
  unfolding answered
  map_asked r {bytes = bytes} {scratch = scratch} e = go r (answer_of kind ask l) e
    where
      go : (r : Bool) (o : Option (List ℕ)) → called (gives (sought_if r)) bytes scratch ≡ leaving (marks_of kind l) l none (sought o) o → cond r (some bytes) none ≡ o
      go true (some f) e = ap (λ (c : Called (Answer Sought)). some c.map_bytes) e
      go false none e = refl
      go true none e = absurd (found_ne_nothing (ap (λ (c : Called (Answer Sought)). c.says) e))
      go false (some f) e = absurd (found_ne_nothing (sym (ap (λ (c : Called (Answer Sought)). c.says) e)))

-- ---- among given pairs

module _ (ask : Ask) (pairs : List ℕ) (l : Lent) where
  -- What a search among pairs says and leaves, from the outcome, the map and the marks, by the embedding asked for.
  pub as_answered_among : (r : Bool) {bytes scratch : List ℕ} (o : Option (List ℕ)) → answer_among ask pairs l ≡ o → sought_if r ≡ sought o → bytes ≡ get_or o l.map_bytes
      → scratch ≡ scratch_after l.m l.n (allowed_candidate l.m (product l.m l.source) l.n (product l.n l.target) pairs) l.scratch
      → called (gives (sought_if r)) bytes scratch ≡ answered_among ask pairs l
  unfolding answered_among scratch_after
  as_answered_among r {bytes = bytes} {scratch = scratch} o e f g h =
      let made : called (gives (sought_if r)) bytes scratch ≡ leaving_among pairs l none o = cc in
      made ∙ ap (leaving_among pairs l none) (sym e)
