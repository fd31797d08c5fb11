-- What a call with a limit says and leaves, from its refusal and from the result of its work. Assumes nothing.
use mathlib.Core.Path.{◌≡◌, sym, ap, ap₂, ◌∙◌}
use mathlib.Core.Bool.{Bool, false}
use mathlib.Core.List.{List}
use mathlib.Core.Option.{Option, none, some, get_or}
use Prim.Native.Nat.{ℕ, ◌-◌, ◌≤◌, ◌<◌}
use Rattle.semigroups.specs.Questions.{Refusal}
use Rattle.semigroups.specs.Calls.{Answer, refused, gives}
use Rattle.semigroups.specs.Maps.{Kind, first, sought}
use Rattle.semigroups.specs.Trials.{Work, Limited, stopped, ended, limited, found_within}
use Rattle.semigroups.proofs.Trials.{limited_ends, limited_stops}
use Rattle.std.specs.Prelude.{Some, Result, Ok, Err, is_some}
use Rattle.backtrack.specs.declared.Ended.{Ended}
use Rattle.backtrack.specs.declared.Stopped.{Stopped}
use Rattle.backtrack.specs.InnerState.{within, ended_of}
use Rattle.calls.specs.Calls.{Lent, Called, called, refusal_of, leaving, marks_of}
use Rattle.calls.specs.Limited.{first_work, limited_call}
use Rattle.kinds.specs.Answers.{sought_if}
use Rattle.kinds.specs.InnerSearching.{searched, work_of}
use Rattle.kinds.proofs.Marked.{limited_by, left_of, limited_says}
use Rattle.kinds.proofs.Searching.{given}
use Rattle.kinds.proofs.Works.{first_work_law}

module _ (kind : Kind) (limit : ℕ) (l : Lent) where
  -- A refused call says its refusal, and not one lent byte is changed.
  pub refused_unchanged : (r : Refusal) → refusal_of l ≡ some r → limited_call kind limit l ≡ called (refused r) l.map_bytes l.scratch
  unfolding limited_call
  refused_unchanged r e = ap (λ (q : Option Refusal). leaving (marks_of kind l) l q (limited limit (first_work kind l)) (found_within limit (first_work kind l))) e

  module _ (p : refusal_of l ≡ none) where
    by_work : (a : Limited) (o : Option (List ℕ)) → (limited limit (first_work kind l) ≡ a) × (found_within limit (first_work kind l) ≡ o) → limited_call kind limit l ≡ leaving (marks_of kind l) l none a o
    unfolding limited_call
    by_work a o e = ap₂ (λ (q : Option Refusal) (a : Limited). leaving (marks_of kind l) l q a (found_within limit (first_work kind l))) p e.0 ∙ ap (leaving (marks_of kind l) l none a) e.1

    -- What a call says and leaves after the questions, from the result of its search.
    module _ (r : Result Ended Stopped) {bytes scratch : List ℕ} (h : called (gives r) bytes scratch ≡ searched kind false (Some limit) l) where
      abbrev done : Work
      done = work_of kind first l.m l.source l.n l.target

      outcome : r ≡ ended_of (within limit done)
      unfolding searched
      outcome = given (ap (λ (c : Called (Answer (Result Ended Stopped))). c.says) h)

      pub left_within : (d : Ended) → r ≡ Ok d → d.left ≤ limit
      left_within = left_of limit done r outcome

      pub as_limited : called (gives (limited_by limit r)) bytes scratch ≡ limited_call kind limit l
      unfolding searched limited_call
      as_limited =
          let said = limited_says limit done r outcome in
          let map = ap (λ (c : Called (Answer (Result Ended Stopped))). c.map_bytes) h ∙ ap (λ (o : Option (List ℕ)). get_or o l.map_bytes) said.1 in
          let marks = ap (λ (c : Called (Answer (Result Ended Stopped))). c.scratch) h in
          let says = said.0 in
          let made : called (gives (limited_by limit r)) bytes scratch ≡ leaving (marks_of kind l) l none (limited limit done) (found_within limit done) = cc in
          made
          ∙ ap (λ (w : Work). leaving (marks_of kind l) l none (limited limit w) (found_within limit w)) (sym (first_work_law kind l))
          ∙ ap (λ (q : Option Refusal). leaving (marks_of kind l) l q (limited limit (first_work kind l)) (found_within limit (first_work kind l))) (sym p)

      pub as_stopped : (e : Stopped) → r ≡ Err e → called (gives stopped) bytes scratch ≡ limited_call kind limit l
      as_stopped e i = ap (λ (q : Result Ended Stopped). called (gives (limited_by limit q)) bytes scratch) (sym i) ∙ as_limited

      pub as_ended : (d : Ended) → r ≡ Ok d → (b : Bool) → is_some d.map ≡ b → called (gives (ended (sought_if b) (limit - d.left))) bytes scratch ≡ limited_call kind limit l
      as_ended d i b e =
          ap (λ (c : Bool). called (gives (ended (sought_if c) (limit - d.left))) bytes scratch) (sym e)
          ∙ ap (λ (q : Result Ended Stopped). called (gives (limited_by limit q)) bytes scratch) (sym i) ∙ as_limited

    -- Whether a call is stopped or ends, by its work.
    pub stops : limit < (first_work kind l).trials → limited_call kind limit l ≡ leaving (marks_of kind l) l none stopped none
    stops h = by_work stopped none (limited_stops (first_work kind l) limit h)

    pub ends : (first_work kind l).trials ≤ limit → limited_call kind limit l ≡ leaving (marks_of kind l) l none (ended (sought (first_work kind l).found) (first_work kind l).trials) (first_work kind l).found
    ends h = by_work (ended (sought (first_work kind l).found) (first_work kind l).trials) (first_work kind l).found (limited_ends (first_work kind l) limit h)
