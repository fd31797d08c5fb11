-- What is claimed of every limit (RULES 9), at the call that the contracts cite, for any kind.
-- Assumes nothing.
use Rattle.std.specs.Prelude.{◌≡◌, ◌↔◌, false, List, ℕ, ◌≤◌, ◌<◌}
use Rattle.std.proofs.Math.Option.{some}
use Rattle.semigroups.specs.Questions.{Refusal}
use Rattle.semigroups.specs.Calls.{Answer, refused, gives}
use Rattle.semigroups.specs.Maps.{Kind, first, Sought, nothing}
use Rattle.semigroups.specs.Trials.{Limited, stopped, ended}
use Rattle.calls.specs.Calls.{Lent, lend, refusal_of, call}
use Rattle.search.specs.WantedLaws.{Passes}
use Rattle.calls.specs.Kinds.{order_fits}
use Rattle.calls.specs.Limited.{first_work, limited_call}

-- The answer of a search, with the number of trials.
abbrev pub after_trials : ℕ → Answer Sought → Answer Limited
after_trials trials (refused r) = refused r
after_trials trials (gives found-or-not) = gives (ended found-or-not trials)

-- What is claimed of a call that needs `trials` trials.
pub record Limits (kind : Kind) (l : Lent) (trials : ℕ) : Type 0 where
  -- It is stopped exactly if the limit is smaller than that.
  pub stopped_exactly : (limit : ℕ) → ((limited_call kind limit l).says ≡ gives stopped) ↔ (limit < trials)
  -- If it is stopped, it keeps the bytes of the map and fills scratch as "none" does.
  pub stopped_keeps : (limit : ℕ) → limit < trials → limited_call kind limit l ≡ record { says = gives stopped; map_bytes = l.map_bytes; scratch = (call kind first l).scratch }
  -- Otherwise it says and leaves what the search without a limit does, with the exact number of trials.
  pub ended_exactly : (limit : ℕ) → trials ≤ limit
      → limited_call kind limit l ≡ record { says = after_trials trials (call kind first l).says; map_bytes = (call kind first l).map_bytes; scratch = (call kind first l).scratch }
  -- A larger limit may turn "stopped" into an answer, and never changes a map or a "none".
  pub larger : (a b : ℕ) → a ≤ b → ((limited_call kind a l).says ≡ gives stopped → ⊥) → limited_call kind b l ≡ limited_call kind a l
  -- If the orders rule a map out, the answer is none, with 0 trials.
  pub unfit : order_fits kind l.m l.n ≡ false → (trials ≡ 0) × ((limit : ℕ) → (limited_call kind limit l).says ≡ gives (ended nothing 0))

-- What `Limits` claims holds for every call that no question refuses, of every kind; a refused call says its refusal and changes no byte. "None" changes no
-- byte of the map. Two calls that lend different scratch buffers, both long enough, say the same and leave the same map.
pub record LimitsTheorem : Type 0 where
  pub answered : (kind : Kind) (l : Lent) → Passes l → Limits kind l (first_work kind l).trials
  pub refused_unchanged : (kind : Kind) (limit : ℕ) (l : Lent) (r : Refusal) → refusal_of l ≡ some r
      → limited_call kind limit l ≡ record { says = refused r; map_bytes = l.map_bytes; scratch = l.scratch }
  pub none_keeps_map : (kind : Kind) (limit trials : ℕ) (l : Lent) → (limited_call kind limit l).says ≡ gives (ended nothing trials) → (limited_call kind limit l).map_bytes ≡ l.map_bytes
  pub scratch_apart : (kind : Kind) (limit : ℕ) (source : List ℕ) (m : ℕ) (target : List ℕ) (n : ℕ) (bytes one other : List ℕ) → Passes (lend source m target n bytes one) → Passes (lend source m target n bytes other)
      → ((limited_call kind limit (lend source m target n bytes one)).says ≡ (limited_call kind limit (lend source m target n bytes other)).says)
      × ((limited_call kind limit (lend source m target n bytes one)).map_bytes ≡ (limited_call kind limit (lend source m target n bytes other)).map_bytes)
