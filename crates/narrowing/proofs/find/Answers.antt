use Rattle.std.proofs.Common.{◌≡◌, ap, ◌∙◌, ℕ, Bool, true, false, cond, leb, ◌-◌}
use Rattle.std.specs.Prelude.{Ok}
use Rattle.semigroups.specs.Trials.{Work}
use Rattle.semigroups.proofs.Trials.{counted_finds}
use Rattle.backtrack.specs.declared.Ended.{Ended}
use Rattle.backtrack.specs.InnerState.{exhausted, remaining, within, padded, ended_of}
use Rattle.narrowing.proofs.find.Goals as goal

-- A search that is not stopped finds what its work finds.
not_stopped : (limit : ℕ) (w : Work) (d : Ended) → Ok d ≡ ended_of (within limit w) → d.map ≡ padded w.found
unfolding within ended_of
not_stopped limit w d e = go (leb w.trials limit) e
  where
    go : (b : Bool) → Ok d ≡ ended_of (cond b (remaining (limit - w.trials) w.found) exhausted) → d.map ≡ padded w.found
    go true e = let k : d ≡ record { left = limit - w.trials; map = padded w.found } = cc in ap (λ (x : Ended). x.map) k
    go false e = cc

pub returns-in-Ok : goal.returns-in-Ok
returns-in-Ok c = record { answer = not_stopped _ _ c.in-Ok.easy c.in-Ok.ensures.answer ∙ ap padded (counted_finds _ _ _ _ _ _ _) }
