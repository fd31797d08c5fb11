-- A search with a limit that is not stopped finds what the search finds. Assumes nothing.
use mathlib.Core.Path.{◌≡◌, refl, sym, ap, ◌∙◌}
use mathlib.Core.Bool.{Bool, true, false, cond, false≢true}
use Prim.Native.Nat.{ℕ, ◌-◌}
use lib.Dec.{leb}
use Rattle.semigroups.specs.Trials.{Work}
use Rattle.backtrack.specs.declared.Outcome.{Outcome}
use Rattle.backtrack.specs.InnerState.{found_in, exhausted, remaining, within, outcome_of}

pub not_stopped : (limit : ℕ) (w : Work) (r : Outcome) → r ≡ outcome_of (within limit w) → r.stopped ≡ false → record { stopped = false; left = 0; ok = r.ok; image = r.image } ≡ found_in w.found
unfolding within outcome_of
not_stopped limit w r e stop = go (leb w.trials limit) refl
  where
    go : (b : Bool) → leb w.trials limit ≡ b → record { stopped = false; left = 0; ok = r.ok; image = r.image } ≡ found_in w.found
    go true q =
        ap {B = Outcome} (λ (o : Outcome). record { stopped = false; left = 0; ok = o.ok; image = o.image }) (e ∙ ap (λ (b : Bool). outcome_of (cond b (remaining (limit - w.trials) w.found) exhausted)) q)
    go false q = absurd (false≢true (sym stop ∙ ap (λ (o : Outcome). o.stopped) (e ∙ ap (λ (b : Bool). outcome_of (cond b (remaining (limit - w.trials) w.found) exhausted)) q)))
