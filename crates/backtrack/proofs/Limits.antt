-- What is left of a limit after works in turn: each goes on from what the one before leaves. Assumes nothing.
use mathlib.Core.Path.{◌≡◌, refl, sym, ap, ap₂, ◌∙◌}
use mathlib.Core.Bool.{Bool, true, false, cond, false≢true}
use mathlib.Core.Option.{Option, none, some}
use mathlib.Core.List.{List}
use Prim.Native.Nat.{ℕ, ◌+◌, ◌-◌, ◌≤◌}
use native.Mathlib.Omega.{arith}
use borrow.Author.Tests.{leb-true, leb-false, le-leb, lt-leb}
use lib.Dec.{leb}
use Rattle.semigroups.specs.Trials.{Work, work, followed}
use Rattle.semigroups.specs.InnerTrials.{and_then}
use Rattle.semigroups.proofs.Booleans.{same_truth}
use Rattle.std.specs.Prelude.{Option as Optional, None, Some, SomeIff, Ok, Err, is_some}
use Rattle.backtrack.specs.declared.Ended.{Ended}
use Rattle.backtrack.specs.declared.Stopped.{Stopped}
use Rattle.backtrack.specs.InnerState.{Remainder, exhausted, remaining, within, padded, ended_of}

-- ---- one work after another

-- Where no map is found, `go` goes on from the trials that are left.
abbrev pub resumed : Remainder → (ℕ → Remainder) → Remainder
resumed exhausted go = exhausted
resumed (remaining left none) go = go left
resumed (remaining left (some f)) go = remaining left (some f)

pub within_nothing : (limit : ℕ) (o : Option (List ℕ)) → within limit (work o 0) ≡ remaining limit o
unfolding within
within_nothing limit o = rw (le-leb 0 limit (omega arith)) (ap (λ (i : ℕ). remaining i o) (let z : limit - 0 ≡ limit = omega arith in z))

within_followed : (limit : ℕ) (o : Option (List ℕ)) (k : ℕ) (w : Work) → within limit (followed o k w) ≡ resumed (within limit (work o k)) (λ left. within left w)
unfolding within
within_followed limit (some f) k w = elim (leb k limit) as (λ b. cond b (remaining (limit - k) (some f)) exhausted ≡ resumed (cond b (remaining (limit - k) (some f)) exhausted) (λ left. within left w)) [ true ↦ refl | false ↦ refl ]
within_followed limit none k w = go (leb k limit) refl
  where
    same : k ≤ limit → leb (k + w.trials) limit ≡ leb w.trials (limit - k)
    same h =
        same_truth (leb (k + w.trials) limit) (leb w.trials (limit - k))
        (λ e. let u = leb-true (k + w.trials) limit e in le-leb w.trials (limit - k) (omega arith))
        (λ e. let u = leb-true w.trials (limit - k) e in le-leb (k + w.trials) limit (omega arith))

    go : (b : Bool) → leb k limit ≡ b → cond (leb (k + w.trials) limit) (remaining (limit - (k + w.trials)) w.found) exhausted ≡ resumed (cond b (remaining (limit - k) none) exhausted) (λ left. cond (leb w.trials left) (remaining (left - w.trials) w.found) exhausted)
    go true e =
        let h = leb-true k limit e in
        ap₂ (λ (b : Bool) (i : ℕ). cond b (remaining i w.found) exhausted) (same h) (let z : limit - (k + w.trials) ≡ limit - k - w.trials = omega arith in z)
    go false e = let h = leb-false k limit e in rw (lt-leb (k + w.trials) limit (omega arith))

-- Work without a trial takes nothing from the limit.
pub within_skip : (limit : ℕ) (w : Work) → within limit (and_then (work none 0) w) ≡ within limit w
within_skip limit w = within_followed limit none 0 w ∙ ap (λ (r : Remainder). resumed r (λ left. within left w)) (within_nothing limit none)

module _ (limit : ℕ) (v w : Work) where
  -- A trial is paid for first.
  within_trial : within limit (and_then (and_then (work none 1) v) w) ≡ resumed (resumed (within limit (work none 1)) (λ left. within left v)) (λ left. within left w)
  within_trial = within_followed limit v.found (1 + v.trials) w ∙ ap (λ (r : Remainder). resumed r (λ left. within left w)) (within_followed limit none 1 v)

  pub within_unpaid : exhausted ≡ within limit (work none 1) → within limit (and_then (and_then (work none 1) v) w) ≡ exhausted
  within_unpaid e = within_trial ∙ ap (λ (r : Remainder). resumed (resumed r (λ left. within left v)) (λ left. within left w)) (sym e)

  pub within_paid : (left : ℕ) → remaining left none ≡ within limit (work none 1) → within limit (and_then (and_then (work none 1) v) w) ≡ resumed (within left v) (λ i. within i w)
  within_paid left e = within_trial ∙ ap (λ (r : Remainder). resumed (resumed r (λ i. within i v)) (λ i. within i w)) (sym e)

-- ---- paying for a trial

-- What is left of the limit after one more trial, by a checked subtraction.
pub unpaid : (o : Optional ℕ) (left : ℕ) → SomeIff o (1 ≤ left) (left - 1) → o ≡ None → exhausted ≡ within left (work none 1)
unfolding within
unpaid None left h e = rw (lt-leb 1 left (omega arith))
unpaid (Some x) left h e = cc

pub paid : (o : Optional ℕ) (left rest : ℕ) → SomeIff o (1 ≤ left) (left - 1) → o ≡ Some rest → remaining rest none ≡ within left (work none 1)
unfolding within
paid None left rest h e = cc
paid (Some x) left rest h e = let k : rest ≡ left - 1 = cc h.1 in rw (le-leb 1 left h.0, k)

-- ---- what the result of a search says

module _ (go : ℕ → Remainder) where
  -- A search that is stopped, or finds a map, is over.
  pub over_stopped : (r : Remainder) (e : Stopped) → Err e ≡ ended_of r → resumed r go ≡ r
  unfolding ended_of
  over_stopped exhausted e h = refl
  over_stopped (remaining left o) e h = cc

  pub over_found : (r : Remainder) (d : Ended) → Ok d ≡ ended_of r → is_some d.map ≡ true → resumed r go ≡ r
  unfolding ended_of
  over_found exhausted d h e = cc
  over_found (remaining left none) d h e = let k : d ≡ record { left = left; map = None } = cc in absurd (false≢true (sym (ap (λ (x : Ended). is_some x.map) k) ∙ e))
  over_found (remaining left (some f)) d h e = refl

  -- Otherwise it goes on with what is left.
  pub not_over : (r : Remainder) (d : Ended) → Ok d ≡ ended_of r → is_some d.map ≡ false → resumed r go ≡ go d.left
  unfolding ended_of
  not_over exhausted d h e = cc
  not_over (remaining left none) d h e = let k : d ≡ record { left = left; map = None } = cc in ap (λ (x : Ended). go x.left) (sym k)
  not_over (remaining left (some f)) d h e =
      let k : d ≡ record { left = left; map = padded (some f) } = cc in absurd (false≢true (sym e ∙ ap (λ (x : Ended). is_some x.map) k))
