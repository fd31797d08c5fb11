use Rattle.std.proofs.Common.{◌≡◌, ap, ◌∙◌, ℕ, List, true, false, replicate}
use Rattle.std.specs.Prelude.{Some, None, Ok}
use mathlib.Core.Option.{none, some}
use Rattle.backtrack.specs.declared.Ended.{Ended}
use Rattle.backtrack.specs.declared.Outcome.{Outcome}
use Rattle.backtrack.specs.InnerState.{Remainder, exhausted, remaining, ended_of, outcome_of, images_in, padded}
use Rattle.backtrack.proofs.old.find_within.Goals as goal

told_found : (r : Remainder) (d : Ended) (image : List ℕ) → Ok d ≡ ended_of r → d.map ≡ Some image → record { stopped = false; left = d.left; ok = true; image = image } ≡ outcome_of r
unfolding ended_of outcome_of images_in
told_found exhausted d image h i = cc
told_found (remaining left none) d image h i = let k : d ≡ record { left = left; map = None } = cc in let m : d.map ≡ None = ap (λ (x : Ended). x.map) k in cc
told_found (remaining left (some f)) d image h i =
    let k : d ≡ record { left = left; map = padded (some f) } = cc in
    let m : d.map ≡ padded (some f) = ap (λ (x : Ended). x.map) k in
    let l : d.left ≡ left = ap (λ (x : Ended). x.left) k in
    cc

told_none : (r : Remainder) (d : Ended) → Ok d ≡ ended_of r → d.map ≡ None → record { stopped = false; left = d.left; ok = false; image = replicate 120 0 } ≡ outcome_of r
unfolding ended_of outcome_of images_in
told_none exhausted d h i = cc
told_none (remaining left none) d h i =
    let k : d ≡ record { left = left; map = None } = cc in
    ap {B = Outcome} (λ (x : Ended). record { stopped = false; left = x.left; ok = false; image = replicate 120 0 }) k
told_none (remaining left (some f)) d h i =
    let k : d ≡ record { left = left; map = padded (some f) } = cc in
    let m : d.map ≡ padded (some f) = ap (λ (x : Ended). x.map) k in
    cc

pub returns-in-Some : goal.returns-in-Some
returns-in-Some c = record { answer = told_found _ c.in-Ok.ended c.in-Some.image c.in-Ok.ensures.answer c.in-Some.is }

pub returns-in-None : goal.returns-in-None
returns-in-None c = record { answer = c.no_map.ensures.answer ∙ told_none _ c.in-Ok.ended c.in-Ok.ensures.answer c.in-None.is }
