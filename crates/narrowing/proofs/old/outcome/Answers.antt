use Rattle.std.proofs.Common.{◌≡◌, refl, ap, ◌∙◌, ℕ, List, true, false, replicate, length, ◌++◌, ◌-◌}
use Rattle.std.specs.Prelude.{Option as Optional, Some, None}
use mathlib.Core.Option.{Option, none, some}
use Rattle.backtrack.specs.declared.Outcome.{Outcome}
use Rattle.backtrack.specs.InnerState.{outcome_of, images_in, padded, found_in}
use Rattle.narrowing.proofs.old.outcome.Goals as goal

some_is : (f : Optional (List ℕ)) (image : List ℕ) → f ≡ Some image → (o : Option (List ℕ)) → f ≡ padded o → record { stopped = false; left = 0; ok = true; image = image } ≡ found_in o
unfolding outcome_of images_in
some_is f image i none e = cc
some_is f image i (some g) e = let k : image ≡ g ++ replicate (120 - length g) 0 = cc in ap {B = Outcome} (λ (l : List ℕ). record { stopped = false; left = 0; ok = true; image = l }) k

none_is : (f : Optional (List ℕ)) → f ≡ None → (o : Option (List ℕ)) → f ≡ padded o → record { stopped = false; left = 0; ok = false; image = replicate 120 0 } ≡ found_in o
unfolding outcome_of images_in
none_is f i none e = refl
none_is f i (some g) e = cc

pub returns-in-Some : goal.returns-in-Some
returns-in-Some c = record { answer = some_is _ c.in-Some.image c.in-Some.is }

pub returns-in-None : goal.returns-in-None
returns-in-None c = record { answer = λ o e. c.no_map.ensures.answer ∙ none_is _ c.in-None.is o e }
