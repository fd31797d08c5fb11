-- Whether an `Option` has a value, in the words of the definitions. Assumes nothing.
use Rattle.std.specs.Prelude.{true, false, Option as Optional, None, Some}
use Rattle.std.specs.Option.{is_some}
use Rattle.std.proofs.Common.{◌≡◌, refl}
use Rattle.std.proofs.Math.Option.{none, some}
use Rattle.semigroups.specs.Results.{optional}

module _ {A : Type 0} where
  pub present : (o : Optional A) → is_some o ≡ true → (x : A) × (optional o ≡ some x)
  present (Some x) e = (x, refl)
  present None e = cc

  pub absent : (o : Optional A) → is_some o ≡ false → optional o ≡ none
  absent (Some x) e = cc
  absent None e = refl
