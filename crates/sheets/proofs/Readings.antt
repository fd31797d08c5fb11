-- Every text has a reading, and all its readings say the same. The idea: the automaton decides which one it is.
-- Assumes nothing.
use mathlib.Core.Path.{◌≡◌, refl, ap}
use mathlib.Core.Bool.{Bool, true, false}
use mathlib.Core.List.{List, [], ◌∷◌}
use mathlib.Core.Option.{Option, some}
use Prim.Native.Nat.{ℕ}
use Rattle.semigroups.proofs.Booleans.{clash}
use Rattle.sheets.specs.Readings.{Reading, passes, offends, offence}
use Rattle.sheets.specs.ReadingsLaws.{Readable, SameReading}
use Rattle.sheets.specs.InnerAutomaton.{accepts, place}
use Rattle.sheets.proofs.Soundness.{accepted_passes}
use Rattle.sheets.proofs.Completeness.{passes_accepted}
use Rattle.sheets.proofs.Places.{place_offending, offending_unique}
use Rattle.sheets.proofs.Rows.{same_rows}

pub read : Readable
read t = go (accepts t) refl
  where
    go : (b : Bool) → accepts t ≡ b → Reading t
    go true e = passes (accepted_passes t e)
    go false e = offends (place t) (λ p. clash (passes_accepted t p) e) (place_offending t)

pub same_reading : SameReading
same_reading t (passes p) (passes q) = (refl, same_rows t p q)
same_reading t (passes p) (offends k n o) = absurd (n p)
same_reading t (offends k n o) (passes p) = absurd (n p)
same_reading t (offends j m a) (offends k n b) = (ap {B = Option (List ℕ)} (λ (i : ℕ). some (i ∷ [])) (offending_unique t j k a b), refl)

-- Any reading of a text that the automaton does not accept has the automaton's place as its offending place.
pub refused_reading : (t : List ℕ) → accepts t ≡ false → (w : Reading t) → offence w ≡ some (place t ∷ [])
refused_reading t e (passes p) = absurd (clash (passes_accepted t p) e)
refused_reading t e (offends k n o) = ap {B = Option (List ℕ)} (λ (i : ℕ). some (i ∷ [])) (offending_unique t k (place t) o (place_offending t))
