-- When two answers about tables agree. Assumes nothing.
use Rattle.std.proofs.Common.{◌≡◌, refl, true, eq-eqb}
use Rattle.std.specs.Prelude.{Result, Ok, Err}
use Rattle.plain.specs.declared.Said.{Said}
use Rattle.judging.specs.InnerSaid.{same_said}

-- What is said agrees with itself.
pub same_said_itself : (a : Result (Unit {0}) Said) → same_said a a ≡ true
same_said_itself (Ok u) = refl
same_said_itself (Err a) = rw (eq-eqb a.number a.number refl, eq-eqb a.first a.first refl, eq-eqb a.second a.second refl, eq-eqb a.third a.third refl)
