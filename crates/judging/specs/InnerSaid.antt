-- When two answers about a table are the same (RULES 7). Assumes nothing.
use Rattle.std.specs.Prelude.{Bool, true, ◌&&◌, eqb, Result}
use Rattle.std.specs.Result.{result_eq}
use Rattle.plain.specs.declared.Said.{Said}

-- Whether the number and all three values are equal.
abbrev pub same_no : Said → Said → Bool
same_no a b = eqb a.number b.number && (eqb a.first b.first && (eqb a.second b.second && eqb a.third b.third))

-- Whether both accept the table, or both refuse it with the same number and values.
abbrev pub same_said : Result (Unit {0}) Said → Result (Unit {0}) Said → Bool
same_said = result_eq (λ u v. true) same_no
