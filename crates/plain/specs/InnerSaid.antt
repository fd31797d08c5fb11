-- The answer to the questions about a table, with the "no" as numbers (RULES 7). Assumes nothing.
use Rattle.std.specs.Prelude.{Result, Ok, Err}
use Rattle.std.proofs.Math.Option.{Option, none, some}
use Rattle.semigroups.specs.Lists.{at}
use Rattle.semigroups.specs.Questions.{Refusal}
use Rattle.plain.specs.declared.Said.{Said}

-- The number of the question and up to three values, with 0 for those that it does not carry.
abbrev pub refusal_said : Refusal → Said
refusal_said r = record { number = r.number; first = at r.values 1; second = at r.values 2; third = at r.values 3 }

-- The numbers of a refusal, if a question fails.
abbrev pub said_of : Option Refusal → Result (Unit {0}) Said
said_of none = Ok tt
said_of (some r) = Err (refusal_said r)
