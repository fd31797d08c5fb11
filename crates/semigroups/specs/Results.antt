-- What Rust's `Option` and `Result` say in the words of the rules: an optional value, a refusal, an answer (RULES 7.1).
-- Assumes nothing.
use Rattle.std.specs.Prelude.{Option as Optional, None, Some, Result, Ok, Err}
use Rattle.std.proofs.Math.Option.{Option, none, some}
use Rattle.semigroups.specs.Questions.{Refusal}
use Rattle.semigroups.specs.Calls.{Answer, refused, gives}

-- The value of an `Option`, or none.
abbrev pub optional : {A : Type 0} → Optional A → Option A
optional None = none
optional (Some x) = some x

-- The refusal of a `Result` by what its error stands for; an `Ok` has none.
abbrev pub refusal_in : {A E : Type 0} → (E → Refusal) → Result A E → Option Refusal
refusal_in of (Ok x) = none
refusal_in of (Err e) = some (of e)

-- The answer of a `Result`: what its value stands for, or the refusal that its error stands for.
abbrev pub answer_in : {A B E : Type 0} → (A → B) → (E → Refusal) → Result A E → Answer B
answer_in value of (Ok x) = gives (value x)
answer_in value of (Err e) = refused (of e)
