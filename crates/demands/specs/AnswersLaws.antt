-- What it means to get an answer every time: the call gives what was asked for exactly if what it needs holds, and else says which question failed earliest.
-- Assumes nothing.
use Rattle.std.specs.Prelude.{◌≡◌, ◌⊎◌, ◌↔◌, List}
use Rattle.std.proofs.Math.Option.{Option, none, some}
use Rattle.semigroups.specs.Questions.{Question, Refusal}
use Rattle.semigroups.specs.QuestionsLaws.{EarliestNo}
use Rattle.semigroups.specs.Calls.{Answer, refused, gives}

-- A call that asks questions and nothing else: it says the refusal by the earliest failed question, and there is none exactly if what it needs holds.
pub record Asks (says : Option Refusal) (questions : List Question) (Needs : Type 0) : Type 0 where
  pub refused_exactly : (r : Refusal) → (says ≡ some r) ↔ EarliestNo questions r
  pub passed_exactly : (says ≡ none) ↔ Needs

-- A call that is asked for a value: it gives that value exactly if what it needs holds, and else says the refusal by the earliest failed question.
pub record Answers {A : Type 0} (says : Answer A) (questions : List Question) (Needs : Type 0) (value : A) : Type 0 where
  pub every_time : (says ≡ gives value) ⊎ ((r : Refusal) × (says ≡ refused r))
  pub refused_exactly : (r : Refusal) → (says ≡ refused r) ↔ EarliestNo questions r
  pub given_exactly : (says ≡ gives value) ↔ Needs
