-- What the answers about a table mean (RULES 7): for each case the number of the question and the values said with it.
-- Assumes nothing.
use Rattle.std.specs.Prelude.{[], ◌∷◌, ℕ, get_or, Result}
use Rattle.semigroups.specs.Questions.{Refusal}
use Rattle.semigroups.specs.InnerQuestions.{no, naming}
use Rattle.semigroups.specs.Calls.{Answer}
use Rattle.semigroups.specs.Results.{answer_in}
use Rattle.answers.specs.declared.Fault.{Fault}
use Rattle.answers.specs.declared.Fault.TheVariants.{Order, Size, Cell, Triple}
use Rattle.answers.specs.declared.No.{No}
use Rattle.answers.specs.declared.No.TheVariants.{Bare, With, Triple as NoTriple}
use Rattle.answers.specs.declared.Side.{Side}
use Rattle.answers.specs.declared.Side.TheVariants.{Source, Target}
use Rattle.answers.specs.declared.SideFault.{SideFault}
use Rattle.answers.specs.declared.Refusal.{Refusal as Numbers}

-- The refusal of each fault: 1 and 2 carry nothing, 3 carries the cell, 4 the triple.
abbrev pub fault_refusal : Fault → Refusal
fault_refusal Order = no 1 []
fault_refusal Size = no 2 []
fault_refusal (Cell k) = no 3 (k ∷ [])
fault_refusal (Triple i j k) = no 4 (i ∷ j ∷ k ∷ [])

-- The refusal of a "no": its number and its values.
abbrev pub no_refusal : No → Refusal
no_refusal (Bare number) = no number []
no_refusal (With number value) = no number (value ∷ [])
no_refusal (NoTriple i j k) = no 4 (i ∷ j ∷ k ∷ [])

-- What the answer says: a number, or the earliest failed question.
abbrev pub numbered_says : Result ℕ No → Answer ℕ
numbered_says said = answer_in (λ n. n) no_refusal said

-- The side as a number: 1 for source, 2 for target.
abbrev pub side_number : Side → ℕ
side_number Source = 1
side_number Target = 2

-- The refusal of one of two tables, which names its side.
abbrev pub side_refusal : SideFault → Refusal
side_refusal f = naming (side_number f.side) (fault_refusal f.fault)

-- ---- refusals as numbers

-- The number, the side and three values, with 0 for those that the refusal does not carry.
abbrev pub refusal_numbers : Refusal → Numbers
refusal_numbers r = record { number = r.number; side = r.side; first = get_or r.values 0 0; second = get_or r.values 1 0; third = get_or r.values 2 0 }

-- The numbers of a refusal, with this side.
abbrev pub numbers_naming : ℕ → Numbers → Numbers
numbers_naming side r = record { number = r.number; side = side; first = r.first; second = r.second; third = r.third }
