-- A "no" and the refusals of a table carry at most three values (`Brief`); and what an answer says that is a number or a "no". Assumes nothing.
use mathlib.Core.Path.{◌≡◌, refl}
use mathlib.Core.List.{[], ◌∷◌}
use Prim.Native.Nat.{ℕ}
use native.Mathlib.Omega.{arith}
use Rattle.semigroups.specs.InnerQuestions.{no}
use Rattle.semigroups.specs.Calls.{refused, gives}
use Rattle.std.specs.Prelude.{Ok, Err}
use Rattle.answers.specs.Answers.{no_refusal, fault_refusal, numbered_says}
use Rattle.answers.specs.AnswersLaws.{Brief}
use Rattle.answers.specs.declared.No.{No}
use Rattle.answers.specs.declared.No.TheVariants.{Bare, With, Triple as NoTriple}
use Rattle.answers.specs.declared.Fault.{Fault}
use Rattle.answers.specs.declared.Fault.TheVariants.{Order, Size, Cell, Triple}

pub no_brief : (r : No) → Brief (no_refusal r)
no_brief (Bare number) = omega arith
no_brief (With number value) = omega arith
no_brief (NoTriple i j k) = omega arith

pub fault_brief : (f : Fault) → Brief (fault_refusal f)
fault_brief Order = omega arith
fault_brief Size = omega arith
fault_brief (Cell k) = omega arith
fault_brief (Triple i j k) = omega arith

pub numbered_said : (x number value : ℕ) → (numbered_says (Ok x) ≡ gives x) × (numbered_says (Err (With number value)) ≡ refused (no number (value ∷ [])))
numbered_said x number value = (refl, refl)
