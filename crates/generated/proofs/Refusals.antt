-- The refusals of the shorter check carry at most three values (`Brief` in `answers`). Assumes nothing.
use native.Mathlib.Omega.{arith}
use Rattle.answers.specs.AnswersLaws.{Brief}
use Rattle.answers.proofs.Refusals.{fault_brief}
use Rattle.generated.specs.Answers.{generators_fault_refusal}
use Rattle.generated.specs.declared.GeneratorsFault.{GeneratorsFault}
use Rattle.generated.specs.declared.GeneratorsFault.TheVariants.{Table, Entry, Elements}

pub generators_fault_brief : (f : GeneratorsFault) → Brief (generators_fault_refusal f)
generators_fault_brief (Table f) = fault_brief f
generators_fault_brief Entry = omega arith
generators_fault_brief Elements = omega arith
