-- What the answers of the shorter check mean (RULES 15 and 7): for each case the number of the question and the values said with it. Assumes nothing.
use Rattle.std.specs.Prelude.{[]}
use Rattle.semigroups.specs.Questions.{Refusal}
use Rattle.semigroups.specs.InnerQuestions.{no}
use Rattle.answers.specs.Answers.{fault_refusal}
use Rattle.generated.specs.declared.GeneratorsFault.{GeneratorsFault}
use Rattle.generated.specs.declared.GeneratorsFault.TheVariants.{Table, Entry, Elements}

-- The refusal of each fault: that of the table's fault; 50 and 51 carry nothing.
abbrev pub generators_fault_refusal : GeneratorsFault → Refusal
generators_fault_refusal (Table fault) = fault_refusal fault
generators_fault_refusal Entry = no 50 []
generators_fault_refusal Elements = no 51 []
