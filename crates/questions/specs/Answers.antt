-- What the faults of a search mean (RULES 7): for each refusal the number, the side and the values. Assumes nothing.
use Rattle.std.specs.Prelude.{[]}
use Rattle.semigroups.specs.Questions.{Refusal}
use Rattle.semigroups.specs.InnerQuestions.{no, naming}
use Rattle.answers.specs.Answers.{fault_refusal, side_number}
use Rattle.questions.specs.declared.SearchFault.{SearchFault}
use Rattle.questions.specs.declared.SearchFault.TheVariants.{Table, MapLength, ScratchLength, PairsLength}

-- The refusal of each fault. Questions 1 to 4 name their side and carry the cell or the triple; 5, 6 and 70 name no side and carry nothing.
abbrev pub search_fault_refusal : SearchFault → Refusal
search_fault_refusal (Table side fault) = naming (side_number side) (fault_refusal fault)
search_fault_refusal MapLength = no 5 []
search_fault_refusal ScratchLength = no 6 []
search_fault_refusal PairsLength = no 70 []
