-- What the answers of a search mean (RULES 7 and 9.4). Assumes nothing.
use Rattle.semigroups.specs.Maps as maps
use Rattle.semigroups.specs.Calls.{Answer, refused, gives}
use Rattle.semigroups.specs.Trials.{Limited, stopped, ended}
use Rattle.questions.specs.Answers.{search_fault_refusal}
use Rattle.search.specs.declared.SearchAnswer.{SearchAnswer}
use Rattle.search.specs.declared.SearchAnswer.TheVariants as answer
use Rattle.search.specs.declared.LimitedAnswer.{LimitedAnswer}
use Rattle.search.specs.declared.LimitedAnswer.TheVariants as limited

-- What the answer of a search says.
abbrev pub search_answer_says : SearchAnswer → Answer maps.Sought
search_answer_says answer.Found = gives maps.found
search_answer_says answer.Nothing = gives maps.nothing
search_answer_says (answer.Refused fault) = refused (search_fault_refusal fault)

-- What the answer of a search with a limit says.
abbrev pub limited_answer_says : LimitedAnswer → Answer Limited
limited_answer_says (limited.Found trials) = gives (ended maps.found trials)
limited_answer_says (limited.Nothing trials) = gives (ended maps.nothing trials)
limited_answer_says limited.Stopped = gives stopped
limited_answer_says (limited.Refused fault) = refused (search_fault_refusal fault)
