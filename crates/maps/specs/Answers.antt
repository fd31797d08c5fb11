-- What the answers of the map check mean (RULES 12 and 7). Assumes nothing.
use Rattle.std.specs.Prelude.{List, [], ◌∷◌, ℕ, Option as Optional, None, Some, Result, Ok, Err}
use Rattle.std.proofs.Math.Option.{Option, none, some}
use Rattle.semigroups.specs.Questions.{Refusal}
use Rattle.semigroups.specs.InnerQuestions.{no, naming}
use Rattle.semigroups.specs.Calls.{Answer}
use Rattle.semigroups.specs.Results.{answer_in}
use Rattle.semigroups.specs.MapCheck.{Checked, holds, outside, equal_images, wrong_product}
use Rattle.answers.specs.Answers.{fault_refusal, side_number}
use Rattle.maps.specs.declared.MapFault.{MapFault}
use Rattle.maps.specs.declared.MapFault.TheVariants.{Outside, EqualImages, WrongProduct}
use Rattle.maps.specs.declared.MapRefusal.{MapRefusal}
use Rattle.maps.specs.declared.MapRefusal.TheVariants.{Table, MapLength}

-- The number, side and values of each refusal.
abbrev pub map_refusal : MapRefusal → Refusal
map_refusal (Table side fault) = naming (side_number side) (fault_refusal fault)
map_refusal MapLength = no 5 []

-- What the check says by a fault: the element or the pair.
abbrev pub fault_says : MapFault → Checked
fault_says (Outside i) = outside i
fault_says (EqualImages i j) = equal_images (i ∷ j ∷ [])
fault_says (WrongProduct i j) = wrong_product (i ∷ j ∷ [])

-- What the check says of a map: its fault, or that it holds.
abbrev pub examined : Result Unit MapFault → Checked
examined (Ok x) = holds
examined (Err fault) = fault_says fault

-- What an answer of the code says.
abbrev pub map_answer_says : Result (Result Unit MapFault) MapRefusal → Answer Checked
map_answer_says said = answer_in examined map_refusal said

-- The pair, or none.
abbrev pub pair_option : Optional (ℕ × ℕ) → Option (List ℕ)
pair_option (Some p) = some (p.0 ∷ p.1 ∷ [])
pair_option None = none
