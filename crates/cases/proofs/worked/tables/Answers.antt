-- `tables` meets its contract: what RULES 23.2 says of the three tables is what the definition says. Assumes nothing.
use mathlib.Core.Path.{◌≡◌, refl}
use mathlib.Core.Bool.{true}
use Rattle.std.specs.Prelude.{Result, Err}
use mathlib.Core.List.{List, [], ◌∷◌, flat_map}
use mathlib.Core.Option.{or_else}
use Prim.Native.Nat.{ℕ}
use Rattle.semigroups.specs.Lists.{range, elements, at, find, lists, first_of}
use Rattle.semigroups.specs.Tables.{product, is_element, associates, bad_cell, bad_triple}
use Rattle.semigroups.specs.InnerQuestions.{cells_refusal}
use Rattle.semigroups.specs.Questions.{table_refusal}
use Rattle.plain.specs.declared.Said.{Said}
use Rattle.plain.specs.InnerSaid.{said_of}
use Rattle.judging.specs.InnerSaid.{same_said}
use Rattle.judging.specs.declared.tally.Tally.{Tally}
use Rattle.judging.specs.InnerTally.{empty, counted, agreed}
use Rattle.cases.proofs.worked.tables.Goals as goal

abbrev told : ℕ → List ℕ → Result (Unit {0}) Said → Tally → Tally
told n cells said t = counted (counted t (same_said (said_of (table_refusal n cells)) said)) true

-- Cases 1 to 3.
all_agree :
    told 0 [] (Err (record { number = 1; first = 0; second = 0; third = 0 }))
    (told 2 (1 ∷ 3 ∷ 1 ∷ 1 ∷ []) (Err (record { number = 3; first = 2; second = 0; third = 0 }))
    (told 2 (2 ∷ 1 ∷ 1 ∷ 1 ∷ []) (Err (record { number = 4; first = 1; second = 1; third = 2 })) empty))
    ≡ agreed 6 empty
unfolding agreed range elements at find lists product is_element associates bad_cell bad_triple first_of cells_refusal table_refusal or_else flat_map
all_agree = refl

pub returns : goal.returns
returns c = record { answer = cc all_agree }
