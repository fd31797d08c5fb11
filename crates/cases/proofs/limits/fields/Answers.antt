-- `fields` meets its contract: what RULES 23.4 says of the four texts is what the definition says. Assumes nothing.
use mathlib.Core.Path.{◌≡◌, refl}
use mathlib.Core.List.{List, [], ◌∷◌, flat_map, flatten}
use mathlib.Core.Option.{or_else}
use Prim.Native.Nat.{ℕ}
use Rattle.semigroups.specs.Lists.{range, at, all, find, first_of}
use Rattle.semigroups.specs.Tables.{is_element}
use Rattle.rfc4180.specs.Decimals.{is_digit, value, value_from}
use Rattle.rfc4180.specs.Records.{is_break, onto, records, fields, rows}
use Rattle.rfc4180.specs.Tables.{fields_of, order_of, cells_of}
use Rattle.rfc4180.specs.Questions.{break_at, in_break, is_allowed, first_other, is_square, fields_questions, load_refusal}
use Rattle.rfc4180.specs.InnerQuestions.{bytes_refusal, fields_refusal, field_refusal}
use Rattle.rfc4180.specs.Calls.{load_answer, cells_after}
use Rattle.std.specs.Prelude.{Result, Ok, Err}
use Rattle.plain.specs.declared.Said.{Said}
use Rattle.semigroups.specs.Copies.{same_list}
use Rattle.judging.specs.declared.tally.Tally.{Tally}
use Rattle.cases.specs.InnerAnswering.{numbered_tally}
use Rattle.judging.specs.InnerTally.{empty, agreed}
use Rattle.cases.proofs.limits.fields.Goals as goal

abbrev told : List ℕ → Result ℕ Said → ℕ → Tally → Tally
told text said cell = numbered_tally (load_answer text (7 ∷ 7 ∷ [])) said (cells_after text (7 ∷ 7 ∷ [])) (cell ∷ 7 ∷ [])

abbrev no : ℕ → Said
no number = record { number = number; first = 0; second = 0; third = 0 }

-- The texts 120, 121, 0 and 0001.
all_agree :
    told (48 ∷ 48 ∷ 48 ∷ 49 ∷ 13 ∷ 10 ∷ []) (Err (no 24)) 7 (told (48 ∷ 13 ∷ 10 ∷ []) (Err (no 24)) 7 (told (49 ∷ 50 ∷ 49 ∷ 13 ∷ 10 ∷ []) (Err (no 25)) 7 (told (49 ∷ 50 ∷ 48 ∷ 13 ∷ 10 ∷ []) (Ok 1) 120 empty)))
    ≡ agreed 8 empty
unfolding agreed same_list at range all find is_element first_of is_digit value value_from is_break onto records fields rows fields_of order_of cells_of break_at in_break is_allowed first_other bytes_refusal field_refusal fields_refusal is_square fields_questions load_refusal load_answer cells_after or_else flat_map flatten
all_agree = refl

pub returns : goal.returns
returns c = record { answer = cc all_agree }
