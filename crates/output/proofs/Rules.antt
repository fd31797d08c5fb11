-- What RULES 21 says holds: each field is a law of its subject. Assumes nothing.
use mathlib.Core.Path.{◌≡◌, refl}
use mathlib.Core.List.{List, [], flat_map, flatten}
use mathlib.Core.Option.{none, or_else}
use Prim.Native.Nat.{ℕ}
use Rattle.semigroups.specs.Lists.{range, elements, at, all, find, first_of, lists}
use Rattle.semigroups.specs.Tables.{product, is_element, associates, bad_cell, bad_triple}
use Rattle.semigroups.specs.InnerQuestions.{no}
use Rattle.rfc4180.specs.Decimals.{is_digit, value, value_from}
use Rattle.rfc4180.specs.Records.{is_break, onto, records, fields, rows, rows_text}
use Rattle.rfc4180.specs.Tables.{fields_of, order_of, cells_of}
use Rattle.rfc4180.specs.Questions.{break_at, in_break, is_allowed, first_other, fields_questions, is_square}
use Rattle.files.specs.Files.{file_refusal, room}
use Rattle.files.proofs.Rules.{file_rules}
use Rattle.output.specs.Records.{refused_records}
use Rattle.output.specs.Program.{recue_output}
use Rattle.output.specs.Examples.{source_file}
use Rattle.output.specs.Rules.{RecueRules}
use Rattle.output.proofs.Program.{source_refused, target_refused, both_accepted, first_bytes_decide, example}

pub recue_rules : RecueRules
recue_rules =
    record {
      source_refused = source_refused;
      target_refused = target_refused;
      both_accepted = both_accepted;
      first_bytes_law = first_bytes_decide;
      example = example;
    }

-- ---- instances: an empty source, and an empty target after an accepted source; the example is one of two accepted files

empty_source : (target : List ℕ) → recue_output [] target ≡ rows_text (refused_records 1 (no 20 []))
empty_source target = recue_rules.source_refused [] target (no 20 []) file_rules.empty

source_passes : file_refusal source_file room ≡ none
unfolding source_file file_refusal is_digit value value_from is_break onto records fields rows fields_of order_of cells_of break_at in_break is_allowed first_other fields_questions is_square range elements at all find lists product is_element associates bad_cell bad_triple first_of or_else flat_map flatten
source_passes = refl

empty_target : recue_output source_file [] ≡ rows_text (refused_records 2 (no 20 []))
empty_target = recue_rules.target_refused source_file [] (no 20 []) source_passes file_rules.empty
