-- The example of RULES 22.6, an empty file, a gap, fifty files and more, and names of files, computed at the definitions. Assumes nothing.
use mathlib.Core.Path.{◌≡◌, refl}
use mathlib.Core.List.{[], ◌∷◌, flat_map, flatten}
use mathlib.Core.Option.{or_else}
use Prim.Native.Nat.{ℕ}
use native.Mathlib.Omega.{arith}
use lib.ListN.{length}
use Rattle.semigroups.specs.Lists.{range, elements, at, all, find, keep, sum, count, least, first_of, member, distinct, lists}
use Rattle.semigroups.specs.Tables.{product, is_element, associates, bad_cell, bad_triple}
use Rattle.semigroups.specs.Maps.{is_homomorphism, is_embedding, is_isomorphism, maps, earliest}
use Rattle.rfc4180.specs.Decimals.{is_digit, value, value_from, numeral_within, numeral}
use Rattle.rfc4180.specs.Records.{is_break, onto, records, fields, rows, record_text, line_text, rows_text}
use Rattle.rfc4180.specs.Tables.{fields_of, order_of, cells_of}
use Rattle.rfc4180.specs.Questions.{break_at, in_break, is_allowed, first_other, fields_questions, is_square}
use Rattle.files.specs.Files.{file_refusal}
use Rattle.progress.specs.Classes.{files_from, files_of, accepted, isomorphic, holds_like, alike, file, lowest, note_of, notes_of}
use Rattle.progress.specs.Output.{note, names, lowest_files, members, total_record, note_records, total_records, notes_text, classes_output}
use Rattle.progress.specs.Held.{file_name}
use Rattle.classification.specs.Examples.{swap_file, null_file, classes_printed, ClassesExample, empty_printed, gap_folder, full_folder}
use Rattle.classification.specs.Laws.{IsAccepted}
use Rattle.progress.specs.Progress.{start}
use Rattle.classification.specs.ProgressLaws.{Goes}
use Rattle.classification.proofs.Progress.{goes}

pub example : ClassesExample
unfolding classes_output notes_text note_records total_records total_record members lowest_files names note notes_of note_of lowest file alike holds_like isomorphic accepted swap_file null_file classes_printed file_refusal is_digit value value_from numeral_within numeral is_break onto records fields rows record_text line_text rows_text fields_of order_of cells_of break_at in_break is_allowed first_other fields_questions is_square range elements at all find keep sum count least member distinct lists product is_element associates bad_cell bad_triple first_of is_homomorphism is_embedding is_isomorphism maps earliest or_else flat_map flatten
example = refl

-- Files 1 and 3 are accepted and in one class, that of file 1; file 2 is in another.
pub example_classes : IsAccepted (swap_file ∷ null_file ∷ swap_file ∷ []) 1 × IsAccepted (swap_file ∷ null_file ∷ swap_file ∷ []) 2 × IsAccepted (swap_file ∷ null_file ∷ swap_file ∷ []) 3
    × (lowest (swap_file ∷ null_file ∷ swap_file ∷ []) 3 ≡ 1) × (lowest (swap_file ∷ null_file ∷ swap_file ∷ []) 2 ≡ 2)
unfolding classes_output notes_text note_records total_records total_record members lowest_files names note notes_of note_of lowest file alike holds_like isomorphic accepted swap_file null_file classes_printed empty_printed file_refusal is_digit value value_from numeral_within numeral is_break onto records fields rows record_text line_text rows_text fields_of order_of cells_of break_at in_break is_allowed first_other fields_questions is_square range elements at all find keep sum count least member distinct lists product is_element associates bad_cell bad_triple first_of is_homomorphism is_embedding is_isomorphism maps earliest or_else flat_map flatten
example_classes = (((omega arith, omega arith), refl), ((omega arith, omega arith), refl), ((omega arith, omega arith), refl), refl, refl)

-- An empty file is refused by question 20.
pub empty_printed_law : classes_output ([] ∷ []) ≡ empty_printed
unfolding classes_output notes_text note_records total_records total_record members lowest_files names note notes_of note_of lowest file alike holds_like isomorphic accepted swap_file null_file classes_printed empty_printed file_refusal is_digit value value_from numeral_within numeral is_break onto records fields rows record_text line_text rows_text fields_of order_of cells_of break_at in_break is_allowed first_other fields_questions is_square range elements at all find keep sum count least member distinct lists product is_element associates bad_cell bad_triple first_of is_homomorphism is_embedding is_isomorphism maps earliest or_else flat_map flatten
empty_printed_law = refl

-- Reading stops at a gap, and after fifty files.
pub gap_read : files_of gap_folder ≡ swap_file ∷ swap_file ∷ []
unfolding files_of files_from gap_folder member
gap_read = refl

pub fifty_read : length (files_of full_folder) ≡ 50
unfolding files_of files_from full_folder
fifty_read = refl

-- The program goes on from its start.
pub start_goes : Goes start
start_goes = goes start (omega arith) (λ e. let z : ◌≡◌ {A = ℕ} 1 0 = e in let w : ⊥ = omega arith in w)

-- The names of files 1, 10 and 50.
pub first_name : file_name 1 ≡ 48 ∷ 49 ∷ 46 ∷ 99 ∷ 115 ∷ 118 ∷ []
unfolding file_name
first_name = refl

pub tenth_name : file_name 10 ≡ 49 ∷ 48 ∷ 46 ∷ 99 ∷ 115 ∷ 118 ∷ []
unfolding file_name
tenth_name = refl

pub last_name : file_name 50 ≡ 53 ∷ 48 ∷ 46 ∷ 99 ∷ 115 ∷ 118 ∷ []
unfolding file_name
last_name = refl
